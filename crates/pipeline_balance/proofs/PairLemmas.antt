-- A register over one leaf or two.
use Rattle.mr_values.proofs.WidthLemmas.{wrap_zero, FitsWidth-zero}
use Rattle.std.proofs.Common.{◌≡◌, ℕ, suc, ◌+◌, ◌^◌, ◌<◌, ◌≤◌, List, [], ◌∷◌, length, refl, sym, ◌∙◌, ap, arith, Some, None, subst, ℤ, pos, neg_ℤ, ◌+ℤ◌, ◌-ℤ◌, ◌*ℤ◌, Bool, true, false, cond, inl}
use mathlib.Core.Bool.{beq}
use Rattle.std.proofs.lemmas.Int.{ints}
use Rattle.std.proofs.lemmas.Option.{slice_get_within}
use Rattle.mr_values.specs.Width.{wrap}
use Rattle.net_graph.proofs.CellLemmas.{cell_at-there, cell_at-is}
use Rattle.net_graph.proofs.GroupLemmas.{nameless_data}
use Rattle.net_graph.proofs.NetLemmas.{Extends-adds, IsRun-keeps, cell_of_added}
use Rattle.net_graph.proofs.GrowLemmas.{named_own, Grows-refl, Grows-trans, Grows-data, GrowsBut-register, GrowsBut-unbound, Grows-bind, Extends-grown, cell_of_grown}
use Rattle.net_graph.proofs.CountLemmas.{adders_plain, adders_more, adders_register, adders_bind}
use Rattle.net_graph.specs.declared.cell.Cell.{Cell}
use Rattle.net_graph.specs.declared.cell.Node.{Node}
use Rattle.net_graph.specs.declared.cell.Leaf.{Leaf}
use Rattle.net_graph.specs.declared.cell.Item.{Item}
use Rattle.net_graph.specs.declared.cell.Item.TheVariants.{Sub, Shl, Constant}
use Rattle.net_graph.specs.declared.name.Name.{Name}
use Rattle.net_graph.specs.declared.name.NameKind.TheVariants.{Register}
use Rattle.net_graph.specs.Cells.{NetView, cell_at}
use Rattle.net_graph.specs.Name.{is_control, is_input}
use Rattle.net_graph.specs.WellFormed.{IsFree, IsLeastFree}
use Rattle.net_graph.specs.Cut.{Cut, IsCut}
use Rattle.net_graph.specs.Run.{Values, Obeys, IsRun}
use Rattle.net_graph.specs.Grow.{Extends, Grows, Adds, IsBoundTo}
use Rattle.net_graph.specs.Count.{adders_in}
use Rattle.pipeline_balance.specs.Numbered.{AddsNext, IsRegister, IsCounted, IsTouched, LeavesFree, name_of}
use Rattle.pipeline_balance.specs.Leaves.{signed_by, leaf_value, all_negative, held_sum, IsLeaf, IsNegatable}
use Rattle.pipeline_balance.specs.Tree.{AddsNode, TakesNode, IsSum, AddsSum}
use Rattle.pipeline_balance.specs.Costs.{SameNamed}
use Rattle.pipeline_balance.specs.Shallow.{PassesPlain, SumsPlain, SumsLeaves}
use Rattle.net_graph.specs.Depth.{IsPlain, IsShallow}
use Rattle.net_graph.proofs.DepthLemmas.{IsPlain-later}
use Rattle.pipeline_balance.proofs.ShallowLemmas.{shallow_same, plain_register}
use Rattle.pipeline_balance.proofs.ShapeLemmas.{KeepsShapes-trans, KeepsShapes-register, KeepsShapes-bind}
use Rattle.pipeline_balance.proofs.CostLemmas.{SameNamed-refl, SameNamed-trans, SameNamed-adds, SameNamed-register, SameNamed-bind}
use Rattle.pipeline_balance.proofs.NumberedLemmas.{width-later, free_adds, free_register, free_bind, LeavesFree-refl, LeavesFree-trans, IsCounted-leaves, IsCounted-more, least_is}

pub IsLeaf-later : {old new : List Cell} {leaf : Leaf} → IsLeaf old leaf → Extends old new → IsLeaf new leaf
IsLeaf-later {old} {new} {leaf} l e =
    let same = width-later old new leaf.node.place e l.within in
    record {
      within = let m = e.longer in let n = l.within in omega arith;
      wide = let w = l.wide in omega arith;
      shifts = let s = l.shifts in omega arith;
    }

pub IsNegatable-later : {old new : List Cell} {leaf : Leaf} → IsLeaf old leaf → IsNegatable old leaf → Extends old new → IsNegatable new leaf
IsNegatable-later {old} {new} {leaf} l n e = let same = width-later old new leaf.node.place e l.within in record { room = let r = n.room in omega arith }

pub IsSum-later : {old new : List Cell} {leaves : List Leaf} {width : ℕ} {term : Leaf} → IsSum old leaves width term → Extends old new → IsSum new leaves width term
IsSum-later {old} {new} {leaves} {width} {term} s e = record {
  place = s.place;
  negative = s.negative;
  within = let m = e.longer in let n = s.within in omega arith;
  wide = width-later old new term.node.place e s.within ∙ s.wide;
  starts = λ cut law x v r. s.starts cut law x v (e.runs cut law x v r);
  holds = λ cut law x v r. s.holds cut law x v (e.runs cut law x v r);
}

-- ---- nodes

-- a node's value is kept by its cut
leaf_kept : (cut : Cut) → IsCut cut → (cells : List Cell) (x : ℕ → ℤ) (v : Values) → IsRun cut cells x v → (leaf : Leaf) → IsLeaf cells leaf → (t : ℕ) → cut (is_control (cell_at cells leaf.node.place)) (cell_at cells leaf.node.place).width (v t leaf.node.place) ≡ v t leaf.node.place
leaf_kept cut law cells x v r leaf l t = IsRun-keeps cut law cells x v leaf.node.place (cell_at cells leaf.node.place) r (cell_at-there cells leaf.node.place l.within) l.wide t

times_one : (z : ℤ) (place : ℕ) → place ≡ 0 → z ≡ z *ℤ pos (2 ^ place)
times_one z place e = rw e (one z)
  where
    one : (z : ℤ) → z ≡ z *ℤ pos 1
    one z = omega (arith, ints)

-- a node that a data group added, with what its item makes, cut to its width
pub AddsNode-adds : {old new : NetView} {node : Node} {width : ℕ} {item : Item} (adders : ℕ) (value : Cut → Values → ℕ → ℤ) → 1 ≤ old.group → Adds old new node width item → is_input (Some item) ≡ false → adders_in old.group new.cells ≡ adders_in old.group old.cells + adders
    → ((cut : Cut) → IsCut cut → (x : ℕ → ℤ) (v : Values) → IsRun cut new.cells x v → Obeys (cut false width) x v node.place (Some item) → (t : ℕ) → v t node.place ≡ value cut v t) → AddsNode old new adders node value
AddsNode-adds {old} {new} {node} {width} {item} adders value data_group a plain counts says = record {
  grows = Grows-data data_group a plain;
  counts = counts;
  same_named = SameNamed-adds a;
  names = record { free = λ name other f. free_adds a name f };
  computes = record {
    within = slice_get_within new.cells node.place _ (cell_of_added a);
    holds = λ cut law x v r.
        says cut law x v r
        (subst (λ (c : Bool). Obeys (cut c width) x v node.place (Some item)) (nameless_data old.group _ data_group) (r.each node.place _ (cell_of_added a)));
  };
}

-- a leaf's node, where it is not shifted
pub AddsNode-plain : (net : NetView) (leaf : Leaf) → leaf.place ≡ 0 → leaf.node.place < length net.cells → AddsNode net net 0 leaf.node (λ cut v t. v t leaf.node.place *ℤ pos (2 ^ leaf.place))
AddsNode-plain net leaf e h = record {
  grows = Grows-refl net;
  counts = omega arith;
  same_named = SameNamed-refl net.cells;
  names = LeavesFree-refl net.cells (λ name. ⊥);
  computes = record { within = h; holds = λ cut law x v r t. times_one (v t leaf.node.place) leaf.place e };
}

-- a leaf that is shifted by a node wide enough
pub AddsNode-shl : {old new : NetView} {to : Node} (leaf : Leaf) (width wide : ℕ) → 1 ≤ old.group → IsLeaf old.cells leaf → width ≡ (cell_at old.cells leaf.node.place).width → wide ≡ width + leaf.place → Adds old new to wide (Shl leaf.node leaf.place)
    → AddsNode old new 0 to (λ cut v t. v t leaf.node.place *ℤ pos (2 ^ leaf.place))
AddsNode-shl {old} {new} {to} leaf width wide data_group l same e a =
    AddsNode-adds 0 (λ cut v t. v t leaf.node.place *ℤ pos (2 ^ leaf.place)) data_group a refl (adders_plain old.group a refl ∙ omega arith)
    (λ cut law x v r o t.
    let kept = leaf_kept cut law old.cells x v ((Extends-adds a).runs cut law x v r) leaf l t in
    let scaled = law.data_scales (is_control (cell_at old.cells leaf.node.place)) (cell_at old.cells leaf.node.place).width leaf.place (v t leaf.node.place) l.wide kept in
    let wide_is : (cell_at old.cells leaf.node.place).width + leaf.place ≡ wide = omega arith in
    o t ∙ subst (λ (w : ℕ). cut false w (v t leaf.node.place *ℤ pos (2 ^ leaf.place)) ≡ v t leaf.node.place *ℤ pos (2 ^ leaf.place)) wide_is scaled)

-- ---- registers

-- a register that was added and bound holds its next's value of the tick before, cut to its width
pub TakesNode-bound : {old mid new : NetView} {register from : Node} {width group : ℕ} → 1 ≤ old.group → group ≡ old.group → 1 ≤ width → AddsNext old mid group Register width register → IsBoundTo mid new register from → TakesNode old new from width register
TakesNode-bound {old} {mid} {new} {register} {from} {width} {group} data_group same wide a b =
    let own : Cell = record { group = old.group; name = Some (name_of group Register a.number); width = width; item = None } in
    let p = GrowsBut-register a.adds in
    let name_is : name_of group Register a.number ≡ name_of old.group Register a.number = ap (λ (g : ℕ). name_of g Register a.number) same in
    let there = cell_of_grown p b in
    record {
      grows = Grows-bind (named_own own (name_of group Register a.number) refl same data_group) p wide b (λ is. absurd (cc));
      counts = adders_bind old.group (GrowsBut-unbound p) b ∙ adders_register old.group a.adds;
      same_named = SameNamed-trans (SameNamed-register refl refl a.adds) (SameNamed-bind (GrowsBut-unbound p) b);
      number = a.number;
      least = subst (λ (g : ℕ). IsLeastFree old.cells g Register a.number) same a.least;
      register = subst (λ (n : Name). IsRegister new.cells register.place old.group n width) name_is (record { cell = _; there = there; of_group = refl; named = refl; wide = refl; registered = (from, refl) });
      names = subst (λ (n : Name). LeavesFree old.cells new.cells (λ name. name ≡ n)) name_is (record { free = λ name other f. free_bind (GrowsBut-unbound p) b name (free_register a.adds name other f) });
      linear = KeepsShapes-trans (KeepsShapes-register a.adds) (KeepsShapes-bind (Extends-grown p wide b) (GrowsBut-unbound p) b);
      starts = λ cut law x v r. (r.each register.place _ there).0;
      steps = λ cut law x v r t. (r.each register.place _ there).1 t;
    }

-- ---- signs

pub same_signs : (m n : Bool) (a b : ℤ) → beq m n ≡ true → a +ℤ b ≡ signed_by (cond m n false) (signed_by m a +ℤ signed_by n b)
same_signs true true a b e = omega (arith, ints)
same_signs true false a b e = absurd (cc)
same_signs false true a b e = absurd (cc)
same_signs false false a b e = refl

pub second_sign : (m n : Bool) (a b : ℤ) → beq m n ≡ false → n ≡ true → a -ℤ b ≡ signed_by (cond m n false) (signed_by m a +ℤ signed_by n b)
second_sign true true a b d e = absurd (cc)
second_sign true false a b d e = absurd (cc)
second_sign false true a b d e = omega (arith, ints)
second_sign false false a b d e = absurd (cc)

pub first_sign : (m n : Bool) (a b : ℤ) → beq m n ≡ false → n ≡ false → b -ℤ a ≡ signed_by (cond m n false) (signed_by m a +ℤ signed_by n b)
first_sign true true a b d e = absurd (cc)
first_sign true false a b d e = omega (arith, ints)
first_sign false true a b d e = absurd (cc)
first_sign false false a b d e = absurd (cc)

no_more : (z : ℤ) → z +ℤ pos 0 ≡ z
no_more z = omega (arith, ints)

-- ---- the sums

and_true : (m n : Bool) → cond m (cond n true false) false ≡ cond m n false
and_true true true = refl
and_true true false = refl
and_true false n = refl

just_true : (m : Bool) → cond m true false ≡ m
just_true true = refl
just_true false = refl

held-two : (v : Values) (t : ℕ) (a b : Leaf) → held_sum v t (a ∷ b ∷ []) ≡ signed_by (cond a.negative b.negative false) (leaf_value v t a +ℤ leaf_value v t b)
held-two v t a b = rw (and_true a.negative b.negative, no_more (leaf_value v t b)) refl

held-one : (v : Values) (t : ℕ) (a : Leaf) → held_sum v t (a ∷ []) ≡ v t a.node.place *ℤ pos (2 ^ a.place)
held-one v t a = one a.negative (v t a.node.place *ℤ pos (2 ^ a.place))
  where
    one : (m : Bool) (z : ℤ) → signed_by (cond m true false) (signed_by m z +ℤ pos 0) ≡ z
    one true z = omega (arith, ints)
    one false z = omega (arith, ints)

-- the parts that both sums share: nodes before, and then a register
module _ {old mid new : NetView} {from register : Node} {width : ℕ} (adders : ℕ) (before : Grows old mid) (counts : adders_in old.group mid.cells ≡ adders_in old.group old.cells + adders) (names : LeavesFree old.cells mid.cells (λ name. ⊥)) (same_named : SameNamed old.cells mid.cells) (g : TakesNode mid new from width register) where
  counts_after : adders_in old.group new.cells ≡ adders_in old.group old.cells + adders
  counts_after = subst (λ (n : ℕ). adders_in n new.cells ≡ adders_in n mid.cells) before.group g.counts ∙ counts

  number_is : (count : ℕ) → IsCounted old.cells old.group Register count → g.number ≡ count
  number_is count c =
      let c' = IsCounted-leaves old.group Register count before.extends names (λ k no. no) c in
      least_is mid.cells old.group Register count g.number c' (subst (λ (n : ℕ). IsLeastFree mid.cells n Register g.number) before.group g.least)

  name_is : (count : ℕ) → IsCounted old.cells old.group Register count → name_of mid.group Register g.number ≡ name_of old.group Register count
  name_is count c = ap (λ (n : ℕ). name_of n Register g.number) before.group ∙ ap (λ (n : ℕ). name_of old.group Register n) (number_is count c)

  named_after : (count : ℕ) → IsCounted old.cells old.group Register count → IsRegister new.cells register.place old.group (name_of old.group Register count) width
  named_after count c = subst (λ (n : Name). IsRegister new.cells register.place old.group n width) (name_is count c) (subst (λ (n : ℕ). IsRegister new.cells register.place n (name_of mid.group Register g.number) width) before.group g.register)

  counted_after : (count : ℕ) → IsCounted old.cells old.group Register count → IsCounted new.cells old.group Register (suc count)
  counted_after count c =
      let c' = IsCounted-leaves old.group Register count before.extends names (λ k no. no) c in
      let used : IsFree new.cells (name_of old.group Register count) → ⊥ = λ f. let r = named_after count c in f.none register.place r.cell r.there r.named in
      IsCounted-more old.group Register count g.grows.extends (subst (λ (n : Name). LeavesFree mid.cells new.cells (λ name. name ≡ n)) (name_is count c) g.names) used c'

  names_after : LeavesFree old.cells new.cells (IsTouched old.group Register)
  names_after = LeavesFree-trans old.cells mid.cells new.cells (λ name. ⊥) (λ name. name ≡ name_of mid.group Register g.number) (IsTouched old.group Register) (λ name no. absurd no)
      (λ name h. inl (ap (λ (n : Name). n.group) h ∙ before.group, ap (λ (n : Name). n.kind) h)) names g.names

  shallow_after : IsShallow mid.cells old.group → IsShallow new.cells old.group
  shallow_after s = shallow_same old.group g.grows (subst (λ (n : ℕ). adders_in n new.cells ≡ adders_in n mid.cells) before.group g.counts) s

  pub AddsSum-register : (leaves : List Leaf) (negative : Bool) → negative ≡ all_negative leaves → SumsLeaves old mid leaves
      → ((cut : Cut) → IsCut cut → (x : ℕ → ℤ) (v : Values) → IsRun cut mid.cells x v → (t : ℕ) → cut false width (held_sum v t leaves) ≡ held_sum v t leaves → cut false width (v t from.place) ≡ held_sum v t leaves)
      → AddsSum old new leaves width adders (record { node = register; place = 0; negative = negative })
  AddsSum-register leaves negative sign sums is = record {
    grows = Grows-trans before g.grows;
    counts = counts_after;
    same_named = SameNamed-trans same_named g.same_named;
    sum = record {
      place = refl;
      negative = sign;
      within = slice_get_within new.cells register.place g.register.cell g.register.there;
      wide = ap (λ (c : Cell). c.width) (cell_at-is new.cells register.place g.register.cell g.register.there) ∙ g.register.wide;
      starts = g.starts;
      holds = λ cut law x v r t fits. g.steps cut law x v r t ∙ is cut law x v (g.grows.extends.runs cut law x v r) t fits;
    };
    sums = record { shallow = λ s plain. shallow_after (sums.shallow s plain); linear = KeepsShapes-trans sums.linear g.linear };
    plain = plain_register old.group g.register;
    named = named_after;
    counted = counted_after;
    names = names_after;
  }

names_both : (a b c : NetView) → LeavesFree a.cells b.cells (λ name. ⊥) → LeavesFree b.cells c.cells (λ name. ⊥) → LeavesFree a.cells c.cells (λ name. ⊥)
names_both a b c p q = LeavesFree-trans a.cells b.cells c.cells (λ name. ⊥) (λ name. ⊥) (λ name. ⊥) (λ name no. no) (λ name no. no) p q

counts_both : (a b c : NetView) (m n : ℕ) → b.group ≡ a.group → adders_in a.group b.cells ≡ adders_in a.group a.cells + m → adders_in b.group c.cells ≡ adders_in b.group b.cells + n → adders_in a.group c.cells ≡ adders_in a.group a.cells + (m + n)
counts_both a b c m n same p q =
    let q' : adders_in a.group c.cells ≡ adders_in a.group b.cells + n = subst (λ (g : ℕ). adders_in g c.cells ≡ adders_in g b.cells + n) same q in
    q' ∙ ap (λ (k : ℕ). k + n) p ∙ omega arith

-- the operands of the sum of two plain leaves are plain
sums_two : {old n1 n2 n3 : NetView} {left right : Node} (a b : Leaf) → Grows old n1 → Grows n1 n2 → Grows n2 n3 → PassesPlain old n1 a.node left → PassesPlain n1 n2 b.node right → SumsPlain n2 n3 left right → SumsLeaves old n3 (a ∷ b ∷ [])
sums_two {old} {n1} {n2} {n3} {left} {right} a b g1 g2 g3 pl pr ps = record {
  shallow = λ s plain.
      let s1 = pl.shallow s in
      let t1 : IsShallow n1.cells n1.group = subst (λ (k : ℕ). IsShallow n1.cells k) (sym g1.group) s1 in
      let s2 : IsShallow n2.cells n2.group = subst (λ (k : ℕ). IsShallow n2.cells k) (sym g2.group) (pr.shallow t1) in
      let both = g2.group ∙ g1.group in
      let a_left : IsPlain n2.cells old.group left.place = IsPlain-later n1.cells n2.cells old.group s1.bound g2.extends left.place (pl.plain s.bound (plain.each 0 a refl)) in
      let b_mid : IsPlain n1.cells n1.group b.node.place = subst (λ (k : ℕ). IsPlain n1.cells k b.node.place) (sym g1.group) (IsPlain-later old.cells n1.cells old.group s.bound g1.extends b.node.place (plain.each 1 b refl)) in
      let b_right : IsPlain n2.cells n2.group right.place = subst (λ (k : ℕ). IsPlain n2.cells k right.place) (sym g2.group) (pr.plain s1.bound b_mid) in
      subst (λ (k : ℕ). IsShallow n3.cells k) both (ps.shallow s2 (subst (λ (k : ℕ). IsPlain n2.cells k left.place) (sym both) a_left) b_right);
  linear = KeepsShapes-trans pl.linear (KeepsShapes-trans pr.linear ps.linear);
}

pub AddsSum-two : {old n1 n2 n3 new : NetView} {left right sum register : Node} (a b : Leaf) (width : ℕ) (negative : Bool)
    → AddsNode old n1 0 left (λ cut v t. v t a.node.place *ℤ pos (2 ^ a.place)) → AddsNode n1 n2 0 right (λ cut v t. v t b.node.place *ℤ pos (2 ^ b.place))
    → AddsNode n2 n3 1 sum (λ cut v t. cut false width (signed_by (cond a.negative b.negative false) (signed_by a.negative (v t left.place) +ℤ signed_by b.negative (v t right.place))))
    → TakesNode n3 new sum width register → negative ≡ cond a.negative b.negative false → PassesPlain old n1 a.node left → PassesPlain n1 n2 b.node right → SumsPlain n2 n3 left right
    → AddsSum old new (a ∷ b ∷ []) width 1 (record { node = register; place = 0; negative = negative })
AddsSum-two {old} {n1} {n2} {n3} {new} {left} {right} {sum} {register} a b width negative l r s g e pl pr ps =
    AddsSum-register 1 (Grows-trans l.grows (Grows-trans r.grows s.grows)) (counts_both old n1 n3 0 1 l.grows.group l.counts (counts_both n1 n2 n3 0 1 r.grows.group r.counts s.counts)) (names_both old n1 n3 l.names (names_both n1 n2 n3 r.names s.names)) (SameNamed-trans l.same_named (SameNamed-trans r.same_named s.same_named)) g (a ∷ b ∷ []) negative (e ∙ sym (and_true a.negative b.negative)) (sums_two a b l.grows r.grows s.grows pl pr ps)
    (λ cut law x v run t fits.
    let lefts = l.computes.holds cut law x v (r.grows.extends.runs cut law x v (s.grows.extends.runs cut law x v run)) t in
    let rights = r.computes.holds cut law x v (s.grows.extends.runs cut law x v run) t in
    let is : held_sum v t (a ∷ b ∷ []) ≡ signed_by (cond a.negative b.negative false) (signed_by a.negative (v t left.place) +ℤ signed_by b.negative (v t right.place)) =
    held-two v t a b ∙ rw (lefts, rights) refl in
    ap (cut false width) (s.computes.holds cut law x v run t ∙ ap (cut false width) (sym is) ∙ fits) ∙ fits)

pub AddsSum-one : {old mid new : NetView} {held register : Node} (a : Leaf) (width : ℕ) → AddsNode old mid 0 held (λ cut v t. v t a.node.place *ℤ pos (2 ^ a.place)) → TakesNode mid new held width register → PassesPlain old mid a.node held
    → AddsSum old new (a ∷ []) width 0 (record { node = register; place = 0; negative = a.negative })
AddsSum-one {old} {mid} {new} {held} {register} a width l g p =
    AddsSum-register 0 l.grows l.counts l.names l.same_named g (a ∷ []) a.negative (sym (just_true a.negative)) (record { shallow = λ s plain. p.shallow s; linear = p.linear })
    (λ cut law x v run t fits. ap (cut false width) (l.computes.holds cut law x v run t ∙ sym (held-one v t a)) ∙ fits)

-- ---- the root

-- a negative term taken from 0
pub AddsNode-negated : {old mid zeroed new : NetView} {held zero root : Node} (term : Leaf) (width wide : ℕ) → 1 ≤ old.group → term.negative ≡ true → IsLeaf mid.cells term → width ≡ (cell_at mid.cells term.node.place).width → wide ≡ width + term.place + 1
    → AddsNode old mid 0 held (λ cut v t. v t term.node.place *ℤ pos (2 ^ term.place)) → Adds mid zeroed zero 1 (Constant (wrap 1 (pos 0))) → Adds zeroed new root wide (Sub zero held)
    → AddsNode old new 1 root (λ cut v t. leaf_value v t term)
AddsNode-negated {old} {mid} {zeroed} {new} {held} {zero} {root} term width wide data_group negative leaf has is h z a =
    let mid_group : 1 ≤ mid.group = subst (λ (g : ℕ). 1 ≤ g) (sym h.grows.group) data_group in
    let zero_group : 1 ≤ zeroed.group = subst (λ (g : ℕ). 1 ≤ g) (sym z.group) mid_group in
    let gz = Grows-data mid_group z refl in
    let ga = Grows-data zero_group a refl in
    let own : Cell = cell_at mid.cells term.node.place in
    let counts2 : adders_in mid.group new.cells ≡ adders_in mid.group mid.cells + (0 + 1) = counts_both mid zeroed new 0 1 z.group (adders_plain mid.group z refl ∙ omega arith) (adders_more zeroed.group a refl refl) in
    record {
      grows = Grows-trans h.grows (Grows-trans gz ga);
      counts = counts_both old mid new 0 1 h.grows.group h.counts counts2;
      same_named = SameNamed-trans h.same_named (SameNamed-trans (SameNamed-adds z) (SameNamed-adds a));
      names = record { free = λ name other f. free_adds a name (free_adds z name (h.names.free name other f)) };
      computes = record {
        within = slice_get_within new.cells root.place _ (cell_of_added a);
        holds = λ cut law x v r t.
            let r_zero = ga.extends.runs cut law x v r in
            let r_mid = gz.extends.runs cut law x v r_zero in
            let value = v t term.node.place *ℤ pos (2 ^ term.place) in
            let kept = leaf_kept cut law mid.cells x v r_mid term leaf t in
            let scaled : cut false (own.width + term.place) value ≡ value = law.data_scales (is_control own) own.width term.place (v t term.node.place) leaf.wide kept in
            let negated = law.data_negates false (own.width + term.place) value (let w = leaf.wide in omega arith) scaled in
            let wide_is : own.width + term.place + 1 ≡ wide = omega arith in
            let fits : cut false wide (pos 0 -ℤ value) ≡ pos 0 -ℤ value = subst (λ (w : ℕ). cut false w (pos 0 -ℤ value) ≡ pos 0 -ℤ value) wide_is negated in
            let nothing : v t zero.place ≡ pos 0 =
            r_zero.each zero.place _ (cell_of_added z) t ∙ ap (λ (c : Bool). cut c 1 (wrap 1 (pos 0))) (nameless_data mid.group true mid_group) ∙ ap (cut false 1) (wrap_zero 1 (omega arith)) ∙ law.fitting false 1 (pos 0) (omega arith) (FitsWidth-zero 1) in
            let there : v t held.place ≡ value = h.computes.holds cut law x v r_mid t in
            r.each root.place _ (cell_of_added a) t ∙ ap (λ (c : Bool). cut c wide (v t zero.place -ℤ v t held.place)) (nameless_data zeroed.group true zero_group)
            ∙ ap (λ (b : ℤ). cut false wide (b -ℤ v t held.place)) nothing ∙ ap (λ (b : ℤ). cut false wide (pos 0 -ℤ b)) there ∙ fits
            ∙ minus value ∙ ap (λ (m : Bool). signed_by m value) (sym negative);
      };
    }
  where
    minus : (z : ℤ) → pos 0 -ℤ z ≡ neg_ℤ z
    minus z = omega (arith, ints)

pub AddsNode-positive : {old new : NetView} {held : Node} (term : Leaf) → term.negative ≡ false → AddsNode old new 0 held (λ cut v t. v t term.node.place *ℤ pos (2 ^ term.place)) → AddsNode old new 0 held (λ cut v t. leaf_value v t term)
AddsNode-positive term positive h = record {
  grows = h.grows;
  counts = h.counts;
  same_named = h.same_named;
  names = h.names;
  computes = record {
    within = h.computes.within;
    holds = λ cut law x v r t. h.computes.holds cut law x v r t ∙ ap (λ (m : Bool). signed_by m (v t term.node.place *ℤ pos (2 ^ term.place))) (sym positive);
  };
}
