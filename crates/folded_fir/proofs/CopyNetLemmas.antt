-- A copy in a net.
use Rattle.std.proofs.Common.{◌≡◌, ℕ, suc, ◌+◌, ◌<◌, List, [], ◌∷◌, ◌++◌, length, length-append, get_or, refl, sym, ◌∙◌, ap, arith, subst, inl, inr, Some, slice_get}
use Rattle.net_graph.specs.declared.cell.Cell.{Cell}
use Rattle.net_graph.specs.declared.cell.Node.{Node}
use Rattle.net_graph.specs.declared.cell.Stream.{Stream}
use Rattle.net_graph.specs.declared.name.Name.{Name}
use Rattle.net_graph.specs.declared.name.NameKind.TheVariants.{Copy}
use Rattle.net_graph.specs.Cells.{NetView, cell_at}
use Rattle.net_graph.specs.Grow.{Extends}
use Rattle.net_graph.specs.WellFormed.{IsFree, IsLeastFree}
use Rattle.net_graph.proofs.GrowLemmas.{Grows-refl, Grows-trans}
use Rattle.net_graph.proofs.Lists.{slice_get_push_cases}
use Rattle.pipeline_balance.specs.Gate.{IsTaken}
use Rattle.pipeline_balance.specs.Numbered.{IsRegister, IsCounted, IsTouched, LeavesFree, name_of}
use Rattle.pipeline_balance.proofs.CostLemmas.{SameAdders-refl, SameAdders-trans, SameNamed-refl, SameNamed-trans}
use Rattle.pipeline_balance.proofs.NumberedLemmas.{IsRegister-later, IsCounted-leaves, IsCounted-more, LeavesFree-refl, LeavesFree-trans, least_is}
use Rattle.pipeline_balance.proofs.ShapeLemmas.{KeepsShapes-refl, KeepsShapes-trans}
use Rattle.pipeline_balance.proofs.TakenLemmas.{Holds-later}
use Rattle.pipeline_balance.proofs.WindowLemmas.{SameNamed-taken}
use Rattle.fir_pieces.specs.Cutting.{IsNarrowed}
use Rattle.folded_fir.specs.Copies.{IsCopy, AddsCopy, AddsCopies, taken_from}

pub IsCopy-later : {old new : List Cell} {group width : ℕ} {name : Name} {from : Stream} {to : Node} → Extends old new → IsCopy old group name from width to → IsCopy new group name from width to
IsCopy-later e c = record {
  register = IsRegister-later e c.register;
  narrow = c.narrow;
  keeps = λ cut law x v r. c.keeps cut law x v (e.runs cut law x v r);
  holds = Holds-later e c.holds;
}

-- a register that takes what is cut to its width
pub AddsCopy-taken : {old mid new : NetView} {from : Stream} {node to : Node} {width group number : ℕ} → group ≡ mid.group → IsNarrowed old mid from.node width node → IsLeastFree mid.cells group Copy number → IsTaken mid new (taken_from node from.period from.offset) (name_of group Copy number) to
    → AddsCopy old new from width to
AddsCopy-taken {old} {mid} {new} {from} {node} {to} {width} {group} {number} own n least t =
    let same = n.grows.group in
    record {
      grows = Grows-trans n.grows (t.grows own);
      adders = SameAdders-trans n.adders t.adders;
      named = SameNamed-trans n.named (SameNamed-taken refl refl t);
      copy = λ count c. record {
        register = subst (λ (w : ℕ). IsRegister new.cells to.place old.group (name_of old.group Copy count) w) n.wide
            (subst (λ (m : Name). IsRegister new.cells to.place old.group m (cell_at mid.cells node.place).width) (name_is count c)
            (subst (λ (g : ℕ). IsRegister new.cells to.place g (name_of group Copy number) (cell_at mid.cells node.place).width) same t.register));
        narrow = node;
        keeps = λ cut law x v r. n.keeps cut law x v (t.lengthens.extends.runs cut law x v r);
        holds = t.holds;
      };
      within = t.holds.within;
      counted = λ count c.
          let leaves : LeavesFree mid.cells new.cells (λ name. name ≡ name_of old.group Copy count) = subst (λ (m : Name). LeavesFree mid.cells new.cells (λ name. name ≡ m)) (name_is count c) t.names in
          let used : IsFree new.cells (name_of old.group Copy count) → ⊥ = subst (λ (m : Name). IsFree new.cells m → ⊥) (name_is count c) (λ f. f.none to.place t.register.cell t.register.there t.register.named) in
          IsCounted-more old.group Copy count t.lengthens.extends leaves used (mid_count count c);
      names = LeavesFree-trans old.cells mid.cells new.cells (λ name. ⊥) (λ name. name ≡ name_of group Copy number) (IsTouched old.group Copy) (λ name no. absurd no)
          (λ name h. inl (ap (λ (m : Name). m.group) h ∙ own ∙ same, ap (λ (m : Name). m.kind) h)) n.names t.names;
      linear = KeepsShapes-trans n.linear t.linear;
    }
  where
    mid_count : (count : ℕ) → IsCounted old.cells old.group Copy count → IsCounted mid.cells old.group Copy count
    mid_count count c = IsCounted-leaves old.group Copy count n.grows.extends n.names (λ number no. no) c

    name_is : (count : ℕ) → IsCounted old.cells old.group Copy count → name_of group Copy number ≡ name_of old.group Copy count
    name_is count c =
        let whole : group ≡ old.group = own ∙ n.grows.group in
        let number_is : number ≡ count = least_is mid.cells old.group Copy count number (mid_count count c) (subst (λ (g : ℕ). IsLeastFree mid.cells g Copy number) whole least) in
        ap (λ (g : ℕ). name_of g Copy number) whole ∙ ap (λ (k : ℕ). name_of old.group Copy k) number_is

-- ---- one after another

pub AddsCopies-none : (net : NetView) (period first : ℕ) (window : List Node) (widths : List ℕ) → AddsCopies net net period first window widths []
AddsCopies-none net period first window widths = record {
  grows = Grows-refl net;
  adders = SameAdders-refl net.cells;
  named = SameNamed-refl net.cells;
  each = λ count age from to c is there. absurd (cc);
  within = λ age to there. absurd (cc);
  counted = λ count c. let same : count ≡ count + 0 = omega arith in subst (λ (n : ℕ). IsCounted net.cells net.group Copy n) same c;
  names = LeavesFree-refl net.cells (IsTouched net.group Copy);
  linear = KeepsShapes-refl net.cells;
}

pub AddsCopies-push : {old mid new : NetView} {period first : ℕ} {window copies : List Node} {widths : List ℕ} {to : Node} (node : Node) (width : ℕ) → slice_get window (length copies) ≡ Some node → get_or widths (length copies) 0 ≡ width → AddsCopies old mid period first window widths copies
    → AddsCopy mid new (taken_from node period first) width to → AddsCopies old new period first window widths (copies ++ to ∷ [])
AddsCopies-push {old} {mid} {new} {period} {first} {window} {copies} {widths} {to} node width at wide p a =
    let same = p.grows.group in
    record {
      grows = Grows-trans p.grows a.grows;
      adders = SameAdders-trans p.adders a.adders;
      named = SameNamed-trans p.named a.named;
      each = λ count age from own c is there. elim (slice_get_push_cases copies to age own there) [
        | inl before ↦ IsCopy-later a.grows.extends (p.each count age from own c is before)
        | inr last ↦
            let found : from ≡ node = same_node age from is last.0 in
            let copy = a.copy (count + length copies) (subst (λ (g : ℕ). IsCounted mid.cells g Copy (count + length copies)) (sym same) (p.counted count c)) in
            let copy' : IsCopy new.cells old.group (name_of old.group Copy (count + length copies)) (taken_from node period first) width to = subst (λ (g : ℕ). IsCopy new.cells g (name_of g Copy (count + length copies)) (taken_from node period first) width to) same copy in
            let copy'' : IsCopy new.cells old.group (name_of old.group Copy (count + length copies)) (taken_from from period first) width to = subst (λ (m : Node). IsCopy new.cells old.group (name_of old.group Copy (count + length copies)) (taken_from m period first) width to) (sym found) copy' in
            let widened : IsCopy new.cells old.group (name_of old.group Copy (count + length copies)) (taken_from from period first) (get_or widths (length copies) 0) to = subst (λ (w : ℕ). IsCopy new.cells old.group (name_of old.group Copy (count + length copies)) (taken_from from period first) w to) (sym wide) copy'' in
            let placed : IsCopy new.cells old.group (name_of old.group Copy (count + age)) (taken_from from period first) (get_or widths age 0) to = subst (λ (k : ℕ). IsCopy new.cells old.group (name_of old.group Copy (count + k)) (taken_from from period first) (get_or widths k 0) to) (sym last.0) widened in
            subst (λ (m : Node). IsCopy new.cells old.group (name_of old.group Copy (count + age)) (taken_from from period first) (get_or widths age 0) m) (sym last.1) placed
      ];
      within = λ age own there. elim (slice_get_push_cases copies to age own there) [
        | inl before ↦ let inside = p.within age own before in let longer = a.grows.extends.longer in omega (arith, inside, longer)
        | inr last ↦ subst (λ (m : Node). m.place < length new.cells) (sym last.1) a.within
      ];
      counted = λ count c.
          let more = length-append copies (to ∷ []) in
          let next : suc (count + length copies) ≡ count + length (copies ++ to ∷ []) = omega (arith, more) in
          subst (λ (n : ℕ). IsCounted new.cells old.group Copy n) next
          (subst (λ (g : ℕ). IsCounted new.cells g Copy (suc (count + length copies))) same (a.counted (count + length copies) (subst (λ (g : ℕ). IsCounted mid.cells g Copy (count + length copies)) (sym same) (p.counted count c))));
      names = LeavesFree-trans old.cells mid.cells new.cells (IsTouched old.group Copy) (IsTouched mid.group Copy) (IsTouched old.group Copy) (λ name h. h) (λ name h. subst (λ (g : ℕ). IsTouched g Copy name) same h) p.names a.names;
      linear = KeepsShapes-trans p.linear a.linear;
    }
  where
    same_node : (age : ℕ) (from : Node) → slice_get window age ≡ Some from → age ≡ length copies → from ≡ node
    same_node age from is last = let there : slice_get window (length copies) ≡ Some from = subst (λ (k : ℕ). slice_get window k ≡ Some from) last is in let both : Some from ≡ Some node = sym there ∙ at in cc
