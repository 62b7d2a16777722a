-- A tree, level by level.
use Rattle.std.proofs.Common.{◌≡◌, ℕ, zero, suc, ◌+◌, ◌-◌, ◌*◌, ◌/◌, ◌^◌, ◌<◌, ◌≤◌, List, [], ◌∷◌, ◌++◌, length, map, get_or, refl, sym, ◌∙◌, ap, arith, Some, slice_get, ◌⊎◌, inl, inr, subst, ℤ, pos, ◌+ℤ◌, ◌*ℤ◌, Bool, true, false, cond, length-append}
use Rattle.std.proofs.lemmas.Bool.{cases_eq}
use Rattle.std.proofs.lemmas.Int.{ints}
use Rattle.std.proofs.lemmas.Option.{slice_get_within}
use Rattle.mr_values.proofs.WidthLemmas.{wrap_zero, FitsWidth-zero}
use Rattle.mr_values.specs.Width.{wrap}
use Rattle.net_graph.specs.declared.cell.Cell.{Cell}
use Rattle.net_graph.specs.declared.cell.Node.{Node}
use Rattle.net_graph.specs.declared.cell.Leaf.{Leaf}
use Rattle.net_graph.specs.declared.cell.Item.TheVariants.{Constant}
use Rattle.net_graph.specs.declared.name.NameKind.TheVariants.{Register}
use Rattle.net_graph.specs.Cells.{NetView, cell_at}
use Rattle.net_graph.specs.WellFormed.{IsWidth, IsBound}
use Rattle.net_graph.specs.Cut.{Cut, IsCut}
use Rattle.net_graph.specs.Run.{Values, IsRun}
use Rattle.net_graph.specs.Grow.{Extends, Grows, Adds}
use Rattle.net_graph.specs.Count.{one_if, adders_in}
use Rattle.net_graph.proofs.GroupLemmas.{nameless_data}
use Rattle.net_graph.proofs.NetLemmas.{cell_of_added}
use Rattle.net_graph.proofs.GrowLemmas.{Grows-refl, Grows-trans, Grows-data}
use Rattle.net_graph.proofs.CountLemmas.{adders_plain}
use Rattle.pipeline_balance.specs.Numbered.{IsRegister, IsCounted, IsTouched, LeavesFree, name_of}
use Rattle.pipeline_balance.specs.Leaves.{delayed, signed_by, leaf_value, signed_sum, all_negative, held_sum, segment, IsLeaf, IsNegatable}
use Rattle.pipeline_balance.specs.Tree.{AddsNode, IsLevel, level_count, count_to, SumsFit, SumsFitAt, AreRegisters, tree_adders, IsTree}
use Rattle.pipeline_balance.specs.Costs.{SameNamed}
use Rattle.pipeline_balance.specs.Shallow.{HasPlainLeaves, KeepsShallow, SumsLeaves}
use Rattle.net_graph.specs.Depth.{IsPlain, IsShallow}
use Rattle.pipeline_balance.proofs.ShallowLemmas.{shallow_same}
use Rattle.pipeline_balance.proofs.CostLemmas.{SameNamed-refl, SameNamed-trans, SameNamed-adds}
use Rattle.pipeline_balance.specs.Shapes.{KeepsShapes}
use Rattle.pipeline_balance.proofs.ShapeLemmas.{KeepsShapes-refl, KeepsShapes-trans, KeepsShapes-adds}
use Rattle.pipeline_balance.proofs.NumberedLemmas.{width-later, IsRegister-later, IsCounted-leaves, LeavesFree-refl, LeavesFree-trans, free_adds}
use Rattle.pipeline_balance.proofs.PairLemmas.{IsNegatable-later}
use Rattle.pipeline_balance.proofs.SegmentLemmas.{delayed_same, StandFor, StandAt, HaveSigns, pair_sum, pair_sum_at, pair_negative, delayed-signed_by, level_count-zero, level_count-suc, count_to-mono, level_count_one, level_count-none, segment_leaf, segment_all}

-- ---- lists

slice_get-append_cases : {X : Type 0} (xs ys : List X) (k : ℕ) (x : X) → slice_get (xs ++ ys) k ≡ Some x → ((k < length xs) × (slice_get xs k ≡ Some x)) ⊎ ((j : ℕ) × (k ≡ length xs + j) × (slice_get ys j ≡ Some x))
slice_get-append_cases [] ys k x e = inr (k, omega arith, e)
slice_get-append_cases (y ∷ xs) ys zero x e = inl (omega arith, e)
slice_get-append_cases (y ∷ xs) ys (suc k) x e = elim (slice_get-append_cases xs ys k x e) [
  | inl before ↦ inl (let h = before.0 in omega arith, before.1)
  | inr after ↦ inr (after.0, let h = after.1 in omega arith, after.2)
]

slice_get_node : (terms : List Leaf) (j : ℕ) (node : Node) → slice_get (map (λ (term : Leaf). term.node) terms) j ≡ Some node → (term : Leaf) × (slice_get terms j ≡ Some term) × (term.node ≡ node)
slice_get_node [] j node e = absurd (cc)
slice_get_node (term ∷ terms) zero node e = (term, refl, cc)
slice_get_node (term ∷ terms) (suc j) node e = slice_get_node terms j node e

length_nodes : (terms : List Leaf) → length (map (λ (term : Leaf). term.node) terms) ≡ length terms
length_nodes [] = refl
length_nodes (term ∷ terms) = ap suc (length_nodes terms)

-- ---- values

kept-delayed : (cut : Cut) → IsCut cut → (w k t : ℕ) (f : ℕ → ℤ) → 1 ≤ w → ((s : ℕ) → cut false w (f s) ≡ f s) → cut false w (delayed k t f) ≡ delayed k t f
kept-delayed cut law w zero t f wide h = h t
kept-delayed cut law w (suc k) zero f wide h = law.fitting false w (pos 0) wide (FitsWidth-zero w)
kept-delayed cut law w (suc k) (suc t) f wide h = kept-delayed cut law w k t f wide h

signed_by_twice : (m : Bool) (z : ℤ) → signed_by m (signed_by m z) ≡ z
signed_by_twice true z = omega (arith, ints)
signed_by_twice false z = refl

times_one : (z : ℤ) (place : ℕ) → place ≡ 0 → z *ℤ pos (2 ^ place) ≡ z
times_one z place e = rw e (one z)
  where
    one : (z : ℤ) → z *ℤ pos 1 ≡ z
    one z = omega (arith, ints)

SumsFit-less : (cut : Cut) (v : Values) (leaves : List Leaf) (widths : List ℕ) (a b : ℕ) → a ≤ b → SumsFit cut v leaves widths b → SumsFit cut v leaves widths a
SumsFit-less cut v leaves widths a b h f level j lower j_in t = f level j (omega arith) j_in t

-- ---- the tree as far as a level

pub record IsPart (old net : NetView) (leaves : List Leaf) (widths : List ℕ) (level : ℕ) (terms : List Leaf) (registers : List Node) : Type 0 where
  pub grows : Grows old net
  pub are_leaves : (k : ℕ) (leaf : Leaf) → slice_get terms k ≡ Some leaf → IsLeaf net.cells leaf
  pub count : length terms ≡ level_count (length leaves) level
  pub signs : HaveSigns leaves terms level
  pub stand : (cut : Cut) → IsCut cut → (x : ℕ → ℤ) (v : Values) → IsRun cut net.cells x v → SumsFit cut v leaves widths level → StandFor v leaves terms level
  pub stand_at : (cut : Cut) → IsCut cut → (x : ℕ → ℤ) (v : Values) → IsRun cut net.cells x v → (t : ℕ) → SumsFitAt cut v leaves widths level t → StandAt v leaves terms level t
  pub held : AreRegisters net.cells leaves widths level registers
  pub first : level ≡ 0 → terms ≡ leaves
  pub wide : (before : ℕ) → level ≡ suc before → (k : ℕ) (term : Leaf) → slice_get terms k ≡ Some term → (term.place ≡ 0) × ((cell_at net.cells term.node.place).width ≡ get_or widths (count_to (length leaves) before + k) 0)
  pub adders : adders_in old.group net.cells + length terms ≡ adders_in old.group old.cells + length leaves
  pub same_named : SameNamed old.cells net.cells
  pub sums : SumsLeaves old net leaves
  pub plain : IsBound old.cells → HasPlainLeaves old.cells old.group leaves → HasPlainLeaves net.cells old.group terms
  pub named : (count : ℕ) → IsCounted old.cells old.group Register count → (k : ℕ) (node : Node) → slice_get registers k ≡ Some node → IsRegister net.cells node.place old.group (name_of old.group Register (count + k)) (get_or widths k 0)
  pub counted : (count : ℕ) → IsCounted old.cells old.group Register count → IsCounted net.cells old.group Register (count + length registers)
  pub names : LeavesFree old.cells net.cells (IsTouched old.group Register)

module _ (old mid new : NetView) (leaves terms sums : List Leaf) (widths : List ℕ) (level : ℕ) (registers : List Node) (p : IsPart old mid leaves widths level terms registers) (l : IsLevel mid new terms widths (length registers) sums)
    (each_wide : (k : ℕ) → k < length widths → IsWidth (get_or widths k 0)) (enough : length registers + (length terms + 1) / 2 ≤ length widths) where
  sum_count : length sums ≡ level_count (length leaves) (suc level)
  sum_count = l.many ∙ ap (λ (n : ℕ). (n + 1) / 2) p.count ∙ sym (level_count-suc (length leaves) level)

  pair_in : (j : ℕ) → j < length sums → j * 2 < length terms
  pair_in j h = let c = l.many in omega arith

  width_in : (j : ℕ) → j < length sums → IsWidth (get_or widths (length registers + j) 0)
  width_in j h = let c = l.many in each_wide (length registers + j) (omega arith)

  -- a new register holds the sum of its segment
  sum_held : (j : ℕ) (term : Leaf) → slice_get sums j ≡ Some term → (cut : Cut) → IsCut cut → (x : ℕ → ℤ) (v : Values) → IsRun cut new.cells x v → SumsFit cut v leaves widths (suc level)
      → (t : ℕ) → v t term.node.place ≡ delayed (suc level) t (λ s. held_sum v s (segment (suc level) j leaves))
  sum_held j term is cut law x v r fits zero = (l.each j term is).starts cut law x v r
  sum_held j term is cut law x v r fits (suc t) =
      let within : j < length sums = slice_get_within sums j term is in
      let inside = pair_in j within in
      let stand = p.stand cut law x v (l.grows.extends.runs cut law x v r) (SumsFit-less cut v leaves widths level (suc level) (omega arith) fits) in
      let sign = pair_negative leaves terms level p.count p.signs j inside in
      let value : held_sum v t (segment 1 j terms) ≡ delayed level t (λ s. held_sum v s (segment (suc level) j leaves)) =
      ap (λ (m : Bool). signed_by m (signed_sum v t (segment 1 j terms))) sign ∙ ap (signed_by (all_negative (segment (suc level) j leaves))) (pair_sum leaves terms level p.count v stand j inside t)
      ∙ delayed-signed_by (all_negative (segment (suc level) j leaves)) level t (λ s. signed_sum v s (segment (suc level) j leaves)) in
      let count = sum_count in
      let width = get_or widths (length registers + j) 0 in
      let each_fits = fits level j (omega arith) (omega arith) in
      let all_fit : cut false width (delayed level t (λ s. held_sum v s (segment (suc level) j leaves))) ≡ delayed level t (λ s. held_sum v s (segment (suc level) j leaves)) =
      kept-delayed cut law width level t _ (width_in j within).0
      (λ s. subst (λ (k : ℕ). cut false (get_or widths (k + j) 0) (held_sum v s (segment (suc level) j leaves)) ≡ held_sum v s (segment (suc level) j leaves)) (sym p.held.count) (each_fits s)) in
      (l.each j term is).holds cut law x v r t (subst (λ (z : ℤ). cut false width z ≡ z) (sym value) all_fit) ∙ value

  -- and the sum of one tick's leaves
  sum_held_at : (j : ℕ) (term : Leaf) → slice_get sums j ≡ Some term → (cut : Cut) → IsCut cut → (x : ℕ → ℤ) (v : Values) → IsRun cut new.cells x v → (t : ℕ) → SumsFitAt cut v leaves widths (suc level) t
      → v (t + suc level) term.node.place ≡ held_sum v t (segment (suc level) j leaves)
  sum_held_at j term is cut law x v r t fits =
      let within : j < length sums = slice_get_within sums j term is in
      let inside = pair_in j within in
      let stand = p.stand_at cut law x v (l.grows.extends.runs cut law x v r) t (λ lower i less i_in. fits lower i (omega arith) i_in) in
      let sign = pair_negative leaves terms level p.count p.signs j inside in
      let value : held_sum v (t + level) (segment 1 j terms) ≡ held_sum v t (segment (suc level) j leaves) =
      ap (λ (m : Bool). signed_by m (signed_sum v (t + level) (segment 1 j terms))) sign ∙ ap (signed_by (all_negative (segment (suc level) j leaves))) (pair_sum_at leaves terms level p.count v t stand j inside) in
      let count = sum_count in
      let own_fits = fits level j (omega arith) (omega arith) in
      let here = subst (λ (k : ℕ). cut false (get_or widths (k + j) 0) (held_sum v t (segment (suc level) j leaves)) ≡ held_sum v t (segment (suc level) j leaves)) (sym p.held.count) own_fits in
      let next : t + suc level ≡ suc (t + level) = omega arith in
      ap (λ (s : ℕ). v s term.node.place) next ∙ (l.each j term is).holds cut law x v r (t + level) (subst (λ (z : ℤ). cut false (get_or widths (length registers + j) 0) z ≡ z) (sym value) here) ∙ value

  sum_negative : HaveSigns leaves sums (suc level)
  sum_negative = record {
    each = λ j term is. (l.each j term is).negative ∙ pair_negative leaves terms level p.count p.signs j (pair_in j (slice_get_within sums j term is));
  }

  sum_stands : (cut : Cut) → IsCut cut → (x : ℕ → ℤ) (v : Values) → IsRun cut new.cells x v → SumsFit cut v leaves widths (suc level) → StandFor v leaves sums (suc level)
  sum_stands cut law x v r fits = record {
    each = λ j term is t.
        let m = all_negative (segment (suc level) j leaves) in
        ap (λ (b : Bool). signed_by b (v t term.node.place *ℤ pos (2 ^ term.place))) (sum_negative.each j term is) ∙ ap (signed_by m) (times_one (v t term.node.place) term.place (l.each j term is).place ∙ sum_held j term is cut law x v r fits t)
        ∙ delayed-signed_by m (suc level) t _ ∙ delayed_same (suc level) t _ _ (λ s. signed_by_twice m (signed_sum v s (segment (suc level) j leaves)));
  }

  sum_stands_at : (cut : Cut) → IsCut cut → (x : ℕ → ℤ) (v : Values) → IsRun cut new.cells x v → (t : ℕ) → SumsFitAt cut v leaves widths (suc level) t → StandAt v leaves sums (suc level) t
  sum_stands_at cut law x v r t fits = record {
    each = λ j term is.
        let m = all_negative (segment (suc level) j leaves) in
        ap (λ (b : Bool). signed_by b (v (t + suc level) term.node.place *ℤ pos (2 ^ term.place))) (sum_negative.each j term is)
        ∙ ap (signed_by m) (times_one (v (t + suc level) term.node.place) term.place (l.each j term is).place ∙ sum_held_at j term is cut law x v r t fits) ∙ signed_by_twice m (signed_sum v t (segment (suc level) j leaves));
  }

  sum_is_leaf : (k : ℕ) (term : Leaf) → slice_get sums k ≡ Some term → IsLeaf new.cells term
  sum_is_leaf k term is =
      let s = l.each k term is in
      let wide = width_in k (slice_get_within sums k term is) in
      let e = s.wide in
      let z = s.place in
      let low = wide.0 in
      let high = wide.1 in
      record { within = s.within; wide = omega arith; shifts = omega arith }

  more_count : length (registers ++ map (λ (term : Leaf). term.node) sums) ≡ count_to (length leaves) (suc level)
  more_count =
      let c = p.held.count in let d = sum_count in let e = length_nodes sums in let f = length-append registers (map (λ (term : Leaf). term.node) sums) in omega arith

  more_wide : (k : ℕ) (register : Node) → slice_get (registers ++ map (λ (term : Leaf). term.node) sums) k ≡ Some register → (register.place < length new.cells) × ((cell_at new.cells register.place).width ≡ get_or widths k 0)
  more_wide k register is = elim (slice_get-append_cases registers _ k register is) [
    | inl before ↦
        let was = p.held.each_wide k register before.1 in
        let longer = l.grows.extends.longer in
        let inside = was.0 in
        (omega arith, width-later mid.cells new.cells register.place l.grows.extends was.0 ∙ was.1)
    | inr after ↦
        let found = slice_get_node sums after.0 register after.2 in
        let s = l.each after.0 found.0 found.1 in
        let here : (found.0.node.place < length new.cells) × ((cell_at new.cells found.0.node.place).width ≡ get_or widths (length registers + after.0) 0) = (s.within, s.wide) in
        rw (after.1, ← found.2) here
  ]

  -- a register of a level is one of the levels before, or holds a new sum
  more_found : (lower j : ℕ) (register : Node) → lower < suc level → j < level_count (length leaves) (suc lower) → slice_get (registers ++ map (λ (term : Leaf). term.node) sums) (count_to (length leaves) lower + j) ≡ Some register
      → ((lower < level) × (slice_get registers (count_to (length leaves) lower + j) ≡ Some register)) ⊎ ((lower ≡ level) × (term : Leaf) × (slice_get sums j ≡ Some term) × (term.node ≡ register))
  more_found lower j register h within is = elim (slice_get-append_cases registers _ _ register is) [
    | inl before ↦ elim (cases_eq lower level) [
      | inl same ↦
          let c = p.held.count in
          let b = before.0 in
          let e : count_to (length leaves) lower ≡ count_to (length leaves) level = ap (count_to (length leaves)) same in
          absurd (omega arith)
      | inr other ↦ inl (omega arith, before.1)
    ]
    | inr after ↦
        let found = slice_get_node sums after.0 register after.2 in
        let c = p.held.count in
        let e = after.1 in
        elim (cases_eq lower level) [
          | inl same ↦
              let f : count_to (length leaves) lower ≡ count_to (length leaves) level = ap (count_to (length leaves)) same in
              let place : after.0 ≡ j = omega arith in
              inr (same, found.0, subst (λ (k : ℕ). slice_get sums k ≡ Some found.0) place found.1, found.2)
          | inr other ↦
              let m : count_to (length leaves) (suc lower) ≤ count_to (length leaves) level = count_to-mono (length leaves) (suc lower) level (omega arith) in
              absurd (omega arith)
        ]
  ]

  more_held : (cut : Cut) → IsCut cut → (x : ℕ → ℤ) (v : Values) → IsRun cut new.cells x v → SumsFit cut v leaves widths (suc level) → (lower j : ℕ) (register : Node) → lower < suc level → j < level_count (length leaves) (suc lower)
      → slice_get (registers ++ map (λ (term : Leaf). term.node) sums) (count_to (length leaves) lower + j) ≡ Some register
      → (t : ℕ) → v t register.place ≡ delayed (suc lower) t (λ s. held_sum v s (segment (suc lower) j leaves))
  more_held cut law x v r fits lower j register h within is t = elim (more_found lower j register h within is) [
    | inl before ↦ p.held.holds cut law x v (l.grows.extends.runs cut law x v r) (SumsFit-less cut v leaves widths level (suc level) (omega arith) fits) lower j register before.0 within before.1 t
    | inr after ↦ ap (λ (n : Node). v t n.place) (sym after.3) ∙ sum_held j after.1 after.2 cut law x v r fits t ∙ rw after.0 refl
  ]

  more_held_at : (cut : Cut) → IsCut cut → (x : ℕ → ℤ) (v : Values) → IsRun cut new.cells x v → (t : ℕ) → SumsFitAt cut v leaves widths (suc level) t → (lower j : ℕ) (register : Node) → lower < suc level → j < level_count (length leaves) (suc lower)
      → slice_get (registers ++ map (λ (term : Leaf). term.node) sums) (count_to (length leaves) lower + j) ≡ Some register → v (t + suc lower) register.place ≡ held_sum v t (segment (suc lower) j leaves)
  more_held_at cut law x v r t fits lower j register h within is = elim (more_found lower j register h within is) [
    | inl before ↦ p.held.holds_at cut law x v (l.grows.extends.runs cut law x v r) t (λ under i less i_in. fits under i (omega arith) i_in) lower j register before.0 within before.1
    | inr after ↦ ap (λ (n : Node). v (t + suc lower) n.place) (sym after.3) ∙ ap (λ (k : ℕ). v (t + suc k) after.1.node.place) after.0 ∙ sum_held_at j after.1 after.2 cut law x v r t fits ∙ rw after.0 refl
  ]

  -- in the old net's group
  in_group : (count : ℕ) → IsCounted old.cells old.group Register count → IsCounted mid.cells mid.group Register (count + length registers)
  in_group count c = subst (λ (g : ℕ). IsCounted mid.cells g Register (count + length registers)) (sym p.grows.group) (p.counted count c)

  more_named : (count : ℕ) → IsCounted old.cells old.group Register count → (k : ℕ) (node : Node) → slice_get (registers ++ map (λ (term : Leaf). term.node) sums) k ≡ Some node → IsRegister new.cells node.place old.group (name_of old.group Register (count + k)) (get_or widths k 0)
  more_named count c k node is = elim (slice_get-append_cases registers _ k node is) [
    | inl before ↦ IsRegister-later l.grows.extends (p.named count c k node before.1)
    | inr after ↦
        let found = slice_get_node sums after.0 node after.2 in
        let here = l.named (count + length registers) (in_group count c) after.0 found.0 found.1 in
        let here' : IsRegister new.cells found.0.node.place old.group (name_of old.group Register (count + length registers + after.0)) (get_or widths (length registers + after.0) 0) =
        subst (λ (g : ℕ). IsRegister new.cells found.0.node.place g (name_of g Register (count + length registers + after.0)) (get_or widths (length registers + after.0) 0)) p.grows.group here in
        let sum : count + length registers + after.0 ≡ count + (length registers + after.0) = omega arith in
        let whole : IsRegister new.cells found.0.node.place old.group (name_of old.group Register (count + (length registers + after.0))) (get_or widths (length registers + after.0) 0) =
        subst (λ (n : ℕ). IsRegister new.cells found.0.node.place old.group (name_of old.group Register n) (get_or widths (length registers + after.0) 0)) sum here' in
        subst (λ (n : ℕ). IsRegister new.cells node.place old.group (name_of old.group Register (count + n)) (get_or widths n 0)) (sym after.1)
        (subst (λ (m : Node). IsRegister new.cells m.place old.group (name_of old.group Register (count + (length registers + after.0))) (get_or widths (length registers + after.0) 0)) found.2 whole)
  ]

  more_counted : (count : ℕ) → IsCounted old.cells old.group Register count → IsCounted new.cells old.group Register (count + length (registers ++ map (λ (term : Leaf). term.node) sums))
  more_counted count c =
      let here : IsCounted new.cells old.group Register (count + length registers + length sums) =
      subst (λ (g : ℕ). IsCounted new.cells g Register (count + length registers + length sums)) p.grows.group (l.counted (count + length registers) (in_group count c)) in
      let e = length_nodes sums in
      let f = length-append registers (map (λ (term : Leaf). term.node) sums) in
      let sum : count + length registers + length sums ≡ count + length (registers ++ map (λ (term : Leaf). term.node) sums) = omega arith in
      subst (λ (n : ℕ). IsCounted new.cells old.group Register n) sum here

  pub IsPart-step : IsPart old new leaves widths (suc level) sums (registers ++ map (λ (term : Leaf). term.node) sums)
  IsPart-step = record {
    grows = Grows-trans p.grows l.grows;
    are_leaves = sum_is_leaf;
    count = sum_count;
    signs = sum_negative;
    stand = sum_stands;
    stand_at = sum_stands_at;
    held = record { count = more_count; each_wide = more_wide; holds = more_held; holds_at = more_held_at };
    first = λ e. absurd (omega arith);
    wide = λ before e k term is.
        let same : before ≡ level = omega arith in
        let s = l.each k term is in
        (s.place, rw (same, ← p.held.count) s.wide);
    adders =
        let now : adders_in old.group new.cells + length sums ≡ adders_in old.group mid.cells + length terms = subst (λ (g : ℕ). adders_in g new.cells + length sums ≡ adders_in g mid.cells + length terms) p.grows.group l.counts in
        now ∙ p.adders;
    same_named = SameNamed-trans p.same_named l.same_named;
    sums = record {
      shallow = λ s plain.
          let s1 = p.sums.shallow s plain in
          subst (λ (g : ℕ). IsShallow new.cells g) p.grows.group
          (l.sums.shallow (subst (λ (g : ℕ). IsShallow mid.cells g) (sym p.grows.group) s1) (subst (λ (g : ℕ). HasPlainLeaves mid.cells g terms) (sym p.grows.group) (p.plain s.bound plain)));
      linear = KeepsShapes-trans p.sums.linear l.sums.linear;
    };
    plain = λ bound plain. subst (λ (g : ℕ). HasPlainLeaves new.cells g sums) p.grows.group (l.plain (p.grows.bound bound));
    named = more_named;
    counted = more_counted;
    names = LeavesFree-trans old.cells mid.cells new.cells (IsTouched old.group Register) (IsTouched mid.group Register) (IsTouched old.group Register) (λ name h. h) (λ name h. subst (λ (g : ℕ). IsTouched g Register name) p.grows.group h) p.names l.names;
  }

pub IsPart-start : (net : NetView) (leaves : List Leaf) (widths : List ℕ) → ((k : ℕ) (leaf : Leaf) → slice_get leaves k ≡ Some leaf → IsLeaf net.cells leaf) → IsPart net net leaves widths 0 leaves []
IsPart-start net leaves widths h = record {
  grows = Grows-refl net;
  are_leaves = h;
  count = sym (level_count-zero (length leaves));
  signs = record { each = λ j leaf is. sym (ap all_negative (segment_leaf leaves j leaf is) ∙ just leaf.negative) };
  stand = λ cut law x v r fits. record { each = λ j leaf is t. sym (ap (signed_sum v t) (segment_leaf leaves j leaf is) ∙ alone (leaf_value v t leaf)) };
  stand_at = λ cut law x v r t fits. record {
    each = λ j leaf is. let same : t + 0 ≡ t = omega arith in ap (λ (s : ℕ). leaf_value v s leaf) same ∙ sym (ap (signed_sum v t) (segment_leaf leaves j leaf is) ∙ alone (leaf_value v t leaf));
  };
  held = record { count = refl; each_wide = λ k register is. absurd (cc); holds = λ cut law x v r fits lower j register h. absurd (omega arith); holds_at = λ cut law x v r t fits lower j register h. absurd (omega arith) };
  first = λ e. refl;
  wide = λ before e. absurd (omega arith);
  adders = refl;
  same_named = SameNamed-refl net.cells;
  sums = record { shallow = λ s plain. s; linear = KeepsShapes-refl net.cells };
  plain = λ bound plain. plain;
  named = λ count c k node is. absurd (cc);
  counted = λ count c. let same : count ≡ count + 0 = omega arith in subst (λ (n : ℕ). IsCounted net.cells net.group Register n) same c;
  names = LeavesFree-refl net.cells (IsTouched net.group Register);
}
  where
    just : (m : Bool) → cond m true false ≡ m
    just true = refl
    just false = refl

    alone : (z : ℤ) → z +ℤ pos 0 ≡ z
    alone z = omega (arith, ints)

-- the next level has its widths
pub IsPart-enough : {old net : NetView} {leaves : List Leaf} {widths : List ℕ} {level : ℕ} {terms : List Leaf} {registers : List Node} (levels : ℕ) → IsPart old net leaves widths level terms registers → level < levels → length widths ≡ count_to (length leaves) levels
    → length registers + (length terms + 1) / 2 ≤ length widths
IsPart-enough {leaves = leaves} {level = level} {terms = terms} levels p h e =
    let more = count_to-mono (length leaves) (suc level) levels h in
    let c = p.held.count in
    let d : (length terms + 1) / 2 ≡ level_count (length leaves) (suc level) = ap (λ (n : ℕ). (n + 1) / 2) p.count ∙ sym (level_count-suc (length leaves) level) in
    omega arith

AreRegisters-later : {old new : List Cell} {leaves : List Leaf} {widths : List ℕ} {levels : ℕ} {registers : List Node} → AreRegisters old leaves widths levels registers → Extends old new → AreRegisters new leaves widths levels registers
AreRegisters-later {old} {new} h e = record {
  count = h.count;
  each_wide = λ k register is.
      let was = h.each_wide k register is in
      let longer = e.longer in
      let inside = was.0 in
      (omega arith, width-later old new register.place e was.0 ∙ was.1);
  holds = λ cut law x v r. h.holds cut law x v (e.runs cut law x v r);
  holds_at = λ cut law x v r. h.holds_at cut law x v (e.runs cut law x v r);
}

module _ (old net : NetView) (leaves terms : List Leaf) (widths : List ℕ) (levels : ℕ) (registers : List Node) (p : IsPart old net leaves widths levels terms registers) (deep : length leaves ≤ 2 ^ levels) (some : 1 ≤ length leaves) where
  -- one term is left
  pub one_term : length terms ≡ 1
  one_term = p.count ∙ level_count_one (length leaves) levels deep some

  -- the last term is negative where all leaves are
  root_sign : (term : Leaf) → slice_get terms 0 ≡ Some term → term.negative ≡ all_negative leaves
  root_sign term is = p.signs.each 0 term is ∙ ap all_negative (segment_all levels leaves deep)

  -- a negated root has room
  pub root_has_room : (term : Leaf) → slice_get terms 0 ≡ Some term → length widths ≡ count_to (length leaves) levels
      → (all_negative leaves ≡ true → levels ≡ 0 → (k : ℕ) (leaf : Leaf) → slice_get leaves k ≡ Some leaf → IsNegatable old.cells leaf)
      → (all_negative leaves ≡ true → 1 ≤ levels → get_or widths (length widths - 1) 0 ≤ 127)
      → ((k : ℕ) (leaf : Leaf) → slice_get leaves k ≡ Some leaf → IsLeaf old.cells leaf) → term.negative ≡ true → IsNegatable net.cells term
  root_has_room term is each leaf_room root_room are_leaves negative =
      let all : all_negative leaves ≡ true = sym (root_sign term is) ∙ negative in
      elim (cases_eq levels 0) [
        | inl none ↦
            let is' : slice_get leaves 0 ≡ Some term = subst (λ (xs : List Leaf). slice_get xs 0 ≡ Some term) (p.first none) is in
            IsNegatable-later (are_leaves 0 term is') (leaf_room all none 0 term is') p.grows.extends
        | inr more ↦
            let before : ℕ = levels - 1 in
            let e : levels ≡ suc before = omega arith in
            let w = p.wide before e 0 term is in
            let room = root_room all (omega arith) in
            let one = level_count_one (length leaves) levels deep some in
            let last : length widths ≡ count_to (length leaves) before + level_count (length leaves) levels = each ∙ ap (count_to (length leaves)) e ∙ ap (λ (l : ℕ). count_to (length leaves) before + level_count (length leaves) l) (sym e) in
            let index : length widths - 1 ≡ count_to (length leaves) before + 0 = omega arith in
            let room' : get_or widths (count_to (length leaves) before + 0) 0 ≤ 127 = subst (λ (k : ℕ). get_or widths k 0 ≤ 127) index room in
            let same = w.1 in
            let z = w.0 in
            record { room = omega arith }
      ]

  -- as many adders as the tree has
  all_adders : (xs : List Leaf) → 1 ≤ length xs → tree_adders xs + 1 ≡ length xs + one_if (all_negative xs)
  all_adders [] h = absurd (omega arith)
  all_adders (x ∷ xs) h = by_sign (all_negative (x ∷ xs))
    where
      by_sign : (m : Bool) → (let more : ℕ = suc (length xs) in cond m more (length xs)) + 1 ≡ length (x ∷ xs) + one_if m
      by_sign true = omega arith
      by_sign false = omega arith

  -- the tree with its root
  pub IsTree-root : (new : NetView) (term : Leaf) (root : Node) → slice_get terms 0 ≡ Some term → AddsNode net new (one_if term.negative) root (λ cut v t. leaf_value v t term) → KeepsShallow net new term.node → KeepsShapes net.cells new.cells → IsTree old new leaves widths levels registers root
  IsTree-root new term root is n kept shapes = record {
    grows = Grows-trans p.grows n.grows;
    within = n.computes.within;
    held = AreRegisters-later p.held n.grows.extends;
    sums = λ cut law x v r fits t.
        n.computes.holds cut law x v r t ∙ (p.stand cut law x v (n.grows.extends.runs cut law x v r) fits).each 0 term is t ∙ delayed_same levels t _ _ (λ s. ap (signed_sum v s) (segment_all levels leaves deep));
    sums_at = λ cut law x v r t fits.
        n.computes.holds cut law x v r (t + levels) ∙ (p.stand_at cut law x v (n.grows.extends.runs cut law x v r) t fits).each 0 term is ∙ ap (signed_sum v t) (segment_all levels leaves deep);
    adders =
        let now : adders_in old.group new.cells ≡ adders_in old.group net.cells + one_if term.negative = subst (λ (g : ℕ). adders_in g new.cells ≡ adders_in g net.cells + one_if term.negative) p.grows.group n.counts in
        let sign : one_if term.negative ≡ one_if (all_negative leaves) = ap one_if (root_sign term is) in
        let before = p.adders in
        let one = one_term in
        let whole = all_adders leaves some in
        omega arith;
    shallow = record {
      shallow = λ s plain.
          let s1 = p.sums.shallow s plain in
          let last : IsPlain net.cells net.group term.node.place = subst (λ (g : ℕ). IsPlain net.cells g term.node.place) (sym p.grows.group) ((p.plain s.bound plain).each 0 term is) in
          subst (λ (g : ℕ). IsShallow new.cells g) p.grows.group (kept.shallow (subst (λ (g : ℕ). IsShallow net.cells g) (sym p.grows.group) s1) last);
      linear = KeepsShapes-trans p.sums.linear shapes;
    };
    same_named = SameNamed-trans p.same_named n.same_named;
    named = λ count c k node found. IsRegister-later n.grows.extends (p.named count c k node found);
    counted = λ count c. IsCounted-leaves old.group Register (count + length registers) n.grows.extends n.names (λ k no. no) (p.counted count c);
    names = LeavesFree-trans old.cells net.cells new.cells (IsTouched old.group Register) (λ name. ⊥) (IsTouched old.group Register) (λ name h. h) (λ name no. absurd no) p.names n.names;
  }

-- no leaves give the constant 0 and no register
pub IsTree-none : (old new : NetView) (leaves : List Leaf) (widths : List ℕ) (levels : ℕ) (root : Node) → 1 ≤ old.group → leaves ≡ [] → Adds old new root 1 (Constant (wrap 1 (pos 0))) → IsTree old new leaves widths levels [] root
IsTree-none old new leaves widths levels root data_group empty a = rw empty (record {
  grows = Grows-data data_group a refl;
  within = slice_get_within new.cells root.place _ (cell_of_added a);
  held = record {
    count = sym (no_registers levels);
    each_wide = λ k register is. absurd (cc);
    holds = λ cut law x v r fits lower j register h within. let e = level_count-none (suc lower) in absurd (omega arith);
    holds_at = λ cut law x v r t fits lower j register h within. let e = level_count-none (suc lower) in absurd (omega arith);
  };
  sums = λ cut law x v r fits t. zero_root cut law x v r t ∙ sym (delayed_nothing levels t);
  sums_at = λ cut law x v r t fits. zero_root cut law x v r (t + levels);
  adders = adders_plain old.group a refl ∙ omega arith;
  shallow = record { shallow = λ s plain. shallow_same old.group (Grows-data data_group a refl) (adders_plain old.group a refl) s; linear = KeepsShapes-adds a tt };
  same_named = SameNamed-adds a;
  named = λ count c k node is. absurd (cc);
  counted = λ count c.
      let same : count ≡ count + 0 = omega arith in
      let leaves_free : LeavesFree old.cells new.cells (λ name. ⊥) = record { free = λ name other f. free_adds a name f } in
      subst (λ (n : ℕ). IsCounted new.cells old.group Register n) same (IsCounted-leaves old.group Register count (Grows-data data_group a refl).extends leaves_free (λ k no. no) c);
  names = record { free = λ name other f. free_adds a name f };
})
  where
    zero_root : (cut : Cut) → IsCut cut → (x : ℕ → ℤ) (v : Values) → IsRun cut new.cells x v → (t : ℕ) → v t root.place ≡ pos 0
    zero_root cut law x v r t = r.each root.place _ (cell_of_added a) t ∙ ap (λ (c : Bool). cut c 1 (wrap 1 (pos 0))) (nameless_data old.group true data_group) ∙ ap (cut false 1) (wrap_zero 1 (omega arith)) ∙ law.fitting false 1 (pos 0) (omega arith) (FitsWidth-zero 1)

    no_registers : (levels : ℕ) → count_to 0 levels ≡ 0
    no_registers zero = refl
    no_registers (suc levels) = let e = level_count-none (suc levels) in let f = no_registers levels in omega arith

    delayed_nothing : (k t : ℕ) → delayed k t (λ s. pos 0) ≡ pos 0
    delayed_nothing zero t = refl
    delayed_nothing (suc k) zero = refl
    delayed_nothing (suc k) (suc t) = delayed_nothing k t
