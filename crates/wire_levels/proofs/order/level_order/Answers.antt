use Rattle.std.proofs.Common.{◌≡◌, ◌∙◌, ℕ, List, map, rules, sym, ap, subst}
use Rattle.std.specs.List.Sorted.{IsPermutation, IsNonDecreasingBy}
use Rattle.std.proofs.lemmas.List.Sorted.{IsNonDecreasingBy-from_sort_by_key}
use Rattle.verilog_tree.specs.declared.tree.Assign.{Assign}
use Rattle.verilog_tree.specs.View.{design_view}
use Rattle.wire_levels.specs.declared.order.Levelled.{Levelled}
use Rattle.wire_levels.specs.Levels.{level_in, AreByLevel}
use Rattle.wire_levels.specs.Placed.{levelled_from}
use Rattle.wire_levels.proofs.SortedPlaces.{sorted_by_level}
use Rattle.wire_levels.proofs.order.level_order.Goals as goal

pub returns : goal.returns
returns c =
    let m = c.args.design.now in
    let level : ℕ → ℕ = level_in c.in_ok-levels.levels.items in
    let sorted : List Levelled = c.sort_by_key.new.self.items in
    let made : c.in_ok-sorted.sorted.items ≡ levelled_from level 0 m.assigns.items =
    c.in_ok-sorted.ensures
    ∙ ap (λ (xs : List ℕ). levelled_from (level_in xs) 0 c.as_slice.result.now) c.deref.ensures.value
    ∙ ap (λ (xs : List Assign). levelled_from level 0 xs) c.as_slice.ensures.value in
    let moved : IsPermutation (levelled_from level 0 m.assigns.items) sorted = subst (λ (xs : List Levelled). IsPermutation xs sorted) made c.sort_by_key.ensures.permutation in
    let ascending : IsNonDecreasingBy (λ (l : Levelled). l.level) sorted =
    IsNonDecreasingBy-from_sort_by_key (λ (l : Levelled). l.level) sorted c.in_ok-sort_by_key.ensures.sorted (λ a r q k. search rules) in
    let places = c.in_ok-order.ensures ∙ ap (λ (ls : List Levelled). map (λ (l : Levelled). l.place) ls) c.deref-2.ensures.value in
    subst (λ (order : List ℕ). AreByLevel (design_view m) order) (sym places) (level, c.in_ok-levels.ensures, sorted_by_level m level sorted moved ascending)
