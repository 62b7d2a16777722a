-- The phase that is shown at each tick.
use Rattle.std.proofs.Common.{◌≡◌, ℕ, ◌+◌, ◌*◌, ◌/◌, ◌%◌, ◌<◌, ◌≤◌, List, length, get_or, sym, ◌∙◌, ap, arith, subst, Some, slice_get}
use Rattle.std.proofs.lemmas.Option.{slice_get-get_or}
use Rattle.std.proofs.Math.Nat.{add-mul-mod_self_right}
use native.Mathlib.Nat.{mod-lt, div-add-mod'}
use Rattle.net_graph.specs.declared.cell.Cell.{Cell}
use Rattle.net_graph.specs.declared.cell.Node.{Node}
use Rattle.net_graph.specs.declared.name.NameKind.TheVariants.{Control}
use Rattle.net_graph.specs.Cells.{NetView}
use Rattle.net_graph.proofs.GrowLemmas.{Grows-refl, Grows-trans}
use Rattle.pipeline_balance.specs.Phase.{IsPhases, IsSelection}
use Rattle.pipeline_balance.proofs.CostLemmas.{SameAdders-refl, SameAdders-trans, SameNamed-refl, SameNamed-trans}
use Rattle.pipeline_balance.proofs.NumberedLemmas.{LeavesFree-refl, LeavesFree-trans}
use Rattle.pipeline_balance.proofs.SelectLemmas.{IsSelection-phases}
use Rattle.pipeline_balance.proofs.ShapeLemmas.{KeepsShapes-refl, KeepsShapes-trans}
use Rattle.polyphase_fir.specs.Roots.{AddsShown, IsRound}
use Rattle.polyphase_fir.specs.Order.{IsOrder}

-- ---- the phases come again after a round

whole_times : (count down up : ℕ) → count * down % up ≡ 0 → count * down ≡ count * down / up * up
whole_times count down up e = let split = div-add-mod' (count * down) up in omega arith

pub round_again : (up down count n : ℕ) → count * down % up ≡ 0 → n % count * down % up ≡ n * down % up
round_again up down count n e =
    let m = count * down / up in
    let rounds = n / count in
    let whole = whole_times count down up e in
    let split : n ≡ n % count + rounds * count = turned n (n / count * count) (n % count) (div-add-mod' n count) in
    let first : n * down ≡ (n % count + rounds * count) * down = ap (λ (k : ℕ). k * down) split in
    let second : rounds * (count * down) ≡ rounds * (m * up) = ap (λ (k : ℕ). rounds * k) whole in
    let sum : n * down ≡ n % count * down + rounds * m * up = omega (arith, first, second) in
    sym (ap (λ (k : ℕ). k % up) sum ∙ add-mul-mod_self_right (n % count * down) (rounds * m) up)
  where
    turned : (a b c : ℕ) → b + c ≡ a → a ≡ c + b
    turned a b c e = omega arith

-- a round of one output shows phase 0 alone
alone : (up down n : ℕ) → 1 * down % up ≡ 0 → n * down % up ≡ 0
alone up down n e =
    let again = round_again up down 1 n e in
    let none : n % 1 * down ≡ 0 = let z : n % 1 ≡ 0 = omega arith in ap (λ (k : ℕ). k * down) z ∙ omega arith in
    sym again ∙ ap (λ (k : ℕ). k % up) none ∙ zero_mod up
  where
    zero_mod : (m : ℕ) → 0 % m ≡ 0
    zero_mod m = omega arith

same_node : (roots : List Node) (i : ℕ) (a b : Node) → slice_get roots i ≡ Some a → slice_get roots i ≡ Some b → a ≡ b
same_node roots i a b p q = let e : Some a ≡ Some b = sym p ∙ q in cc

pub AddsShown-one : (net : NetView) (roots : List Node) (up down period first count : ℕ) (root : Node) → count ≡ 1 → IsRound up down count → slice_get roots 0 ≡ Some root → root.place < length net.cells → AddsShown net net roots up down period first root
AddsShown-one net roots up down period first count root one round there within = record {
  grows = Grows-refl net;
  within = within;
  shows = λ cut law x v r n found is.
      let none = alone up down n (subst (λ (k : ℕ). k * down % up ≡ 0) one round.whole) in
      let at : slice_get roots 0 ≡ Some found = subst (λ (k : ℕ). slice_get roots k ≡ Some found) none is in
      ap (λ (m : Node). v (first + n * period) m.place) (same_node roots 0 root found there at);
  adders = SameAdders-refl net.cells;
  named = SameNamed-refl net.cells;
  names = LeavesFree-refl net.cells (λ name. name.kind ≡ Control);
  linear = KeepsShapes-refl net.cells;
}

pub AddsShown-select : {a b c : NetView} {bits shown : List Node} {width : ℕ} {to : Node} (roots : List Node) (up down period first count : ℕ) → 1 ≤ period → IsRound up down count → IsOrder roots up down count shown → IsPhases a b period first count bits → IsSelection b c bits shown (length shown) width to → AddsShown a c roots up down period first to
AddsShown-select {a} {b} {c} {bits} {shown} {width} {to} roots up down period first count positive round order p s =
    let many = order.many in
    let p' : IsPhases a b period first (length shown) bits = subst (λ (k : ℕ). IsPhases a b period first k bits) (sym many) p in
    let some : 1 ≤ length shown = let one = round.some in omega arith in
    record {
      grows = Grows-trans p.grows s.grows;
      within = s.narrow.within;
      shows = λ cut law x v r n found is.
          let blank : Node = record { place = 0 } in
          let node = get_or shown (n % length shown) blank in
          let there : slice_get shown (n % length shown) ≡ Some node = slice_get-get_or shown (n % length shown) blank (mod-lt n some) in
          let root : slice_get roots (n % length shown * down % up) ≡ Some node = order.each (n % length shown) node there in
          let again : n % length shown * down % up ≡ n * down % up = round_again up down (length shown) n (subst (λ (k : ℕ). k * down % up ≡ 0) (sym many) round.whole) in
          let root' : slice_get roots (n * down % up) ≡ Some node = subst (λ (k : ℕ). slice_get roots k ≡ Some node) again root in
          IsSelection-phases positive some p' s.grows.extends s cut law x v r n node there ∙ ap (λ (m : Node). v (first + n * period) m.place) (same_node roots (n * down % up) node found root' is);
      adders = SameAdders-trans p.adders s.adders;
      named = SameNamed-trans p.named s.named;
      names = LeavesFree-trans a.cells b.cells c.cells (λ name. name.kind ≡ Control) (λ name. ⊥) (λ name. name.kind ≡ Control) (λ name h. h) (λ name no. absurd no) p.names s.names;
      linear = KeepsShapes-trans p.linear (s.linear (λ phase bit is. (p.each phase bit is).control));
    }

-- the nodes in order stand in the net
pub order_within : (cells : List Cell) (roots : List Node) (up down count : ℕ) (shown : List Node) → IsOrder roots up down count shown → ((r : ℕ) (root : Node) → slice_get roots r ≡ Some root → root.place < length cells) → (j : ℕ) (node : Node) → slice_get shown j ≡ Some node → node.place < length cells
order_within cells roots up down count shown order within j node is = within (j * down % up) node (order.each j node is)
