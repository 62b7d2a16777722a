-- A name whose assignment is placed doesn't depend on itself.
use Rattle.std.proofs.Common.{◌≡◌, ℕ, zero, suc, ◌+◌, ◌<◌, ◌≤◌, Bool, true, false, List, Some, slice_get, refl, sym, ap, ◌∙◌, arith, subst}
use Rattle.std.specs.Prelude.{nat_le}
use Rattle.std.proofs.lemmas.Bool.Decides.{nat_tests}
use Rattle.verilog_tree.specs.Tree.{Assignment, Design}
use Rattle.verilog_tree.specs.Names.{shapes_of}
use Rattle.verilog_tree.specs.Cycle.{reads, circuit_of, driver_of, IsDrivenOnce}
use Rattle.verilog_tree.specs.Circuit.{Driver}
use Rattle.verilog_tree.specs.Checks.{DependsBy, DependsOnItself}
use Rattle.settle_order.specs.Placing.{AreNamed, IsPlaced}
use Rattle.settle_order.proofs.Opened.{same_some}
use Rattle.settle_order.proofs.Placing.{not_both}
use Rattle.settle_order.proofs.Turns.{driver_at}
use Rattle.verilog_tree.proofs.OneSettling.{assign_at}
use Rattle.std.proofs.lemmas.Option.{slice_get_within, slice_get-get_or}

pub below_count : (d : Design) (count : ℕ) → AreNamed d count → (k : ℕ) (a : Assignment) → slice_get d.assigns k ≡ Some a → a.target < count
below_count d count named k a at =
    let inside = slice_get_within d.assigns k a at in
    subst (λ (b : Assignment). b.target < count) (same_some _ _ (sym (slice_get-get_or d.assigns k a inside) ∙ at)) (named.targets k a inside)

-- an open name is a target
pub open_inside : (d : Design) (count : ℕ) → AreNamed d count → (opened : ℕ → Bool) (order : List ℕ) → IsPlaced (circuit_of d) opened order → (n : ℕ) → opened n ≡ true → n < count
open_inside d count named opened order h n is =
    let found = h.opens n is in
    let a = assign_at d found.0 found.1 found.2 in
    let target : (a.0).target ≡ n = ap (λ (x : Driver). x.target) a.2 ∙ found.3 in
    subst (λ (m : ℕ). m < count) target (below_count d count named found.0 a.0 a.1)

module _ (d : Design) (once : IsDrivenOnce d) (opened : ℕ → Bool) (order : List ℕ) (h : IsPlaced (circuit_of d) opened order) where
  -- an assignment to the name is the one at this place of the order
  record StandsAt (n place : ℕ) : Type 0 where
    number : ℕ
    assign : Assignment
    at : slice_get d.assigns number ≡ Some assign
    target : assign.target ≡ n
    there : slice_get order place ≡ Some number

  one_place : (n p q : ℕ) → StandsAt n p → StandsAt n q → p ≡ q
  one_place n p q s t =
      let same = once.one_assign s.number t.number s.assign t.assign s.at t.at (s.target ∙ sym t.target) in
      h.once p q t.number (s.there ∙ ap Some same) t.there

  stands : (n i : ℕ) (a : Assignment) → slice_get d.assigns i ≡ Some a → a.target ≡ n → opened n ≡ false → (p : ℕ) × StandsAt n p
  stands n i a at target shut =
      let place = h.covers i (driver_of (shapes_of d) a) (driver_at d i a at) (ap opened target ∙ shut) in
      (place.0, record { number = i; assign = a; at = at; target = target; there = place.1 })

  -- what a placed assignment reads is closed, and stands before it
  reads_closed : (n p i : ℕ) (a : Assignment) → StandsAt n p → slice_get d.assigns i ≡ Some a → a.target ≡ n → (r : ℕ) → reads a.value r ≡ true → opened r ≡ false
  reads_closed n p i a s at target r read =
      let same = once.one_assign s.number i s.assign a s.at at (s.target ∙ sym target) in
      let found = h.placed p s.number s.there in
      let driver : found.0 ≡ driver_of (shapes_of d) a = same_some _ _ (sym found.1 ∙ ap (slice_get (circuit_of d).drivers) same ∙ driver_at d i a at) in
      found.3 r (ap (λ (x : Driver). x.reads r) driver ∙ read)

  stands_before : (n r p q i : ℕ) (a : Assignment) → StandsAt n p → StandsAt r q → slice_get d.assigns i ≡ Some a → a.target ≡ n → reads a.value r ≡ true → q < p
  stands_before n r p q i a s t at target read = by (nat_le p q) refl
    where
      same : s.number ≡ i
      same = once.one_assign s.number i s.assign a s.at at (s.target ∙ sym target)

      by : (b : Bool) → nat_le p q ≡ b → q < p
      by false e = grind (arith, nat_tests)
      by true e =
          let le : p ≤ q = grind (arith, nat_tests) in
          let none = h.later p q i t.number (driver_of (shapes_of d) a) (driver_of (shapes_of d) t.assign) le (s.there ∙ ap Some same) t.there (driver_at d i a at) (driver_at d t.number t.assign t.at) in
          absurd (not_both (reads a.value t.assign.target) (ap (reads a.value) t.target ∙ read) none)

  -- a name that the walk ends at, if it is driven, stands so many places before
  walk_back : (n j : ℕ) (b : Assignment) → slice_get d.assigns j ≡ Some b → b.target ≡ n → (k m p : ℕ) → DependsBy d k m n → StandsAt m p → (q : ℕ) × StandsAt n q × (q + k ≤ p)
  walk_back n j b at_b target_b zero m p same s = (p, subst (λ (x : ℕ). StandsAt x p) same s, omega arith)
  walk_back n j b at_b target_b (suc k) m p (i, a, at, target, r, read, rest) s =
      let shut = reads_closed m p i a s at target r read in
      let next = place_of k r rest shut in
      let lt = stands_before m r p next.0 i a s next.1 at target read in
      let found = walk_back n j b at_b target_b k r next.0 rest next.1 in
      (found.0, found.1, omega (arith, lt, found.2))
    where
      place_of : (k r : ℕ) → DependsBy d k r n → opened r ≡ false → (q : ℕ) × StandsAt r q
      place_of zero r same shut = stands r j b at_b (target_b ∙ sym same) shut
      place_of (suc k) r (i, a, at, target, q, read, more) shut = stands r i a at target shut

  pub closed_free : (n : ℕ) → opened n ≡ false → DependsOnItself d n → ⊥
  closed_free n shut (k, (i, a, at, target, r, read, rest)) =
      let here = stands n i a at target shut in
      let back = walk_back n i a at target (suc k) n here.0 (i, a, at, target, r, read, rest) here.1 in
      let same = one_place n here.0 back.0 here.1 back.1 in
      omega (arith, same, back.2)
