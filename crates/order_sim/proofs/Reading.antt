-- Which assignments read which wires, and how many of those are open.
use Rattle.std.proofs.Common.{◌≡◌, ℕ, zero, suc, ◌+◌, ◌<◌, ◌≤◌, Bool, true, false, not, ◌&&◌, List, [], ◌∷◌, ◌++◌, length, Option, Some, slice_get, ◌⊎◌, inl, inr, refl, sym, ap, ◌∙◌, arith, length-append}
use Rattle.std.specs.Prelude.{◌==◌, if◌then◌else◌}
use Rattle.std.specs.Option.{option_map_or}
use Rattle.std.proofs.lemmas.Bool.{eqb-true, eqb-false, eq-eqb, ne_eqb}
use Rattle.verilog_tree.specs.Circuit.{Driver, Circuit}
use Rattle.verilog_tree.specs.Cycle.{circuit_of, reads}
use Rattle.verilog_tree.specs.Tree.{Assignment, Design}
use Rattle.settle_order.proofs.Turns.{driver_at}
use Rattle.event_order.specs.Order.{reads_at}
use Rattle.event_order.specs.Drawn.{how_many, is_taken, reads_wire, open_reads}
use Rattle.event_order.proofs.Counting.{below_suc, count-same, count-one}
use Rattle.event_order.proofs.DrawnPlaces.{taken-new, taken-other}
use Rattle.order_sim.specs.Drawing.{with_reader, reading_places, times}

-- ---- in a module

pub wire-read : (d : Design) (reader place : ℕ) (a b : Assignment) → slice_get d.assigns reader ≡ Some a → slice_get d.assigns place ≡ Some b → reads a.value b.target ≡ reads_wire (circuit_of d) reader place
wire-read d reader place a b at found =
    let c = circuit_of d in
    sym (ap (λ (o : Option Driver). option_map_or (λ (x : Driver). reads_at c x.target reader) o false) (driver_at d place b found)
    ∙ ap (λ (o : Option Driver). option_map_or (λ (x : Driver). x.reads b.target) o false) (driver_at d reader a at))

-- ---- lists of readers

abbrev num : Bool → ℕ
num b = if b then 1 else 0

times-append : (xs ys : List ℕ) (k : ℕ) → times (xs ++ ys) k ≡ times xs k + times ys k
times-append [] ys k = omega arith
times-append (x ∷ xs) ys k = let rest = times-append xs ys k in omega (arith, rest)

times-one : (j k : ℕ) (b : Bool) → (j == k) ≡ b → times (j ∷ []) k ≡ num b
times-one j k b is = let e = ap num is in omega (arith, e)

pub times-past : (c : Circuit) (place count k : ℕ) → count ≤ k → times (reading_places c place count) k ≡ 0
times-past c place zero k le = refl
times-past c place (suc count) k le = by (reads_wire c count place) (times-past c place count k (omega (arith, le)))
  where
    by : (b : Bool) → times (reading_places c place count) k ≡ 0 → times (with_reader b count (reading_places c place count)) k ≡ 0
    by true before =
        let e = times-append (reading_places c place count) (count ∷ []) k in
        let f = times-one count k false (ne_eqb count k (λ same. omega (arith, same, le))) in
        omega (arith, e, f, before)
    by false before = before

-- each place is in the list once, where it reads the wire
pub times-within : (c : Circuit) (place count k : ℕ) → k < count → times (reading_places c place count) k ≡ (if reads_wire c k place then 1 else 0)
times-within c place zero k lt = absurd (omega (arith, lt))
times-within c place (suc count) k lt = by (below_suc k count lt) (reads_wire c count place) refl (λ less. times-within c place count k less)
  where
    by : (k < count) ⊎ (k ≡ count) → (b : Bool) → reads_wire c count place ≡ b → (k < count → times (reading_places c place count) k ≡ num (reads_wire c k place))
        → times (with_reader b count (reading_places c place count)) k ≡ num (reads_wire c k place)
    by (inl less) true is before =
        let a = times-append (reading_places c place count) (count ∷ []) k in
        let f = times-one count k false (ne_eqb count k (λ same. omega (arith, same, less))) in
        let e : times (reading_places c place count ++ count ∷ []) k ≡ times (reading_places c place count) k = omega (arith, a, f) in
        e ∙ before less
    by (inl less) false is before = before less
    by (inr same) true is before =
        let a = times-append (reading_places c place count) (count ∷ []) k in
        let f = times-one count k true (eq-eqb count k (sym same)) in
        let p = times-past c place count k (omega (arith, same)) in
        let e : times (reading_places c place count ++ count ∷ []) k ≡ 1 = omega (arith, a, f, p) in
        e ∙ sym (ap num (ap (λ (j : ℕ). reads_wire c j place) same ∙ is))
    by (inr same) false is before = times-past c place count k (omega (arith, same)) ∙ sym (ap num (ap (λ (j : ℕ). reads_wire c j place) same ∙ is))

pub few_readers : (c : Circuit) (place count : ℕ) → length (reading_places c place count) ≤ count
few_readers c place zero = omega arith
few_readers c place (suc count) = by (reads_wire c count place) (few_readers c place count)
  where
    by : (b : Bool) → length (reading_places c place count) ≤ count → length (with_reader b count (reading_places c place count)) ≤ suc count
    by true before = simp length-append (omega (arith, before))
    by false before = omega (arith, before)

-- ---- open reads

-- an evaluation closes one read of each that reads its wire
pub open-turn : (c : Circuit) (taken : List ℕ) (p k : ℕ) → p < length c.drivers → is_taken taken p ≡ false
    → open_reads c (taken ++ p ∷ []) k + (if reads_wire c k p then 1 else 0) ≡ open_reads c taken k
open-turn c taken p k lt untaken = by (reads_wire c k p) refl
  where
    other : (j : ℕ) → (j ≡ p → ⊥) → (reads_wire c k j && not (is_taken (taken ++ p ∷ []) j)) ≡ (reads_wire c k j && not (is_taken taken j))
    other j apart = ap (λ (b : Bool). reads_wire c k j && not b) (taken-other taken p j apart)

    never : (b : Bool) → (b && false) ≡ false
    never true = refl
    never false = refl

    by : (b : Bool) → reads_wire c k p ≡ b → open_reads c (taken ++ p ∷ []) k + num b ≡ open_reads c taken k
    by true is =
        count-one (λ j. reads_wire c k j && not (is_taken (taken ++ p ∷ []) j)) (λ j. reads_wire c k j && not (is_taken taken j)) (length c.drivers) p lt
        (ap (λ (b : Bool). reads_wire c k p && not b) (taken-new taken p) ∙ never (reads_wire c k p))
        (ap (λ (b : Bool). b && not (is_taken taken p)) is ∙ ap not untaken)
        (λ j below apart. other j apart)
    by false is =
        let same = count-same (λ j. reads_wire c k j && not (is_taken (taken ++ p ∷ []) j)) (λ j. reads_wire c k j && not (is_taken taken j)) (length c.drivers) (λ j below. each j (j == p) refl) in
        omega (arith, same)
      where
        each : (j : ℕ) (b : Bool) → (j == p) ≡ b → (reads_wire c k j && not (is_taken (taken ++ p ∷ []) j)) ≡ (reads_wire c k j && not (is_taken taken j))
        each j true e =
            let unread : reads_wire c k j ≡ false = ap (reads_wire c k) (eqb-true j p e) ∙ is in
            ap (λ (b : Bool). b && not (is_taken (taken ++ p ∷ []) j)) unread ∙ sym (ap (λ (b : Bool). b && not (is_taken taken j)) unread)
        each j false e = other j (eqb-false j p e)

-- before any evaluation
pub open-first : (c : Circuit) (k : ℕ) → how_many (λ j. reads_wire c k j) (length c.drivers) ≡ open_reads c [] k
open-first c k = count-same (λ j. reads_wire c k j) (λ j. reads_wire c k j && not (is_taken [] j)) (length c.drivers) (λ j lt. plain (reads_wire c k j))
  where
    plain : (b : Bool) → b ≡ (b && true)
    plain true = refl
    plain false = refl
