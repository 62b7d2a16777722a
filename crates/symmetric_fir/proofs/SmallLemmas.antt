-- The forms of a filter's registers are small.
use Rattle.std.proofs.Common.{◌≡◌, ℕ, zero, suc, ◌+◌, ◌*◌, ◌/◌, ◌%◌, ◌≤◌, max, List, [], ◌∷◌, ◌++◌, length, map, refl, arith, Bool, true, false, cond, ℤ, pos, negsuc, unsigned_abs, All, Some, slice_get, subst}
use Rattle.std.proofs.lemmas.List.Elements.{All-nil, All-cons, All-append, All-head, All-tail}
use Rattle.net_graph.specs.declared.name.NameKind.{NameKind}
use Rattle.net_graph.specs.declared.name.NameKind.TheVariants.{Window, PreAdder, Register}
use Rattle.stage_law.specs.Registers.{HeldSum, StageRegister}
use Rattle.stage_law.specs.Streams.{magnitudes}
use Rattle.fir_pieces.specs.declared.reading.Reading.{Reading}
use Rattle.fir_pieces.specs.declared.reading.Reading.TheVariants.{One}
use Rattle.fir_pieces.specs.Listed.{window_sums, reading_sum, reading_sums, tree_sums, numbered}
use Rattle.fir_pieces.proofs.FormLemmas.{magnitudes_entry}
use Rattle.fir_pieces.proofs.ListLemmas.{each_numbered, each_appended}
use Rattle.fir_pieces.proofs.SmallLemmas.{AreFormsWithin, IsFormWithin, small_windows, small_reading, small_trees, small_single}
use Rattle.symmetric_fir.specs.Facts.{levels_of, later_sums, registers_of}
use Rattle.symmetric_fir.specs.Pairs.{tap, IsMirrored, is_zero, place_if, places_below, pair_places, centre_if, centre_places, pair_at, pairs, centres, readings, mirror_terms}
use Rattle.symmetric_fir.proofs.PairLemmas.{mirror_powers}

-- a tap that isn't 0 has a magnitude
some_abs : (z : ℤ) → is_zero z ≡ false → 1 ≤ unsigned_abs z
some_abs (pos zero) e = absurd (cc)
some_abs (pos (suc n)) e = omega arith
some_abs (negsuc n) e = omega arith

some_place : (taps : List ℤ) (i : ℕ) → All (λ (p : ℕ). 1 ≤ magnitudes taps) (place_if taps i)
some_place taps i = by_test (is_zero (tap taps i)) refl
  where
    by_test : (b : Bool) → is_zero (tap taps i) ≡ b → All (λ (p : ℕ). 1 ≤ magnitudes taps) (cond b [] (i ∷ []))
    by_test true e = All-nil (λ (p : ℕ). 1 ≤ magnitudes taps)
    by_test false e = All-cons (λ (p : ℕ). 1 ≤ magnitudes taps) i [] (let own = some_abs (tap taps i) e in let entry = magnitudes_entry taps i in omega (arith, own, entry)) (All-nil (λ (p : ℕ). 1 ≤ magnitudes taps))

some_places : (taps : List ℤ) (i : ℕ) → All (λ (p : ℕ). 1 ≤ magnitudes taps) (places_below taps i)
some_places taps zero = All-nil (λ (p : ℕ). 1 ≤ magnitudes taps)
some_places taps (suc i) = All-append (λ (p : ℕ). 1 ≤ magnitudes taps) (places_below taps i) (place_if taps i) (some_places taps i) (some_place taps i)

some_centre : (r : ℕ) (taps : List ℤ) → All (λ (p : ℕ). 1 ≤ magnitudes taps) (centre_if r taps)
some_centre zero taps = All-nil (λ (p : ℕ). 1 ≤ magnitudes taps)
some_centre (suc r) taps = some_place taps (length taps / 2)

-- where there is a place, twice the magnitudes are at least 2
small_shown : (taps : List ℤ) (f : ℕ → Reading) (ps : List ℕ) → All (λ (p : ℕ). 1 ≤ magnitudes taps) ps → AreFormsWithin (max 1 (2 * magnitudes taps)) (reading_sums (map f ps))
small_shown taps f [] some k s is = absurd (cc)
small_shown taps f (p ∷ ps) some zero s is =
    let same : reading_sum (f p) ≡ s = cc in
    let one = All-head (λ (q : ℕ). 1 ≤ magnitudes taps) p ps some in
    let few = small_reading (f p) in
    subst (λ (h : HeldSum). magnitudes h.form ≤ max 1 (2 * magnitudes taps)) same (omega (arith, one, few))
small_shown taps f (p ∷ ps) some (suc k) s is = small_shown taps f ps (All-tail (λ (q : ℕ). 1 ≤ magnitudes taps) p ps some) k s is

small_later : (anti : ℕ) (taps : List ℤ) → IsMirrored anti taps → AreFormsWithin (max 1 (2 * magnitudes taps)) (later_sums anti taps)
small_later anti taps m = each_appended (λ (h : HeldSum). magnitudes h.form ≤ max 1 (2 * magnitudes taps)) (reading_sums (centres taps)) (tree_sums (readings anti taps) 1 (mirror_terms taps) (levels_of taps))
    (small_shown taps One (centre_places taps) (some_centre (length taps % 2) taps))
    (small_trees (max 1 (2 * magnitudes taps)) (readings anti taps) 1 (mirror_terms taps) (levels_of taps) (let bound = mirror_powers anti taps m in omega (arith, bound)))

pub registers_small : (anti : ℕ) (taps : List ℤ) → IsMirrored anti taps → (i j : ℕ) (r : StageRegister) (s : HeldSum) → slice_get (registers_of anti taps) i ≡ Some r → slice_get r.sums j ≡ Some s → magnitudes s.form ≤ max 1 (2 * magnitudes taps)
registers_small anti taps m i j r s there at =
    let most = max 1 (2 * magnitudes taps) in
    let of_kind = λ (kind : NameKind) (sums : List HeldSum) (h : AreFormsWithin most sums). each_numbered (IsFormWithin most) kind 0 sums (λ k t is. small_single most kind (0 + k) t (h k t is)) in
    each_appended (IsFormWithin most) (numbered Window 0 (window_sums (length taps))) (numbered PreAdder 0 (reading_sums (pairs anti taps)) ++ numbered Register 0 (later_sums anti taps))
    (of_kind Window (window_sums (length taps)) (small_windows most (length taps) (omega arith)))
    (each_appended (IsFormWithin most) (numbered PreAdder 0 (reading_sums (pairs anti taps))) (numbered Register 0 (later_sums anti taps))
    (of_kind PreAdder (reading_sums (pairs anti taps)) (small_shown taps (pair_at anti (length taps)) (pair_places taps) (some_places taps (length taps / 2))))
    (of_kind Register (later_sums anti taps) (small_later anti taps m)))
    i r there j s at
