-- A signed power of two changes the count of digits by at most 1, so no list of them is shorter than the count.
use Rattle.std.proofs.Common.{◌≡◌, ℕ, zero, suc, ◌+◌, ◌*◌, ◌/◌, ◌%◌, ◌^◌, ◌≤◌, min, arith, refl, ap, ◌∙◌, Bool, true, false, List, [], ◌∷◌, length, ℤ, pos, negsuc, ◌+ℤ◌}
use Rattle.std.proofs.lemmas.Int.{ints}
use Rattle.std.specs.Prelude.{unsigned_abs}
use Rattle.mr_values.specs.declared.digit.Digit.{Digit}
use Rattle.mr_values.specs.Digit.{with_sign, total, count_of, digit_count}
use Rattle.mr_values.proofs.DigitCounts.{IsCount, IsCount-count_of}

-- ---- one more, one less

-- The counts of neighbours differ by at most 1, and an odd number counts one more than the less of its halves.
pub record Near (f : ℕ → ℕ) (d : ℕ) : Type 0 where
  pub above : f (suc d) ≤ suc (f d)
  pub below : f d ≤ suc (f (suc d))
  pub odd : (n : ℕ) → n ≡ 2 * d + 1 → f n ≡ suc (min (f d) (f (suc d)))

Near-zero : (f : ℕ → ℕ) → IsCount f → Near f 0
Near-zero f laws =
    let first : f 1 ≡ 1 = laws.past_double 1 0 refl ∙ ap suc laws.none in
    record {
      above = omega (arith, first, laws.none);
      below = omega (arith, first, laws.none);
      odd = λ n e. omega (arith, first, laws.none, laws.past_double n 0 (omega arith));
    }

Near-double : (f : ℕ → ℕ) → IsCount f → (d half : ℕ) → d ≡ 2 * half → Near f half → Near f d
Near-double f laws d half e near =
    let even : f d ≡ f half = laws.double d half e in
    let next = near.odd (suc d) (omega arith) in
    record {
      above = omega (arith, even, next, near.above, near.below);
      below = omega (arith, even, next, near.above, near.below);
      odd = λ n is. omega (arith, even, next, near.above, near.below, laws.past_double n half (omega arith));
    }

Near-past_double : (f : ℕ → ℕ) → IsCount f → (d half : ℕ) → d ≡ 2 * half + 1 → Near f half → Near f d
Near-past_double f laws d half e near =
    let even : f (suc d) ≡ f (suc half) = laws.double (suc d) (suc half) (omega arith) in
    let here = near.odd d e in
    record {
      above = omega (arith, even, here, near.above, near.below);
      below = omega (arith, even, here, near.above, near.below);
      odd = λ n is. omega (arith, even, here, near.above, near.below, laws.before_double n half (omega arith));
    }

near_to : (f : ℕ → ℕ) → IsCount f → (fuel d : ℕ) → d ≤ fuel → Near f d
near_to f laws fuel zero h = Near-zero f laws
near_to f laws zero (suc d) h = absurd (omega arith)
near_to f laws (suc fuel) (suc d) h = at (suc d % 2) refl (near_to f laws fuel (suc d / 2) (omega arith))
  where
    at : (r : ℕ) → suc d % 2 ≡ r → Near f (suc d / 2) → Near f (suc d)
    at zero e near = Near-double f laws (suc d) (suc d / 2) (omega arith) near
    at (suc zero) e near = Near-past_double f laws (suc d) (suc d / 2) (omega arith) near
    at (suc (suc r)) e near = absurd (omega arith)

near : (f : ℕ → ℕ) → IsCount f → (d : ℕ) → Near f d
near f laws d = near_to f laws d d (omega arith)

-- ---- one power of two

-- by a power of two away from zero, or back
abbrev Added : (ℕ → ℕ) → ℕ → Type 0
Added f k = (a b : ℕ) → a ≡ b + 2 ^ k → (f a ≤ suc (f b)) × (f b ≤ suc (f a))

count-added_one : (f : ℕ → ℕ) → IsCount f → Added f 0
count-added_one f laws a b e =
    let next : a ≡ suc b = omega arith in
    let is : f a ≡ f (suc b) = ap f next in
    (omega (arith, is, (near f laws b).above), omega (arith, is, (near f laws b).below))

count-added_double : (f : ℕ → ℕ) → IsCount f → (k : ℕ) → Added f k → Added f (suc k)
count-added_double f laws k added a b e = at (b % 2) refl
  where
    at : (r : ℕ) → b % 2 ≡ r → (f a ≤ suc (f b)) × (f b ≤ suc (f a))
    at zero even =
        let part = added (b / 2 + 2 ^ k) (b / 2) refl in
        let one = laws.double a (b / 2 + 2 ^ k) (omega arith) in
        let two = laws.double b (b / 2) (omega arith) in
        (omega (arith, part, one, two), omega (arith, part, one, two))
    at (suc zero) odd =
        let low = added (b / 2 + 2 ^ k) (b / 2) refl in
        let high = added (suc (b / 2 + 2 ^ k)) (suc (b / 2)) (omega arith) in
        let one = (near f laws (b / 2 + 2 ^ k)).odd a (omega arith) in
        let two = (near f laws (b / 2)).odd b (omega arith) in
        (omega (arith, low, high, one, two), omega (arith, low, high, one, two))
    at (suc (suc r)) e = absurd (omega arith)

count-added : (f : ℕ → ℕ) → IsCount f → (k : ℕ) → Added f k
count-added f laws zero = count-added_one f laws
count-added f laws (suc k) = count-added_double f laws k (count-added f laws k)

-- by a power of two across zero
abbrev Across : (ℕ → ℕ) → ℕ → Type 0
Across f k = (a b : ℕ) → a + b ≡ 2 ^ k → f a ≤ suc (f b)

count-across_one : (f : ℕ → ℕ) → IsCount f → Across f 0
count-across_one f laws zero b e = omega (arith, laws.none)
count-across_one f laws (suc a) b e = omega (arith, laws.none, laws.past_double (suc a) 0 (omega arith))

count-across_double : (f : ℕ → ℕ) → IsCount f → (k : ℕ) → Across f k → Across f (suc k)
count-across_double f laws k across a b e = at (b % 2) refl
  where
    at : (r : ℕ) → b % 2 ≡ r → f a ≤ suc (f b)
    at zero even =
        omega (arith, across (a / 2) (b / 2) (omega arith), laws.double a (a / 2) (omega arith), laws.double b (b / 2) (omega arith))
    at (suc zero) odd =
        let low = across (a / 2) (suc (b / 2)) (omega arith) in
        let high = across (suc (a / 2)) (b / 2) (omega arith) in
        let one = (near f laws (a / 2)).odd a (omega arith) in
        let two = (near f laws (b / 2)).odd b (omega arith) in
        omega (arith, low, high, one, two)
    at (suc (suc r)) e = absurd (omega arith)

count-across : (f : ℕ → ℕ) → IsCount f → (k : ℕ) → Across f k
count-across f laws zero = count-across_one f laws
count-across f laws (suc k) = count-across_double f laws k (count-across f laws k)

-- ---- lists

-- one more signed power of two
count-with_sign : (f : ℕ → ℕ) → IsCount f → (negative : Bool) (k : ℕ) (z c : ℤ) → z ≡ with_sign negative (2 ^ k) +ℤ c → f (unsigned_abs z) ≤ suc (f (unsigned_abs c))
count-with_sign f laws false k (pos m) (pos n) e = (count-added f laws k m n (omega (arith, ints))).0
count-with_sign f laws false k (pos m) (negsuc n) e = count-across f laws k m (suc n) (omega (arith, ints))
count-with_sign f laws false k (negsuc m) (pos n) e = absurd (omega (arith, ints))
count-with_sign f laws false k (negsuc m) (negsuc n) e = (count-added f laws k (suc n) (suc m) (omega (arith, ints))).1
count-with_sign f laws true k (pos m) (pos n) e = (count-added f laws k n m (omega (arith, ints))).1
count-with_sign f laws true k (pos m) (negsuc n) e = absurd (omega (arith, ints))
count-with_sign f laws true k (negsuc m) (pos n) e = count-across f laws k (suc m) n (omega (arith, ints))
count-with_sign f laws true k (negsuc m) (negsuc n) e = (count-added f laws k (suc m) (suc n) (omega (arith, ints))).0

-- no list of signed powers of two is shorter than the count of its sum
pub digit_count-total : (ds : List Digit) → digit_count (total ds) ≤ length ds
digit_count-total [] = omega arith
digit_count-total (d ∷ ds) =
    let one = count-with_sign count_of IsCount-count_of d.negative d.place (total (d ∷ ds)) (total ds) refl in
    omega (arith, one, digit_count-total ds)
