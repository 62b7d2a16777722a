-- Rounding to even.
use Rattle.std.proofs.Common.{◌≡◌, ℕ, zero, suc, ◌+◌, ◌-◌, ◌*◌, ◌/◌, ◌^◌, ◌<◌, ◌≤◌, ◌⊎◌, inl, inr, Bool, true, false, cond, ℤ, pos, negsuc, ◌+ℤ◌, ◌-ℤ◌, ◌*ℤ◌, ◌≤ℤ◌, arith, lit<, refl, sym, ◌∙◌, ap}
use Rattle.std.specs.Prelude.{unsigned_abs}
use Rattle.std.proofs.lemmas.Int.{ints}
use Rattle.std.proofs.lemmas.Nat.{pow_pos, le-div, div-add-mod'}
use native.Mathlib.Nat.{pow-le-pow_right}
use Rattle.std.proofs.lemmas.Bool.{cases_order}
use lib.Dec.{ltb}
use borrow.Author.Tests.{ltb-true, ltb-false}
use Rattle.mr_values.specs.Width.{floor_quotient, floor_remainder}
use Rattle.mr_values.proofs.Ring.{+ℤ-*ℤ}
use Rattle.mr_values.proofs.Division.{floor_split, floor_remainder_below, floor_unique, pow_halves}
use Rattle.mr_values.specs.Rounding.{even_of, nearest, half_even}
use Rattle.mr_values.specs.RoundingLaws.{FloorLaw, HalfEvenRisesLaw, NearLaw, TieLaw, HalfEvenPeakLaw, HalfEvenZeroLaw}

-- ---- the three cases

pub nearest_below : (q : ℤ) (r d : ℕ) → 2 * r < d → nearest q r d ≡ q
nearest_below q r d h = by (ltb (2 * r) d) refl
  where
    by : (t : Bool) → ltb (2 * r) d ≡ t → cond t q (cond (ltb d (2 * r)) (q +ℤ pos 1) (even_of q)) ≡ q
    by true e = refl
    by false e = absurd (omega (arith, ltb-false))

nearest_above : (q : ℤ) (r d : ℕ) → d < 2 * r → nearest q r d ≡ q +ℤ pos 1
nearest_above q r d h = by (ltb (2 * r) d) (ltb d (2 * r)) refl refl
  where
    by : (t u : Bool) → ltb (2 * r) d ≡ t → ltb d (2 * r) ≡ u → cond t q (cond u (q +ℤ pos 1) (even_of q)) ≡ q +ℤ pos 1
    by true u e f = absurd (omega (arith, ltb-true))
    by false true e f = refl
    by false false e f = absurd (omega (arith, ltb-false))

even_of-is : (q : ℤ) (b : ℕ) → floor_remainder q 2 ≡ b → b < 2 → even_of q ≡ q +ℤ pos b
even_of-is q zero e h = rw e (omega (arith, ints))
even_of-is q (suc zero) e h = rw e refl
even_of-is q (suc (suc b)) e h = absurd (omega arith)

nearest_same : (q : ℤ) (r d : ℕ) → 2 * r ≡ d → nearest q r d ≡ q +ℤ pos (floor_remainder q 2)
nearest_same q r d h = by (ltb (2 * r) d) (ltb d (2 * r)) refl refl
  where
    by : (t u : Bool) → ltb (2 * r) d ≡ t → ltb d (2 * r) ≡ u → cond t q (cond u (q +ℤ pos 1) (even_of q)) ≡ q +ℤ pos (floor_remainder q 2)
    by true u e f = absurd (omega (arith, ltb-true))
    by false true e f = absurd (omega (arith, ltb-true))
    by false false e f = even_of-is q (floor_remainder q 2) refl (floor_remainder_below q 2 (lit< tt))

-- by which the quotient is raised, by the remainder against the half
pub record Raised (s : ℕ) (v : ℤ) (up : ℕ) : Type 0 where
  pub is : half_even s v ≡ floor_quotient v (2 ^ s) +ℤ pos up
  pub why : (floor_remainder v (2 ^ s) < 2 ^ (s - 1)) × (up ≡ 0) ⊎ ((2 ^ (s - 1) < floor_remainder v (2 ^ s)) × (up ≡ 1)) ⊎ ((floor_remainder v (2 ^ s) ≡ 2 ^ (s - 1)) × (up ≡ floor_remainder (floor_quotient v (2 ^ s)) 2))

pub raised : (s : ℕ) (v : ℤ) → 1 ≤ s → (up : ℕ) × Raised s v up
raised s v h =
    let d = 2 ^ s in
    let half = 2 ^ (s - 1) in
    let q = floor_quotient v d in
    let r = floor_remainder v d in
    let two = pow_halves s h in
    elim (cases_order r half) [
      | inl same ↦ (floor_remainder q 2, record { is = nearest_same q r d (omega (arith, two)); why = inr (inr (same, refl)) })
      | inr rest ↦
          elim rest [
            | inl below ↦ (0, record { is = nearest_below q r d (omega (arith, two)) ∙ omega (arith, ints); why = inl (below, refl) })
            | inr above ↦ (1, record { is = nearest_above q r d (omega (arith, two)); why = inr (inl (above, refl)) })
          ]
    ]

-- a number that is raised by k
raise_unique : (v q : ℤ) (d r k up rem : ℕ) → v ≡ q *ℤ pos d +ℤ pos r → rem < d → r + k ≡ up * d + rem → floor_quotient (v +ℤ pos k) d ≡ q +ℤ pos up
raise_unique v q d r k up rem split below e =
    (floor_unique (v +ℤ pos k) (q +ℤ pos up) d rem below (omega (arith, ints, split, +ℤ-*ℤ q (pos up) (pos d), e))).0

by_case : (v q : ℤ) (d half r b up : ℕ) → d ≡ half + half → 0 < half → r < d → b < 2 → v ≡ q *ℤ pos d +ℤ pos r → (r < half) × (up ≡ 0) ⊎ ((half < r) × (up ≡ 1)) ⊎ ((r ≡ half) × (up ≡ b))
    → floor_quotient (v +ℤ pos (half - 1 + b)) d ≡ q +ℤ pos up
by_case v q d half r b up two some small bit split (inl w) = raise_unique v q d r (half - 1 + b) up (r + (half - 1 + b)) split (omega (arith, w.0)) (omega (arith, ap (λ (n : ℕ). n * d) w.1))
by_case v q d half r b up two some small bit split (inr (inl w)) = raise_unique v q d r (half - 1 + b) up (r + b - (half + 1)) split (omega (arith, w.0)) (omega (arith, w.0, ap (λ (n : ℕ). n * d) w.1))
by_case v q d half r zero up two some small bit split (inr (inr w)) = raise_unique v q d r (half - 1 + 0) up (d - 1) split (omega arith) (omega (arith, w.0, ap (λ (n : ℕ). n * d) w.1))
by_case v q d half r (suc zero) up two some small bit split (inr (inr w)) = raise_unique v q d r (half - 1 + 1) up 0 split (omega arith) (omega (arith, w.0, ap (λ (n : ℕ). n * d) w.1))
by_case v q d half r (suc (suc b)) up two some small bit split why = absurd (omega arith)

pub floor_law : FloorLaw
floor_law s v h =
    let d = 2 ^ s in
    let half = 2 ^ (s - 1) in
    let q = floor_quotient v d in
    let r = floor_remainder v d in
    let b = floor_remainder q 2 in
    let up = raised s v h in
    up.1.is
    ∙ sym (by_case v q d half r b up.0 (pow_halves s h) (pow_pos (s - 1)) (floor_remainder_below v d (pow_pos s)) (floor_remainder_below q 2 (lit< tt)) (floor_split v d (pow_pos s)) up.1.why)

-- ---- monotone

div_mono : (a b d : ℕ) → 0 < d → a ≤ b → a / d ≤ b / d
div_mono a b d some h = le-div (a / d) b d some (omega (arith, div-add-mod' a d))

pub floor_rises : (a b : ℤ) (d : ℕ) → 0 < d → a ≤ℤ b → floor_quotient a d ≤ℤ floor_quotient b d
floor_rises (pos a) (pos b) d some h = omega (arith, ints, div_mono a b d some (omega (arith, ints)))
floor_rises (pos a) (negsuc b) d some h = absurd (omega (arith, ints))
floor_rises (negsuc a) (pos b) d some h = omega (arith, ints)
floor_rises (negsuc a) (negsuc b) d some h = omega (arith, ints, div_mono b a d some (omega (arith, ints)))

pub half_even_rises : HalfEvenRisesLaw
half_even_rises s u v h below = by_gap (v -ℤ u) refl
  where
    by_gap : (g : ℤ) → v -ℤ u ≡ g → half_even s u ≤ℤ half_even s v
    by_gap (pos zero) e =
        let same : u ≡ v = omega (arith, ints) in
        omega (arith, ints, ap (half_even s) same)
    by_gap (pos (suc k)) e =
        let d = 2 ^ s in
        let b = floor_remainder (floor_quotient u d) 2 in
        let c = floor_remainder (floor_quotient v d) 2 in
        let bit : b < 2 = floor_remainder_below (floor_quotient u d) 2 (lit< tt) in
        let more : (u +ℤ pos (2 ^ (s - 1) - 1 + b)) ≤ℤ (v +ℤ pos (2 ^ (s - 1) - 1 + c)) = omega (arith, ints) in
        omega (arith, ints, floor_law s u h, floor_law s v h, floor_rises (u +ℤ pos (2 ^ (s - 1) - 1 + b)) (v +ℤ pos (2 ^ (s - 1) - 1 + c)) d (pow_pos s) more)
    by_gap (negsuc k) e = absurd (omega (arith, ints))

-- ---- nearest

-- the quotient stays up to the half, and is raised from the half on
which : (r half b up : ℕ) → b < 2 → (r < half) × (up ≡ 0) ⊎ ((half < r) × (up ≡ 1)) ⊎ ((r ≡ half) × (up ≡ b)) → ((up ≡ 0) × (r ≤ half)) ⊎ ((up ≡ 1) × (half ≤ r))
which r half b up bit (inl w) = inl (w.1, omega (arith, w.0))
which r half b up bit (inr (inl w)) = inr (w.1, omega (arith, w.0))
which r half zero up bit (inr (inr w)) = inl (w.1, omega (arith, w.0))
which r half (suc zero) up bit (inr (inr w)) = inr (w.1, omega (arith, w.0))
which r half (suc (suc b)) up bit (inr (inr w)) = absurd (omega arith)

near_by : (v y q : ℤ) (d half r up : ℕ) → y ≡ q +ℤ pos up → v ≡ q *ℤ pos d +ℤ pos r → d ≡ half + half → r < d → ((up ≡ 0) × (r ≤ half)) ⊎ ((up ≡ 1) × (half ≤ r)) → ((y *ℤ pos d) ≤ℤ (v +ℤ pos half)) × (v ≤ℤ (y *ℤ pos d +ℤ pos half))
near_by v y q d half r up is split two small why = from (ap (λ (n : ℤ). n *ℤ pos d) is ∙ +ℤ-*ℤ q (pos up) (pos d)) why
  where
    from : y *ℤ pos d ≡ q *ℤ pos d +ℤ pos up *ℤ pos d → ((up ≡ 0) × (r ≤ half)) ⊎ ((up ≡ 1) × (half ≤ r)) → ((y *ℤ pos d) ≤ℤ (v +ℤ pos half)) × (v ≤ℤ (y *ℤ pos d +ℤ pos half))
    from e (inl w) =
        let none : pos up *ℤ pos d ≡ pos 0 = ap (λ (n : ℕ). pos n *ℤ pos d) w.0 ∙ omega (arith, ints) in
        (omega (arith, ints, e, none, split, w.1), omega (arith, ints, e, none, split, w.1))
    from e (inr w) =
        let one : pos up *ℤ pos d ≡ pos d = ap (λ (n : ℕ). pos n *ℤ pos d) w.0 ∙ omega (arith, ints) in
        (omega (arith, ints, e, one, split, w.1), omega (arith, ints, e, one, split, w.1))

pub near_law : NearLaw
near_law s v h =
    let d = 2 ^ s in
    let q = floor_quotient v d in
    let r = floor_remainder v d in
    let up = raised s v h in
    near_by v (half_even s v) q d (2 ^ (s - 1)) r up.0 up.1.is (floor_split v d (pow_pos s)) (pow_halves s h) (floor_remainder_below v d (pow_pos s)) (which r (2 ^ (s - 1)) (floor_remainder q 2) up.0 (floor_remainder_below q 2 (lit< tt)) up.1.why)

-- the even neighbour
even_by : (q : ℤ) (b : ℕ) → floor_remainder q 2 ≡ b → b < 2 → floor_remainder (q +ℤ pos b) 2 ≡ 0
even_by q b e small =
    let half = floor_quotient q 2 in
    (floor_unique (q +ℤ pos b) (half +ℤ pos b) 2 0 (lit< tt) (omega (arith, ints, e, floor_split q 2 (lit< tt)))).1

-- a half of the power away, the remainder is the half
tie_by : (v y q : ℤ) (d half r up : ℕ) → y ≡ q +ℤ pos up → v ≡ q *ℤ pos d +ℤ pos r → d ≡ half + half → 0 < half → r < d → ((up ≡ 0) × (r ≤ half)) ⊎ ((up ≡ 1) × (half ≤ r)) → (y *ℤ pos d ≡ v +ℤ pos half) ⊎ (v ≡ y *ℤ pos d +ℤ pos half) → r ≡ half
tie_by v y q d half r up is split two some small why away = from (ap (λ (n : ℤ). n *ℤ pos d) is ∙ +ℤ-*ℤ q (pos up) (pos d)) why away
  where
    from : y *ℤ pos d ≡ q *ℤ pos d +ℤ pos up *ℤ pos d → ((up ≡ 0) × (r ≤ half)) ⊎ ((up ≡ 1) × (half ≤ r)) → (y *ℤ pos d ≡ v +ℤ pos half) ⊎ (v ≡ y *ℤ pos d +ℤ pos half) → r ≡ half
    from e (inl w) away =
        let none : pos up *ℤ pos d ≡ pos 0 = ap (λ (n : ℕ). pos n *ℤ pos d) w.0 ∙ omega (arith, ints) in
        elim away [ inl a ↦ omega (arith, ints, e, none, split, a) | inr a ↦ omega (arith, ints, e, none, split, a) ]
    from e (inr w) away =
        let one : pos up *ℤ pos d ≡ pos d = ap (λ (n : ℕ). pos n *ℤ pos d) w.0 ∙ omega (arith, ints) in
        elim away [ inl a ↦ omega (arith, ints, e, one, split, a) | inr a ↦ omega (arith, ints, e, one, split, a) ]

pub tie_law : TieLaw
tie_law s v h away =
    let d = 2 ^ s in
    let q = floor_quotient v d in
    let r = floor_remainder v d in
    let bit = floor_remainder_below q 2 (lit< tt) in
    let up = raised s v h in
    let same = tie_by v (half_even s v) q d (2 ^ (s - 1)) r up.0 up.1.is (floor_split v d (pow_pos s)) (pow_halves s h) (pow_pos (s - 1)) (floor_remainder_below v d (pow_pos s)) (which r (2 ^ (s - 1)) (floor_remainder q 2) up.0 bit up.1.why) away in
    ap (λ (n : ℤ). floor_remainder n 2) (nearest_same q r d (omega (arith, same, pow_halves s h))) ∙ even_by q (floor_remainder q 2) refl bit

-- ---- magnitudes, and 0

-- a number whose multiple is near v
within : (y v : ℤ) (d half peak : ℕ) → 0 < d → (y *ℤ pos d) ≤ℤ (v +ℤ pos half) → v ≤ℤ (y *ℤ pos d +ℤ pos half) → unsigned_abs v ≤ peak → unsigned_abs y ≤ (peak + half) / d
within (pos n) (pos m) d half peak some high low h = le-div n (peak + half) d some (omega (arith, ints))
within (pos n) (negsuc m) d half peak some high low h = le-div n (peak + half) d some (omega (arith, ints))
within (negsuc n) (pos m) d half peak some high low h = le-div (suc n) (peak + half) d some (omega (arith, ints))
within (negsuc n) (negsuc m) d half peak some high low h = le-div (suc n) (peak + half) d some (omega (arith, ints))

pub half_even_peak : HalfEvenPeakLaw
half_even_peak s peak v h small = let near = near_law s v h in within (half_even s v) v (2 ^ s) (2 ^ (s - 1)) peak (pow_pos s) near.0 near.1 small

pub half_even_zero : HalfEvenZeroLaw
half_even_zero s h =
    let none = floor_unique (pos 0) (pos 0) (2 ^ s) 0 (pow_pos s) (omega (arith, ints)) in
    nearest_below (floor_quotient (pos 0) (2 ^ s)) (floor_remainder (pos 0) (2 ^ s)) (2 ^ s) (omega (arith, none.1, pow_pos s)) ∙ none.0

-- the half of a power in 64 bits
pub half_small : (s : ℕ) → s ≤ 64 → 2 ^ (s - 1) ≤ 2 ^ 63
half_small s h = let some : 0 < 2 = lit< tt in pow-le-pow_right some {i = s - 1} {j = 63} (omega arith)
