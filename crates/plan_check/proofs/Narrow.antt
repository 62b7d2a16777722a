-- No value of a plan whose peak and periods pass their tests is too great for 128 bits.
use Rattle.std.proofs.Common.{◌≡◌, ℕ, zero, suc, ◌+◌, ◌-◌, ◌*◌, ◌/◌, ◌^◌, ◌<◌, ◌≤◌, max, min, refl, arith, subst, List, [], ◌∷◌, ℤ, pos, negsuc, neg_ℤ, ◌+ℤ◌, ◌*ℤ◌, None}
use Rattle.std.specs.Prelude.{unsigned_abs}
use Rattle.std.proofs.lemmas.Int.{ints, unsigned_abs-mul}
use Rattle.std.proofs.lemmas.Nat.{pow_pos}
use Rattle.std.proofs.Math.Nat.{mul-le-mul_left, add-div_right, div-mul-le_self, pow-le-pow_right, div-eq_of_lt}
use Rattle.std.proofs.lemmas.Nat.{le-div}
use Rattle.mr_values.specs.declared.plan.Mode.{Mode}
use Rattle.mr_values.specs.declared.plan.Mode.TheVariants.{HalfUp, HalfEven, Floor}
use Rattle.mr_values.specs.Value.{round_value}
use Rattle.mr_values.specs.Width.{floor_quotient}
use Rattle.mr_values.specs.Timing.{Group, Fir, DownCic, UpCic, Rounding, Clipping, taps_of, least_term, low_end, high_end, low_after, high_after, period_after, input}
use Rattle.mr_values.specs.Rounding.{clip_value}
use Rattle.mr_values.proofs.Division.{pow_halves}
use Rattle.mr_values.proofs.HalfEvenLemmas.{half_even_peak}
use Rattle.mr_values.proofs.ClipLemmas.{clip_small}
use Rattle.plan_check.specs.Groups.{size_of, first_failing, IsGroup}
use Rattle.plan_check.specs.Amounts.{magnitude, gain, round_peak, peak_after, peak_test, rate_test}
use Rattle.plan_check.specs.Accepted.{peaks_test, rates_test}
use Rattle.plan_check.proofs.Options.{none_of}

-- ---- what the tests say

abbrev pub PeaksFit : ℕ → List Group → Type 0
PeaksFit peak [] = peak ≤ 2 ^ 125
PeaksFit peak (g ∷ gs) = (peak ≤ 2 ^ 125) × PeaksFit (peak_after g peak) gs

abbrev pub RatesFit : ℕ → List Group → Type 0
RatesFit period [] = period ≤ 2 ^ 31 - 1
RatesFit period (g ∷ gs) = (period ≤ 2 ^ 31 - 1) × RatesFit (period_after g period) gs

peak_passes : (first peak : ℕ) (g : Group) → peak_test first peak g ≡ None → peak_after g peak ≤ 2 ^ 125
peak_passes first peak g e = grind arith

rate_passes : (first period : ℕ) (g : Group) → rate_test first period g ≡ None → period_after g period ≤ 2 ^ 31 - 1
rate_passes first period g e = grind arith

pub peaks_fit : (first peak : ℕ) (gs : List Group) → peak ≤ 2 ^ 125 → first_failing peak_test peak_after first peak gs ≡ None → PeaksFit peak gs
peaks_fit first peak [] h e = h
peaks_fit first peak (g ∷ gs) h e =
    let both = none_of _ _ e in
    (h, peaks_fit (first + size_of g) (peak_after g peak) gs (peak_passes first peak g both.0) both.1)

pub rates_fit : (first period : ℕ) (gs : List Group) → period ≤ 2 ^ 31 - 1 → first_failing rate_test period_after first period gs ≡ None → RatesFit period gs
rates_fit first period [] h e = h
rates_fit first period (g ∷ gs) h e =
    let both = none_of _ _ e in
    (h, rates_fit (first + size_of g) (period_after g period) gs (rate_passes first period g both.0) both.1)

pub rates_head : (period : ℕ) (gs : List Group) → RatesFit period gs → period ≤ 2 ^ 31 - 1
rates_head period [] h = h
rates_head period (g ∷ gs) h = h.0

peaks_head : (peak : ℕ) (gs : List Group) → PeaksFit peak gs → peak ≤ 2 ^ 125
peaks_head peak [] h = h
peaks_head peak (g ∷ gs) h = h.0

-- ---- magnitudes

pub triangle : (a b : ℤ) → unsigned_abs (a +ℤ b) ≤ unsigned_abs a + unsigned_abs b
triangle (pos a) (pos b) = omega (arith, ints)
triangle (pos a) (negsuc b) = omega (arith, ints)
triangle (negsuc a) (pos b) = omega (arith, ints)
triangle (negsuc a) (negsuc b) = omega (arith, ints)

-- |low|, |high| ≤ peak
pub record IsWithin (peak : ℕ) (low high : ℤ) : Type 0 where
  pub low_within : unsigned_abs low ≤ peak
  pub high_within : unsigned_abs high ≤ peak

swapped : (peak : ℕ) (low high : ℤ) → IsWithin peak low high → IsWithin peak high low
swapped peak low high h = record { low_within = h.high_within; high_within = h.low_within }

least_term-within : (peak : ℕ) (low high c : ℤ) → IsWithin peak low high → unsigned_abs (least_term low high c) ≤ unsigned_abs c * peak
least_term-within peak low high (pos c) h = omega (arith, unsigned_abs-mul (pos c) low, mul-le-mul_left c h.low_within)
least_term-within peak low high (negsuc c) h = omega (arith, unsigned_abs-mul (negsuc c) high, mul-le-mul_left (suc c) h.high_within)

low_end-within : (peak : ℕ) (low high : ℤ) (taps : List ℤ) → IsWithin peak low high → unsigned_abs (low_end taps low high) ≤ magnitude taps * peak
low_end-within peak low high [] h = omega arith
low_end-within peak low high (c ∷ cs) h =
    omega (arith, triangle (least_term low high c) (low_end cs low high), least_term-within peak low high c h, low_end-within peak low high cs h)

high_end-within : (peak : ℕ) (low high : ℤ) (taps : List ℤ) → IsWithin peak low high → unsigned_abs (high_end taps low high) ≤ magnitude taps * peak
high_end-within peak low high [] h = omega arith
high_end-within peak low high (c ∷ cs) h =
    omega (arith, triangle (least_term high low c) (high_end cs low high), least_term-within peak high low c (swapped peak low high h), high_end-within peak low high cs h)

scaled-within : (peak k : ℕ) (z : ℤ) → unsigned_abs z ≤ peak → unsigned_abs (pos k *ℤ z) ≤ peak * k
scaled-within peak k z h = omega (arith, unsigned_abs-mul (pos k) z, mul-le-mul_left k h)

pub div_mono : (a b d : ℕ) → 0 < d → a ≤ b → a / d ≤ b / d
div_mono a b d some h = le-div (a / d) b d some (omega (arith, div-mul-le_self a d))

floor-within : (d peak most : ℕ) (z : ℤ) → 0 < d → unsigned_abs z ≤ peak → peak + (d - 1) ≤ most → unsigned_abs (floor_quotient z d) ≤ most / d
floor-within d peak most (pos n) some h room = div_mono n most d some (omega arith)
floor-within d peak most (negsuc n) some h room =
    let more : n / d + 1 ≤ most / d = omega (arith, div_mono (n + d) most d some (omega arith), add-div_right n some) in
    omega arith

-- the bounds of a value that was raised by a half
half-within : (d half peak : ℕ) (z : ℤ) → 0 < half → d ≡ half + half → unsigned_abs z ≤ peak → unsigned_abs (floor_quotient (z +ℤ pos half) d) ≤ (peak + half) / d
half-within d half peak (pos n) some two h = div_mono (n + half) (peak + half) d (omega arith) (omega arith)
half-within d half peak (negsuc n) some two h = at (half - suc n) (suc n - half) refl refl
  where
    at : (over under : ℕ) → half - suc n ≡ over → suc n - half ≡ under → unsigned_abs (floor_quotient (negsuc n +ℤ pos half) d) ≤ (peak + half) / d
    at over zero p q =
        let e : negsuc n +ℤ pos half ≡ pos over = omega (arith, ints) in
        let small : over < d = omega arith in
        rw e (omega (arith, div-eq_of_lt small))
    at over (suc under) p q =
        let e : negsuc n +ℤ pos half ≡ negsuc under = omega (arith, ints) in
        let positive : 0 < d = omega arith in
        rw e (omega (arith, div_mono (under + d) (peak + half) d positive (omega arith), add-div_right under positive))

round-within : (mode : Mode) (shift peak : ℕ) (z : ℤ) → 1 ≤ shift → unsigned_abs z ≤ peak → unsigned_abs (round_value mode shift z) ≤ round_peak mode shift peak
round-within HalfUp shift peak z some h = half-within (2 ^ shift) (2 ^ (shift - 1)) peak z (pow_pos (shift - 1)) (pow_halves shift some) h
round-within HalfEven shift peak z some h = half_even_peak shift peak z some h
round-within Floor shift peak z some h = floor-within (2 ^ shift) peak (peak + (2 ^ shift - 1)) z (pow_pos shift) h (omega arith)

clip-within : (bits peak : ℕ) (z : ℤ) → unsigned_abs z ≤ peak → unsigned_abs (clip_value bits z) ≤ min peak (2 ^ (bits - 1))
clip-within bits peak z h = omega (arith, clip_small bits z)

-- a rounding's shift is at least 1
abbrev pub HasShift : Group → Type 0
HasShift (Fir up filter down) = Unit {0}
HasShift (DownCic factor stages delay) = Unit {0}
HasShift (UpCic factor stages delay) = Unit {0}
HasShift (Rounding shift mode) = 1 ≤ shift
HasShift (Clipping bits) = Unit {0}

has_shift : (g : Group) → IsGroup g → HasShift g
has_shift (Fir up filter down) h = tt
has_shift (DownCic factor stages delay) h = tt
has_shift (UpCic factor stages delay) h = tt
has_shift (Rounding shift mode) h = h.0
has_shift (Clipping bits) h = tt

-- the values after a group
pub within-after : (g : Group) (peak : ℕ) (low high : ℤ) → HasShift g → IsWithin peak low high → IsWithin (peak_after g peak) (low_after g low high) (high_after g low high)
within-after (Fir up filter down) peak low high limits h = record {
  low_within = omega (arith, low_end-within peak low high (taps_of filter) h);
  high_within = omega (arith, high_end-within peak low high (taps_of filter) h);
}
within-after (DownCic factor stages delay) peak low high limits h = record {
  low_within = scaled-within peak ((factor * delay) ^ stages) low h.low_within;
  high_within = scaled-within peak ((factor * delay) ^ stages) high h.high_within;
}
within-after (UpCic factor stages delay) peak low high limits h = record {
  low_within = scaled-within peak ((factor * delay) ^ stages) low h.low_within;
  high_within = scaled-within peak ((factor * delay) ^ stages) high h.high_within;
}
within-after (Rounding shift mode) peak low high limits h = record {
  low_within = round-within mode shift peak low limits h.low_within;
  high_within = round-within mode shift peak high limits h.high_within;
}
within-after (Clipping bits) peak low high limits h = record {
  low_within = clip-within bits peak low h.low_within;
  high_within = clip-within bits peak high h.high_within;
}

-- ---- a walk over the groups

pub record IsNarrow (gs : List Group) (low high : ℤ) : Type 0 where
  pub peak : ℕ
  pub within : IsWithin peak low high
  pub fits : PeaksFit peak gs

pub narrow_next : (g : Group) (gs all : List Group) (low high : ℤ) → all ≡ g ∷ gs → IsGroup g → IsNarrow all low high → IsNarrow gs (low_after g low high) (high_after g low high)
narrow_next g gs all low high e limits h =
    let fits : PeaksFit h.peak (g ∷ gs) = subst (PeaksFit h.peak) e h.fits in
    record { peak = peak_after g h.peak; within = within-after g h.peak low high (has_shift g limits) h.within; fits = fits.1 }

gain-fits : (g : Group) (peak m : ℕ) → m ≤ peak → peak ≤ 2 ^ 125 → peak_after g peak ≤ 2 ^ 125 → gain g * m ≤ 2 ^ 125
gain-fits (Fir up filter down) peak m h p q = omega (arith, mul-le-mul_left (magnitude (taps_of filter)) h)
gain-fits (DownCic factor stages delay) peak m h p q = omega (arith, mul-le-mul_left ((factor * delay) ^ stages) h)
gain-fits (UpCic factor stages delay) peak m h p q = omega (arith, mul-le-mul_left ((factor * delay) ^ stages) h)
gain-fits (Rounding shift mode) peak m h p q = omega arith
gain-fits (Clipping bits) peak m h p q = omega arith

pub narrow_gain : (g : Group) (gs all : List Group) (low high : ℤ) → all ≡ g ∷ gs → IsNarrow all low high → gain g * max (unsigned_abs low) (unsigned_abs high) ≤ 2 ^ 125
narrow_gain g gs all low high e h =
    let fits : PeaksFit h.peak (g ∷ gs) = subst (PeaksFit h.peak) e h.fits in
    let l = h.within.low_within in
    let r = h.within.high_within in
    gain-fits g h.peak (max (unsigned_abs low) (unsigned_abs high)) (omega arith) fits.0 (peaks_head (peak_after g h.peak) gs fits.1)

pub narrow_start : (width ticks : ℕ) (gs : List Group) → 2 ≤ width → width ≤ 64 → peaks_test width gs ≡ None → IsNarrow gs (input width ticks).low (input width ticks).high
narrow_start width ticks gs low high e =
    let some : 0 < 2 = omega arith in
    let long : 2 ^ (width - 1) ≤ 2 ^ 63 = pow-le-pow_right some {i = width - 1} {j = 63} (omega arith) in
    record {
      peak = 2 ^ (width - 1);
      within = record { low_within = lowest (2 ^ (width - 1)); high_within = omega arith };
      fits = peaks_fit 1 (2 ^ (width - 1)) gs (omega (arith, long)) e;
    }
  where
    lowest : (n : ℕ) → unsigned_abs (neg_ℤ (pos n)) ≤ n
    lowest zero = omega arith
    lowest (suc n) = omega arith

pub rates_start : (ticks : ℕ) (gs : List Group) → ticks ≤ 65536 → rates_test ticks gs ≡ None → RatesFit ticks gs
rates_start ticks gs h e = rates_fit 1 ticks gs (omega arith) e

pub rates_next : (g : Group) (gs all : List Group) (period : ℕ) → all ≡ g ∷ gs → RatesFit period all → RatesFit (period_after g period) gs
rates_next g gs all period e h = let fits : RatesFit period (g ∷ gs) = subst (RatesFit period) e h in fits.1
