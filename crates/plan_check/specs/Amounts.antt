-- How great the values of a plan and their rounding errors become.
-- Crochiere and Rabiner, Multirate Digital Signal Processing, 2.3; Hogenauer 1981, II (the gain of a CIC).
use Rattle.std.specs.Prelude.{ℕ, ◌+◌, ◌-◌, ◌*◌, ◌/◌, ◌^◌, min, List, [], ◌∷◌, ℤ, pos, negsuc, unsigned_abs, Option, None, Some, nat_le, ◌==◌, ◌%◌, if◌then◌else◌}
use Rattle.mr_values.specs.declared.plan.Mode.{Mode}
use Rattle.mr_values.specs.declared.plan.Mode.TheVariants.{HalfUp, HalfEven, Floor}
use Rattle.mr_values.specs.Timing.{Group, Fir, DownCic, UpCic, Rounding, Clipping, taps_of, ceil_div, up_factor, down_factor, period_after}
use Rattle.plan_check.specs.declared.fault.PlanFault.{PlanFault}
use Rattle.plan_check.specs.declared.fault.PlanFault.TheVariants.{RateNotWhole, PeriodOver, TooWide, BoundTooWide}
use Rattle.plan_check.specs.Groups.{last_of, middle_of}

-- ---- rates

-- The period p * M / L is whole, and at most 2 ^ 31 - 1. An Up stands first in its group, and a Down last.
abbrev pub rate_test : ℕ → ℕ → Group → Option PlanFault
rate_test first period g =
    if period * down_factor g % up_factor g == 0
    then (if nat_le (period_after g period) (2 ^ 31 - 1) then None else Some (PeriodOver (last_of first g) (period_after g period)))
    else Some (RateNotWhole first)

-- ---- the peak: no value has a greater magnitude

-- the sum of the taps above 0, and of the magnitudes of those below 0
abbrev pub rises : List ℤ → ℕ
rises [] = 0
rises (pos n ∷ cs) = n + rises cs
rises (negsuc n ∷ cs) = rises cs

abbrev pub falls : List ℤ → ℕ
falls [] = 0
falls (pos n ∷ cs) = falls cs
falls (negsuc n ∷ cs) = (n + 1) + falls cs

-- the sum of the magnitudes
abbrev pub magnitude : List ℤ → ℕ
magnitude [] = 0
magnitude (c ∷ cs) = unsigned_abs c + magnitude cs

-- how much a group can magnify; a rounding and a clipping magnify nothing
abbrev pub gain : Group → ℕ
gain (Fir up filter down) = magnitude (taps_of filter)
gain (DownCic factor stages delay) = (factor * delay) ^ stages
gain (UpCic factor stages delay) = (factor * delay) ^ stages
gain (Rounding shift mode) = 1
gain (Clipping bits) = 1

abbrev pub round_peak : Mode → ℕ → ℕ → ℕ
round_peak HalfUp shift peak = (peak + 2 ^ (shift - 1)) / 2 ^ shift
round_peak HalfEven shift peak = (peak + 2 ^ (shift - 1)) / 2 ^ shift
round_peak Floor shift peak = ceil_div peak (2 ^ shift)

abbrev pub peak_after : Group → ℕ → ℕ
peak_after (Fir up filter down) peak = peak * gain (Fir up filter down)
peak_after (DownCic factor stages delay) peak = peak * gain (DownCic factor stages delay)
peak_after (UpCic factor stages delay) peak = peak * gain (UpCic factor stages delay)
peak_after (Rounding shift mode) peak = round_peak mode shift peak
peak_after (Clipping bits) peak = min peak (2 ^ (bits - 1))

-- a group without a Filter keeps the peak
abbrev pub peak_test : ℕ → ℕ → Group → Option PlanFault
peak_test first peak g = if nat_le (peak_after g peak) (2 ^ 125) then None else Some (TooWide (middle_of first g))

-- ---- the bound: how far 2 ^ shift times a value is from the value without roundings

pub record RoundingError : Type 0 where
  pub bound : ℕ
  pub shift : ℕ

-- how far one rounding is off
abbrev pub round_error : Mode → ℕ → ℕ
round_error HalfUp shift = 2 ^ (shift - 1)
round_error HalfEven shift = 2 ^ (shift - 1)
round_error Floor shift = 2 ^ shift - 1

abbrev pub error_after : Group → RoundingError → RoundingError
error_after (Fir up filter down) e = record { bound = e.bound * gain (Fir up filter down); shift = e.shift }
error_after (DownCic factor stages delay) e = record { bound = e.bound * gain (DownCic factor stages delay); shift = e.shift }
error_after (UpCic factor stages delay) e = record { bound = e.bound * gain (UpCic factor stages delay); shift = e.shift }
error_after (Rounding shift mode) e = record { bound = e.bound + 2 ^ e.shift * round_error mode shift; shift = e.shift + shift }
error_after (Clipping bits) e = e

abbrev pub error_after_all : List Group → RoundingError → RoundingError
error_after_all [] e = e
error_after_all (g ∷ gs) e = error_after_all gs (error_after g e)

abbrev pub no_error : RoundingError
no_error = record { bound = 0; shift = 0 }

-- the bits that all roundings shift together
abbrev pub own_shift : Group → ℕ
own_shift (Fir up filter down) = 0
own_shift (DownCic factor stages delay) = 0
own_shift (UpCic factor stages delay) = 0
own_shift (Rounding shift mode) = shift
own_shift (Clipping bits) = 0

abbrev pub shifts_of : List Group → ℕ
shifts_of [] = 0
shifts_of (g ∷ gs) = own_shift g + shifts_of gs

abbrev pub bound_test : ℕ → RoundingError → Group → Option PlanFault
bound_test first e g = if nat_le (error_after g e).bound (2 ^ 125) then None else Some (BoundTooWide (middle_of first g))
