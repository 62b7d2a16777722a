-- Which filters a form fits.
use Rattle.std.specs.Prelude.{ℕ, suc, ◌-◌, ◌/◌, ◌%◌, ◌==◌, nat_le, Bool, true, false, ◌&&◌, ◌||◌, if◌then◌else◌, List, [], ◌∷◌, length, map, reverse, ℤ, pos, neg_ℤ, Option, None, Some, is_none, unwrap_or, int_le}
use Rattle.mr_values.specs.declared.plan.Form.{Form}
use Rattle.mr_values.specs.declared.plan.Form.TheVariants.{Parallel, Symmetric, HalfBand, Folded, Distributed}
use Rattle.mr_values.specs.Value.{size}
use Rattle.mr_values.specs.Timing.{Group, Fir, DownCic, UpCic, Rounding, Clipping, Stream, wide, period_after, low_after, high_after}
use Rattle.plan_check.specs.declared.fault.PlanFault.{PlanFault}
use Rattle.plan_check.specs.declared.fault.PlanFault.TheVariants.{FormNotFit}
use Rattle.plan_check.specs.Groups.{middle_of}

abbrev pub same_number : ℤ → ℤ → Bool
same_number a b = int_le a b && int_le b a

-- two lists have the same numbers
abbrev pub same_numbers : List ℤ → List ℤ → Bool
same_numbers [] [] = true
same_numbers (a ∷ as_left) (b ∷ bs) = same_number a b && same_numbers as_left bs
same_numbers _ _ = false

-- the taps read backwards are the taps, or their negations
abbrev pub is_symmetric : List ℤ → Bool
is_symmetric taps = same_numbers taps (reverse taps)

abbrev pub is_antisymmetric : List ℤ → Bool
is_antisymmetric taps = same_numbers taps (map neg_ℤ (reverse taps))

-- each tap at an odd index but the centre is 0, in taps that begin at an index
abbrev pub is_zero_between : ℕ → ℕ → List ℤ → Bool
is_zero_between centre index [] = true
is_zero_between centre index (c ∷ cs) = (index % 2 == 0 || index == centre || same_number c (pos 0)) && is_zero_between centre (suc index) cs

-- 4 * J - 1 symmetric taps, each second one from the centre 0
abbrev pub is_half_band : List ℤ → Bool
is_half_band taps = (length taps % 4 == 3) && is_symmetric taps && is_zero_between ((length taps - 1) / 2) 0 taps

-- ---- groups

-- how often a stream has values, and between which numbers they lie
pub record Flow : Type 0 where
  pub period : ℕ
  pub low : ℤ
  pub high : ℤ

abbrev pub flow_of : Stream → Flow
flow_of s = record { period = s.period; low = s.low; high = s.high }

abbrev pub flow_after : Group → Flow → Flow
flow_after g f = record { period = period_after g f.period; low = low_after g f.low f.high; high = high_after g f.low f.high }

-- Whether a form fits taps between an Up and a Down, where the outputs stand `period` ticks apart.
-- Folded needs a tick for each slot, and Distributed one for each bit of a sample.
abbrev pub form_fits : Form → Option ℕ → List ℤ → Option ℕ → ℕ → Flow → Bool
form_fits Parallel up taps down period f = true
form_fits Symmetric up taps down period f = is_none up && (is_symmetric taps || is_antisymmetric taps)
form_fits HalfBand up taps down period f = is_none up && (unwrap_or down 1 == 2) && is_half_band taps
form_fits (Folded slots) up taps down period f = nat_le (size slots) period
form_fits (Distributed group) up taps down period f = is_none up && nat_le (wide f.low f.high) period

abbrev pub filter_fits : Option (List ℤ × Form) → Option ℕ → Option ℕ → ℕ → Flow → Bool
filter_fits None up down period f = true
filter_fits (Some filter) up down period f = form_fits filter.1 up filter.0 down period f

abbrev pub group_fits : Group → Flow → Bool
group_fits (Fir up filter down) f = filter_fits filter up down (period_after (Fir up filter down) f.period) f
group_fits (DownCic factor stages delay) f = true
group_fits (UpCic factor stages delay) f = true
group_fits (Rounding shift mode) f = true
group_fits (Clipping bits) f = true

abbrev pub fit_test : ℕ → Flow → Group → Option PlanFault
fit_test first f g = if group_fits g f then None else Some (FormNotFit (middle_of first g))
