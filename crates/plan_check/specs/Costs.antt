-- What a plan costs: the terms of its filters, its latency, and how many samples a value depends on.
-- Crochiere and Rabiner, Multirate Digital Signal Processing, 3.3 (a periodic system and its phases).
use Rattle.std.specs.Prelude.{ℕ, zero, suc, ◌+◌, ◌-◌, ◌*◌, ◌/◌, ◌%◌, ◌^◌, nat_le, if◌then◌else◌, List, length, take, ℤ, pos, Option, None, Some}
use Rattle.std.specs.Option.{option_or, option_map}
use Rattle.mr_values.specs.declared.plan.Form.{Form}
use Rattle.mr_values.specs.declared.plan.Form.TheVariants.{Parallel, Symmetric, HalfBand, Folded, Distributed}
use Rattle.mr_values.specs.Value.{size}
use Rattle.mr_values.specs.Timing.{Group, Fir, DownCic, UpCic, Rounding, Clipping, Stream, taps_of, form_of, terms, ceil_div, up_factor, down_factor, period_after, group_delay, after}
use Rattle.plan_check.specs.declared.fault.CostWhich.{CostWhich}
use Rattle.plan_check.specs.declared.fault.CostWhich.TheVariants.{Terms, Latency, Work, Response, Cycle}
use Rattle.plan_check.specs.declared.fault.PlanFault.{PlanFault}
use Rattle.plan_check.specs.declared.fault.PlanFault.TheVariants.{Cost}
use Rattle.plan_check.specs.Groups.{last_of}

-- ---- the terms of a group

abbrev pub form_terms : Form → List ℤ → ℕ
form_terms Parallel taps = terms taps
form_terms Symmetric taps = terms (take (ceil_div (length taps) 2) taps)
form_terms HalfBand taps = terms (take (ceil_div (length taps) 2) taps)
form_terms (Folded slots) taps = terms taps
form_terms (Distributed group) taps = ceil_div (length taps) (size group) * 2 ^ size group

abbrev pub terms_of : Group → ℕ
terms_of (Fir up filter down) = form_terms (form_of filter) (taps_of filter)
terms_of (DownCic factor stages delay) = 2 * stages
terms_of (UpCic factor stages delay) = 2 * stages
terms_of (Rounding shift mode) = 1
terms_of (Clipping bits) = 1

-- ---- classes and reach

-- the greatest common divisor, by Euclid; b is below the fuel
abbrev pub gcd_to : ℕ → ℕ → ℕ → ℕ
gcd_to zero a b = a
gcd_to (suc fuel) a zero = a
gcd_to (suc fuel) a (suc b) = gcd_to fuel (suc b) (a % suc b)

abbrev pub gcd : ℕ → ℕ → ℕ
gcd a b = gcd_to (suc b) a b

-- The value at index n depends on at most `reach` samples, and in a way that only n modulo `classes` determines.
pub record Spread : Type 0 where
  pub classes : ℕ
  pub reach : ℕ

-- how many steps back, at the higher of its rates, a group looks
abbrev pub memory_of : Group → ℕ
memory_of (Fir up filter down) = length (taps_of filter) - 1
memory_of (DownCic factor stages delay) = stages * (factor * delay - 1)
memory_of (UpCic factor stages delay) = stages * (factor * delay - 1)
memory_of (Rounding shift mode) = 0
memory_of (Clipping bits) = 0

abbrev pub classes_after : Group → ℕ → ℕ
classes_after g classes = classes * up_factor g / gcd (classes * up_factor g) (down_factor g)

abbrev pub spread_after : ℕ → Group → ℕ → Spread → Spread
spread_after ticks g period s = record {
  classes = classes_after g s.classes;
  reach = s.reach + ceil_div (memory_of g * period) (up_factor g * ticks);
}

-- ---- the tests

-- what the groups so far add up to. There is no spread after a rounding or a clipping, whose values are no sums of samples
pub record Tally : Type 0 where
  pub stream : Stream
  pub terms : ℕ
  pub spread : Option Spread

abbrev pub linear_spread : Group → Option Spread → Option Spread
linear_spread (Fir up filter down) s = s
linear_spread (DownCic factor stages delay) s = s
linear_spread (UpCic factor stages delay) s = s
linear_spread (Rounding shift mode) s = None
linear_spread (Clipping bits) s = None

abbrev pub tally_after : ℕ → Group → Tally → Tally
tally_after ticks g t = record {
  stream = after g t.stream;
  terms = t.terms + terms_of g;
  spread = option_map (spread_after ticks g t.stream.period) (linear_spread g t.spread);
}

abbrev pub over : ℕ → CostWhich → ℕ → ℕ → Option PlanFault
over element which value most = if nat_le value most then None else Some (Cost element which (pos value))

-- `before` and `next` are the spread before and after a group
abbrev pub spread_test : ℕ → ℕ → Group → ℕ → Spread → Spread → Option PlanFault
spread_test ticks element g period before next =
    option_or (over element Work (terms_of g * before.classes * before.reach) (2 ^ 28))
    (option_or (over element Response (next.classes * next.reach) (2 ^ 20)) (over element Cycle (next.classes * period_after g period / ticks) (2 ^ 24)))

abbrev pub linear_test : ℕ → ℕ → Group → ℕ → Option Spread → Option PlanFault
linear_test ticks element g period None = None
linear_test ticks element g period (Some s) = spread_test ticks element g period s (spread_after ticks g period s)

abbrev pub cost_test : ℕ → ℕ → Tally → Group → Option PlanFault
cost_test ticks first t g =
    option_or (over (last_of first g) Terms (t.terms + terms_of g) 16384)
    (option_or (over (last_of first g) Latency (t.stream.offset + group_delay g t.stream + 1) (2 ^ 31 - 1))
    (linear_test ticks (last_of first g) g t.stream.period (linear_spread g t.spread)))
