-- How soon a sum over what elements make of samples reaches an end of its range, and how many samples are read by then.
use Rattle.std.specs.Prelude.{ℕ, ◌+◌, ◌*◌, ◌/◌, ◌^◌, ◌≤◌, List, length, ℤ, pos, ◌≤ℤ◌}
use Rattle.mr_values.specs.declared.plan.Element.{Element}
use Rattle.impulse_phase.specs.Reach.{extent}
use Rattle.impulse_phase.specs.Response.{responses, full_cycle}
use Rattle.plan_check.specs.Costs.{gcd}
use Rattle.stage_law.specs.declared.ranges.Class.{Class}
use Rattle.width_extreme.specs.Prefix.{finer_classes}

-- the form, as many rounds of the classes as the elements reach back and one more, and one round of all finer classes
abbrev pub soon_after : List Element → List ℤ → Class → ℕ
soon_after elements form class =
    length form + (full_cycle elements).classes * ((extent elements).reach / (full_cycle elements).step + 1) + finer_classes (full_cycle elements).classes class.modulus * class.modulus

-- A round of the classes takes few samples, and so does a round of them together with the sum's own. A value depends on few, and few stand
-- before as many indices as the form has weights.
pub record ReadsFew (elements : List Element) (form : List ℤ) (class : Class) : Type 0 where
  pub round : (full_cycle elements).step ≤ 2 ^ 24
  pub turn : class.modulus / gcd (full_cycle elements).classes class.modulus * (full_cycle elements).step ≤ 2 ^ 24
  pub reach : (extent elements).reach ≤ 2 ^ 20
  pub behind : (responses elements (pos (length form))).newest ≤ℤ pos (2 ^ 20 + 2 * (full_cycle elements).step)
