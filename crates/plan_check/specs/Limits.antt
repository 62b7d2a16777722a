-- The limits of the numbers of a plan, and the first number outside them.
use Rattle.std.specs.Prelude.{ℕ, suc, ◌^◌, List, [], ◌∷◌, length, Option, None, Some, ◌&&◌, if◌then◌else◌, ℤ, pos, neg_ℤ, int_le, ◌≤ℤ◌, ◌≤◌, All}
use Rattle.std.specs.Option.{option_or}
use Rattle.mr_values.specs.declared.plan.Element.{Element}
use Rattle.mr_values.specs.declared.plan.Element.TheVariants.{Up, Down, Filter, CicDown, CicUp, Round, Clip}
use Rattle.mr_values.specs.declared.plan.Form.{Form}
use Rattle.mr_values.specs.declared.plan.Form.TheVariants.{Parallel, Symmetric, HalfBand, Folded, Distributed}
use Rattle.mr_values.specs.declared.plan.Plan.{Plan}
use Rattle.mr_values.specs.Value.{IsWithinLimits}
use Rattle.plan_check.specs.declared.fault.LimitWhich.{LimitWhich}
use Rattle.plan_check.specs.declared.fault.LimitWhich.TheVariants.{Width, Ticks, Elements, Factor, Stages, Delay, Taps, Tap, Slots, Group, Shift, Bits}
use Rattle.plan_check.specs.declared.fault.PlanFault.{PlanFault}
use Rattle.plan_check.specs.declared.fault.PlanFault.TheVariants.{Limit}

-- the fault of a number of an element outside a range; element 0 is the plan itself
abbrev pub limit_test : ℕ → LimitWhich → ℤ → ℤ → ℤ → Option PlanFault
limit_test element which value least greatest = if int_le least value && int_le value greatest then None else Some (Limit element which value)

abbrev pub taps_test : ℕ → List ℤ → Option PlanFault
taps_test element [] = None
taps_test element (tap ∷ taps) = option_or (limit_test element Tap tap (neg_ℤ (pos (2 ^ 62))) (pos (2 ^ 62))) (taps_test element taps)

abbrev pub form_test : ℕ → Form → Option PlanFault
form_test element Parallel = None
form_test element Symmetric = None
form_test element HalfBand = None
form_test element (Folded slots) = limit_test element Slots slots (pos 1) (pos 65536)
form_test element (Distributed group) = limit_test element Group group (pos 1) (pos 6)

abbrev pub cic_test : ℕ → ℤ → ℤ → ℤ → Option PlanFault
cic_test element factor stages delay =
    option_or (limit_test element Factor factor (pos 1) (pos 4096)) (option_or (limit_test element Stages stages (pos 1) (pos 8)) (limit_test element Delay delay (pos 1) (pos 2)))

-- the first number of an element outside its limits
abbrev pub element_test : ℕ → Element → Option PlanFault
element_test element (Up factor) = limit_test element Factor factor (pos 1) (pos 4096)
element_test element (Down factor) = limit_test element Factor factor (pos 1) (pos 4096)
element_test element (Filter taps form) =
    option_or (limit_test element Taps (pos (length taps)) (pos 1) (pos 1024)) (option_or (taps_test element taps) (form_test element form))
element_test element (CicDown factor stages delay) = cic_test element factor stages delay
element_test element (CicUp factor stages delay) = cic_test element factor stages delay
element_test element (Round shift mode) = limit_test element Shift shift (pos 1) (pos 64)
element_test element (Clip bits) = limit_test element Bits bits (pos 2) (pos 64)

-- elements are numbered from `first` on
abbrev pub elements_test : ℕ → List Element → Option PlanFault
elements_test first [] = None
elements_test first (e ∷ es) = option_or (element_test first e) (elements_test (suc first) es)

-- the width and the ticks
abbrev pub own_test : Plan → Option PlanFault
own_test plan = option_or (limit_test 0 Width plan.width (pos 2) (pos 64)) (limit_test 0 Ticks plan.ticks (pos 1) (pos 65536))

-- the first number of a plan outside its limits
abbrev pub limits_test : Plan → Option PlanFault
limits_test plan =
    option_or (own_test plan) (option_or (limit_test 0 Elements (pos (length plan.elements)) (pos 1) (pos 32)) (elements_test 1 plan.elements))

-- what passing these tests says
pub record HasLimits (plan : Plan) : Type 0 where
  pub width_low : pos 2 ≤ℤ plan.width
  pub width_high : plan.width ≤ℤ pos 64
  pub ticks_low : pos 1 ≤ℤ plan.ticks
  pub ticks_high : plan.ticks ≤ℤ pos 65536
  pub few : length plan.elements ≤ 32
  pub elements : All IsWithinLimits plan.elements
