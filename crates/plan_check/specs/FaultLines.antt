-- The line that a refusal of a plan is printed as: its variant's name, and for each field a space, its name, `=` and its value.
use Rattle.std.specs.Prelude.{ℕ, List, ◌++◌, codes, decimal}
use Rattle.std.specs.Fmt.{signed_decimal}
use Rattle.plan_check.specs.declared.fault.LimitWhich.{LimitWhich}
use Rattle.plan_check.specs.declared.fault.LimitWhich.TheVariants as limit
use Rattle.plan_check.specs.declared.fault.CostWhich.{CostWhich}
use Rattle.plan_check.specs.declared.fault.CostWhich.TheVariants as cost
use Rattle.plan_check.specs.declared.fault.PlanFault.{PlanFault}
use Rattle.plan_check.specs.declared.fault.PlanFault.TheVariants.{Limit, RateNotWhole, TooWide, BoundTooWide, FormNotFit, Cost, PeriodOver, Memory}

abbrev pub limit_text : LimitWhich → List ℕ
limit_text limit.Width = codes "Width"
limit_text limit.Ticks = codes "Ticks"
limit_text limit.Elements = codes "Elements"
limit_text limit.Factor = codes "Factor"
limit_text limit.Stages = codes "Stages"
limit_text limit.Delay = codes "Delay"
limit_text limit.Taps = codes "Taps"
limit_text limit.Tap = codes "Tap"
limit_text limit.Slots = codes "Slots"
limit_text limit.Group = codes "Group"
limit_text limit.Shift = codes "Shift"
limit_text limit.Bits = codes "Bits"

abbrev pub cost_text : CostWhich → List ℕ
cost_text cost.Terms = codes "Terms"
cost_text cost.Latency = codes "Latency"
cost_text cost.Work = codes "Work"
cost_text cost.Response = codes "Response"
cost_text cost.Cycle = codes "Cycle"

abbrev pub plan_fault_text : PlanFault → List ℕ
plan_fault_text (Limit element which value) = codes "Limit element=" ++ decimal element ++ codes " which=" ++ limit_text which ++ codes " value=" ++ signed_decimal value
plan_fault_text (RateNotWhole element) = codes "RateNotWhole element=" ++ decimal element
plan_fault_text (TooWide element) = codes "TooWide element=" ++ decimal element
plan_fault_text (BoundTooWide element) = codes "BoundTooWide element=" ++ decimal element
plan_fault_text (FormNotFit element) = codes "FormNotFit element=" ++ decimal element
plan_fault_text (Cost element which value) = codes "Cost element=" ++ decimal element ++ codes " which=" ++ cost_text which ++ codes " value=" ++ signed_decimal value
plan_fault_text (PeriodOver element period) = codes "PeriodOver element=" ++ decimal element ++ codes " period=" ++ decimal period
plan_fault_text Memory = codes "Memory"
