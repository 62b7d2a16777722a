-- What structs of the code are to a contract.
use Rattle.plan_check.specs.declared.amounts.RoundingError.{RoundingError as ErrorOfCode}
use Rattle.plan_check.specs.declared.flow.PlanFlow.{PlanFlow}
use Rattle.plan_check.specs.declared.costs.PlanSpread.{PlanSpread}
use Rattle.plan_check.specs.Forms.{Flow}
use Rattle.plan_check.specs.Costs.{Spread, Tally}
use Rattle.plan_check.specs.Amounts.{RoundingError}
use Rattle.std.specs.Prelude.{ℕ, ◌≤◌, ◌^◌, Option, None, Some}
use Rattle.std.specs.Option.{option_map}
use Rattle.plan_check.specs.declared.accept.PlanTally.{PlanTally}
use Rattle.mr_values.specs.Timing.{Stream}

abbrev pub as_error : ErrorOfCode → RoundingError
as_error error = record { bound = error.bound; shift = error.shift }

abbrev pub as_flow : PlanFlow → Flow
as_flow flow = record { period = flow.period; low = flow.low; high = flow.high }

abbrev pub as_stream : PlanFlow → ℕ → Stream
as_stream flow offset = record { period = flow.period; offset = offset; low = flow.low; high = flow.high }

abbrev pub as_spread : PlanSpread → Spread
as_spread spread = record { classes = spread.classes; reach = spread.reach }

abbrev pub as_tally : PlanTally → Tally
as_tally tally = record { stream = as_stream tally.flow tally.offset; terms = tally.terms; spread = option_map as_spread tally.spread }

-- what the tests so far have left of a spread
abbrev pub IsModest : Option PlanSpread → Type 0
IsModest None = Unit {0}
IsModest (Some s) = (1 ≤ s.classes) × (s.classes ≤ 2 ^ 20) × (1 ≤ s.reach) × (s.reach ≤ 2 ^ 20)
