-- Which plans are accepted, the first fault of one that is not, and the facts of one that is.
use Rattle.std.specs.Prelude.{◌≡◌, ℕ, ◌+◌, ◌-◌, ◌^◌, if◌then◌else◌, List, [], ◌∷◌, Option, None, Some}
use Rattle.std.specs.Option.{option_or}
use Rattle.mr_values.specs.declared.plan.Element.{Element}
use Rattle.mr_values.specs.declared.plan.Plan.{Plan}
use Rattle.mr_values.specs.Value.{size, has_clip}
use Rattle.mr_values.specs.Timing.{Group, groups, Stream, input, after, period_after, group_delay, up_factor, down_factor, latency, last_stream}
use Rattle.plan_check.specs.declared.fault.PlanFault.{PlanFault}
use Rattle.plan_check.specs.declared.facts.Facts.{Facts}
use Rattle.plan_check.specs.declared.facts.GroupFacts.{GroupFacts}
use Rattle.plan_check.specs.Limits.{limits_test}
use Rattle.plan_check.specs.Groups.{first_failing, size_of, last_of}
use Rattle.plan_check.specs.Amounts.{rate_test, peak_test, peak_after, bound_test, error_after, error_after_all, no_error}
use Rattle.plan_check.specs.Forms.{fit_test, flow_of, flow_after}
use Rattle.plan_check.specs.Costs.{Tally, tally_after, terms_of, cost_test}

-- ---- each test over the groups

abbrev pub rates_test : ℕ → List Group → Option PlanFault
rates_test ticks gs = first_failing rate_test period_after 1 ticks gs

abbrev pub peaks_test : ℕ → List Group → Option PlanFault
peaks_test width gs = first_failing peak_test peak_after 1 (2 ^ (width - 1)) gs

abbrev pub errors_test : List Group → Option PlanFault
errors_test gs = first_failing bound_test error_after 1 no_error gs

-- a plan that clips has no bound, whatever its roundings are
abbrev pub bounds_test : List Element → Option PlanFault
bounds_test elements = if has_clip elements then None else errors_test (groups elements)

abbrev pub bound_of : List Element → Option ℕ
bound_of elements = if has_clip elements then None else Some (error_after_all (groups elements) no_error).bound

abbrev pub fits_test : ℕ → ℕ → List Group → Option PlanFault
fits_test width ticks gs = first_failing fit_test flow_after 1 (flow_of (input width ticks)) gs

abbrev pub no_tally : ℕ → ℕ → Tally
no_tally width ticks = record { stream = input width ticks; terms = 0; spread = Some (record { classes = 1; reach = 1 }) }

abbrev pub costs_test : ℕ → ℕ → List Group → Option PlanFault
costs_test width ticks gs = first_failing (cost_test ticks) (tally_after ticks) 1 (no_tally width ticks) gs

-- ---- plans

abbrev pub groups_test : ℕ → ℕ → List Element → Option PlanFault
groups_test width ticks elements =
    let gs = groups elements in
    option_or (rates_test ticks gs) (option_or (peaks_test width gs) (option_or (bounds_test elements) (option_or (fits_test width ticks gs) (costs_test width ticks gs))))

-- the first test that fails
abbrev pub first_fault : Plan → Option PlanFault
first_fault plan = option_or (limits_test plan) (groups_test (size plan.width) (size plan.ticks) plan.elements)

pub record IsAccepted (plan : Plan) : Type 0 where
  pub passes : first_fault plan ≡ None

-- ---- facts

abbrev pub facts_of : ℕ → Stream → Group → GroupFacts
facts_of first s g = record {
  first = first;
  last = last_of first g;
  up = up_factor g;
  down = down_factor g;
  period_in = s.period;
  period_out = period_after g s.period;
  offset_in = s.offset;
  delay = group_delay g s;
  span_lo = s.low;
  span_hi = s.high;
  terms = terms_of g;
}

abbrev pub group_facts : ℕ → Stream → List Group → List GroupFacts
group_facts first s [] = []
group_facts first s (g ∷ gs) = facts_of first s g ∷ group_facts (first + size_of g) (after g s) gs

pub record AreFacts (width ticks : ℕ) (elements : List Element) (facts : Facts) : Type 0 where
  pub latency_is : facts.latency ≡ latency width ticks elements
  pub period_is : facts.period ≡ (last_stream width ticks elements).period
  pub bound_is : facts.bound ≡ bound_of elements
  pub shift_is : facts.shift ≡ (error_after_all (groups elements) no_error).shift
  pub low_is : facts.end_lo ≡ (last_stream width ticks elements).low
  pub high_is : facts.end_hi ≡ (last_stream width ticks elements).high
  pub groups_are : facts.groups.items ≡ group_facts 1 (input width ticks) (groups elements)
