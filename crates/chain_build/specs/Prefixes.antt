-- The first elements of a plan, and the streams that they make.
use Rattle.std.specs.Prelude.{◌≡◌, ℕ, ◌-◌, ◌≤◌, Bool, true, false, ℤ, pos, ◌≤ℤ◌, List, All, length, take}
use Rattle.mr_values.specs.declared.plan.Element.{Element}
use Rattle.mr_values.specs.declared.plan.Plan.{Plan}
use Rattle.mr_values.specs.Timing.{Group}
use Rattle.mr_values.specs.Sequence.{Sequence}
use Rattle.mr_values.specs.Value.{IsWithinLimits, chain, size}
use Rattle.plan_check.specs.declared.facts.GroupFacts.{GroupFacts}
use Rattle.plan_check.specs.Amounts.{gain}
use Rattle.plan_check.specs.Forms.{Flow}
use Rattle.impulse_phase.specs.Reading.{AreModest}
use Rattle.impulse_phase.specs.Response.{AreLinear}
use Rattle.span_ranges.specs.Span.{IsInSpan}
use Rattle.stage_law.specs.Streams.{Streams, HasRoom}
use Rattle.width_extreme.specs.Prefix.{IsStream}

-- the plan has so many elements, which don't round, and their responses fit a table
pub record IsExactPrefix (plan : Plan) (taken : ℕ) : Type 0 where
  pub width_low : pos 1 ≤ℤ plan.width
  pub width_high : plan.width ≤ℤ pos 64
  pub within : taken ≤ length plan.elements
  pub linear : AreLinear (take taken plan.elements)
  pub limits : All IsWithinLimits (take taken plan.elements)
  pub modest : AreModest (take taken plan.elements)

-- the streams before a group: what the elements before it make of samples, where none of them rounds, else all within the span
abbrev pub streams_before : Bool → ℕ → List Element → ℤ → ℤ → Streams
streams_before true width elements low high = IsInSpan low high
streams_before false width elements low high = IsStream (chain elements) width

-- the flow of the stream before a group, whose values stand so many ticks apart
abbrev pub flow_before : ℕ → GroupFacts → Flow
flow_before period fact = record { period = period; low = fact.span_lo; high = fact.span_hi }

-- the elements before a group
abbrev pub elements_before : Plan → GroupFacts → List Element
elements_before plan fact = take (fact.first - 1) plan.elements

-- all values of the streams lie in the span before a group
abbrev pub AreInSpan : Streams → GroupFacts → Type 0
AreInSpan streams fact = (v : Sequence) → streams v → IsInSpan fact.span_lo fact.span_hi v

-- the group can take the streams before it
pub record CanTake (plan : Plan) (fact : GroupFacts) (g : Group) (rounded : Bool) : Type 0 where
  pub some : 1 ≤ fact.first
  pub below : fact.span_lo ≤ℤ pos 0
  pub above : pos 0 ≤ℤ fact.span_hi
  pub spans : AreInSpan (IsStream (chain (elements_before plan fact)) (size plan.width)) fact
  pub room_span : HasRoom (IsInSpan fact.span_lo fact.span_hi) (gain g)
  pub prefix : rounded ≡ false → IsExactPrefix plan (fact.first - 1)
  pub room_prefix : HasRoom (IsStream (chain (elements_before plan fact)) (size plan.width)) (gain g)
