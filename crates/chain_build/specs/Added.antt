-- What the groups of a plan add to a net, one after another.
use Rattle.std.specs.Prelude.{◌≡◌, ℕ, ℤ, ◌-◌, ◌*◌, ◌%◌, ◌^◌, ◌≤◌, ◌<◌, true, false, List, length, Some, slice_get, unsigned_abs, unwrap_or, All}
use Rattle.mr_values.specs.declared.plan.Element.{Element}
use Rattle.mr_values.specs.Sequence.{samples}
use Rattle.mr_values.specs.Value.{chain}
use Rattle.mr_values.specs.Timing.{Group, Fir, DownCic, UpCic, Rounding, Clipping, taps_of, form_of, wide, up_factor, down_factor, groups, last_stream}
use Rattle.mr_values.specs.Width.{FitsWidth}
use Rattle.net_graph.specs.declared.cell.Cell.{Cell}
use Rattle.net_graph.specs.declared.cell.Stream.{Stream}
use Rattle.net_graph.specs.declared.name.Name.{Name}
use Rattle.net_graph.specs.declared.name.NameKind.TheVariants.{Control}
use Rattle.net_graph.specs.Cells.{NetView}
use Rattle.net_graph.specs.Control.{IsControlClosed}
use Rattle.net_graph.specs.Cut.{Cut, cut_all, cut_control}
use Rattle.net_graph.specs.Grow.{Extends}
use Rattle.net_graph.specs.Name.{is_input}
use Rattle.net_graph.specs.Run.{Values, IsRun}
use Rattle.net_graph.specs.WellFormed.{IsBound, IsFree}
use Rattle.impulse_phase.specs.Reach.{extent}
use Rattle.pipeline_balance.specs.Gate.{Carries}
use Rattle.plan_check.specs.Forms.{Flow, group_fits}
use Rattle.plan_check.specs.Groups.{IsGroup}
use Rattle.cic_chain.specs.Facts.{cic_down_facts, cic_up_facts}
use Rattle.rounding_stage.specs.Clipping.{clipping_facts}
use Rattle.rounding_stage.specs.Rounding.{rounding_facts}
use Rattle.span_ranges.specs.Span.{IsInSpan}
use Rattle.stage_law.specs.Facts.{StageFacts}
use Rattle.stage_law.specs.Realises.{Realises, IsUnused}
use Rattle.stage_law.specs.Streams.{Streams}
use Rattle.chain_build.specs.declared.groups.Added.{Added}
use Rattle.chain_build.specs.Built.{ArePlainGroups, IsBuiltGroup, kind_of}
use Rattle.chain_build.specs.Forms.{fir_facts}

-- what a group is as a stage, on a stream of this flow
abbrev pub HasFacts : Group → Flow → StageFacts → Type 0
HasFacts (Fir up filter down) flow facts = facts ≡ fir_facts (form_of filter) (taps_of filter) (unwrap_or up 1) (unwrap_or down 1) (wide flow.low flow.high)
HasFacts (DownCic factor stages delay) flow facts = facts ≡ cic_down_facts factor stages delay
HasFacts (UpCic factor stages delay) flow facts = facts ≡ cic_up_facts factor stages delay
HasFacts (Rounding shift mode) flow facts = facts ≡ rounding_facts shift mode
HasFacts (Clipping bits) flow facts = facts ≡ clipping_facts bits

abbrev pub IsCascade : Group → Type 0
IsCascade (DownCic factor stages delay) = Unit {0}
IsCascade (UpCic factor stages delay) = Unit {0}
IsCascade _ = ⊥

-- the periods at which a group takes a stream
pub record IsTaking (g : Group) (period : ℕ) : Type 0 where
  pub positive : 1 ≤ period
  pub long : period ≤ 2 ^ 31 - 1
  pub whole : period * down_factor g % up_factor g ≡ 0

-- A stage's nodes may be added to the net behind this stream: they will be of a group of which no name is taken, and the stream begins early.
pub record CanEmit (net : NetView) (from : Stream) : Type 0 where
  pub within : from.node.place < length net.cells
  pub group : 1 ≤ net.group
  pub unused : IsUnused net.cells net.group
  pub early : from.offset < 2 ^ 31

-- So may those of a group that is built: its numbers are within their limits, and it takes the period and fits the flow of the stream.
pub record CanAdd (g : Group) (flow : Flow) (net : NetView) (from : Stream) : Type 0 where
  pub emits : CanEmit net from
  pub built : IsBuiltGroup g
  pub limits : IsGroup g
  pub takes : IsTaking g from.period
  pub fits : group_fits g flow ≡ true

-- the net has become longer, and its group is as before
pub record KeepsGroup (old new : NetView) : Type 0 where
  pub extends : Extends old.cells new.cells
  pub same_group : new.group ≡ old.group

-- a stage was added that is this, and its form and its cost were told
pub record IsStageAdded (facts : StageFacts) (streams : Streams) (old new : NetView) (from : Stream) (added : Added) : Type 0 where
  pub realises : Realises facts streams old new from added.emitted
  pub kind : added.cost.kind ≡ facts.kind
  pub adders : added.cost.cost.adders ≡ facts.adders
  pub windows : added.cost.cost.windows ≡ facts.windows
  pub tables : added.cost.cost.tables ≡ facts.tables

-- the group, which fits a stream of this flow, was added as its stage, and its form and its cost were told
pub record IsGroupAdded (g : Group) (flow : Flow) (streams : Streams) (old new : NetView) (from : Stream) (added : Added) : Type 0 where
  pub fits : group_fits g flow ≡ true
  pub facts : StageFacts
  pub has_facts : HasFacts g flow facts
  pub realises : Realises facts streams old new from added.emitted
  pub kind : added.cost.kind ≡ kind_of g
  pub adders : added.cost.cost.adders ≡ facts.adders
  pub windows : added.cost.cost.windows ≡ facts.windows
  pub tables : added.cost.cost.tables ≡ facts.tables

-- the new net has more nodes than the old and no other input; it is bound and its control closed where the old net's was
pub record IsGrown (old new : List Cell) : Type 0 where
  pub extends : Extends old new
  pub bound : IsBound old → IsBound new
  pub closed : IsControlClosed old → IsControlClosed new
  pub no_input : (place : ℕ) (cell : Cell) → length old ≤ place → slice_get new place ≡ Some cell → is_input cell.item ≡ false

-- no node has a name
pub record AreNameless (cells : List Cell) : Type 0 where
  pub free : (name : Name) → IsFree cells name

-- in each run that is cut so, where one stream carries samples of the width, the other carries the chain's values
abbrev pub CarriesChain : Cut → ℕ → List Element → List Cell → Stream → Stream → Type 0
CarriesChain cut width elements cells from to =
    (inputs : ℕ → ℤ) (values : Values) (xs : List ℤ) → All (FitsWidth width) xs → IsRun cut cells inputs values → Carries values from (samples xs) → Carries values to (chain elements (samples xs))

-- The new net has a stream that carries the chain's values, also in the uncut run where no group rounds, with the period, offset and span of the last stream; it keeps pace with the samples.
-- Of names in group 0 only some of control are taken.
pub record IsChained (width ticks : ℕ) (elements : List Element) (old new : NetView) (from to : Stream) : Type 0 where
  pub grown : IsGrown old.cells new.cells
  pub grouped : 1 ≤ new.group
  pub within : to.node.place < length new.cells
  pub period : to.period ≡ (last_stream width ticks elements).period
  pub offset : to.offset ≡ (last_stream width ticks elements).offset
  pub positive : 1 ≤ to.period
  pub long : to.period < 2 ^ 31
  pub balance : to.period * (extent elements).up ≡ ticks * (extent elements).down
  pub early : to.offset < 2 ^ 31
  pub low_small : unsigned_abs (last_stream width ticks elements).low ≤ 2 ^ 125
  pub high_small : unsigned_abs (last_stream width ticks elements).high ≤ 2 ^ 125
  pub span : (xs : List ℤ) → All (FitsWidth width) xs → IsInSpan (last_stream width ticks elements).low (last_stream width ticks elements).high (chain elements (samples xs))
  pub carries : CarriesChain cut_all width elements new.cells from to
  pub whole : ArePlainGroups (groups elements) → CarriesChain cut_control width elements new.cells from to
  pub names : (name : Name) → (name.kind ≡ Control → ⊥) → name.group ≡ 0 → IsFree new.cells name
