-- What the nodes of a stage do.
use Rattle.std.specs.Prelude.{◌≡◌, ℕ, ◌+◌, ◌*◌, ◌<◌, ◌⊎◌, ℤ, true, List, length}
use Rattle.mr_values.specs.declared.plan.Element.{Element}
use Rattle.mr_values.specs.Sequence.{Sequence}
use Rattle.mr_values.specs.Value.{chain}
use Rattle.net_graph.specs.declared.cell.Cell.{Cell}
use Rattle.net_graph.specs.declared.cell.Stream.{Stream}
use Rattle.net_graph.specs.declared.name.Name.{Name}
use Rattle.net_graph.specs.declared.name.NameKind.{NameKind}
use Rattle.net_graph.specs.declared.name.NameKind.TheVariants.{Control}
use Rattle.net_graph.specs.Cells.{NetView}
use Rattle.net_graph.specs.Count.{adders_in, windows_in, tables_in}
use Rattle.net_graph.specs.Cut.{Cut, cut_all, cut_control}
use Rattle.net_graph.specs.Depth.{IsShallow, IsUntouched}
use Rattle.net_graph.specs.Grow.{Grows}
use Rattle.net_graph.specs.Run.{Values, IsRun}
use Rattle.net_graph.specs.Tables.{HasTables}
use Rattle.net_graph.specs.WellFormed.{IsBound, IsFree}
use Rattle.pipeline_balance.specs.Gate.{Carries}
use Rattle.pipeline_balance.specs.Numbered.{LeavesFree, name_of}
use Rattle.pipeline_balance.specs.Shapes.{HasLinearItems}
use Rattle.stage_law.specs.Alike.{HasAlike}
use Rattle.stage_law.specs.Facts.{StageFacts}
use Rattle.stage_law.specs.Kinds.{carries_uncut, is_linear, has_linear_shape, has_one_width}
use Rattle.stage_law.specs.Least.{HasRegisters}
use Rattle.stage_law.specs.Streams.{Streams}
use Rattle.stage_law.specs.declared.stage.Emitted.{Emitted}

-- the name of this group, kind and number is free; names of control are of no stage
abbrev pub IsFreeIn : List Cell → ℕ → NameKind → ℕ → Type 0
IsFreeIn cells group Control number = Unit {0}
IsFreeIn cells group kind number = IsFree cells (name_of group kind number)

-- no name of the net is of the group
pub record IsUnused (cells : List Cell) (group : ℕ) : Type 0 where
  pub free : (kind : NameKind) (number : ℕ) → IsFreeIn cells group kind number

-- a name of the group, or one of control
abbrev pub IsOwnName : ℕ → Name → Type 0
IsOwnName group name = (name.group ≡ group) ⊎ (name.kind ≡ Control)

-- in each run that is cut so, where one stream carries one of these streams, the other carries what the elements make of it
abbrev pub CarriesThrough : Cut → Streams → List Element → List Cell → Stream → Stream → Type 0
CarriesThrough cut streams elements cells from to =
    (inputs : ℕ → ℤ) (values : Values) (v : Sequence) → streams v → IsRun cut cells inputs values → Carries values from v → Carries values to (chain elements v)

-- The net grows by nodes of its group and of control. The stream that the stage gives has the stated period and offset and carries the
-- elements, in the run and, for all stages but a rounding, in the uncut run. The net has so many adders, windows and tables more of its
-- group, of which each table is no adder, and names of this group or of control alone are taken. Where the group is new and each register had its next, at most one adder
-- of the group stands between two registers. The registers of a linear stage are those of its list; a stage with registers of one width has so
-- many, of the least width for what it gives. A stage with the shape of a linear group adds to its group only sums, differences, constants,
-- shifts up, choices by control and registers.
pub record Realises (facts : StageFacts) (streams : Streams) (old new : NetView) (from : Stream) (emitted : Emitted) : Type 0 where
  pub grows : Grows old new
  pub within : emitted.stream.node.place < length new.cells
  pub period : emitted.stream.period * facts.up ≡ from.period * facts.down
  pub offset : emitted.stream.offset ≡ from.offset + facts.delay from.period
  pub carries : CarriesThrough cut_all streams facts.elements new.cells from emitted.stream
  pub whole : carries_uncut facts.kind ≡ true → CarriesThrough cut_control streams facts.elements new.cells from emitted.stream
  pub adders : adders_in old.group new.cells ≡ adders_in old.group old.cells + facts.adders
  pub windows : windows_in old.group new.cells ≡ windows_in old.group old.cells + facts.windows
  pub tables : tables_in old.group new.cells ≡ tables_in old.group old.cells + facts.tables
  pub own_tables : 0 < facts.tables → IsBound old.cells → HasTables old.cells → HasTables new.cells
  pub names : LeavesFree old.cells new.cells (IsOwnName old.group)
  pub shallow : IsBound old.cells → IsUntouched old.cells old.group → IsShallow new.cells old.group
  pub shapes : has_linear_shape facts.kind ≡ true → HasLinearItems old.cells old.group → HasLinearItems new.cells old.group
  pub alike : has_one_width facts.kind ≡ true → HasAlike streams (chain facts.elements) new.cells old.group facts.alike
  pub registers : is_linear facts.kind ≡ true → HasRegisters facts streams new.cells old.group from emitted.peaks.items
