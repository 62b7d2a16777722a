-- The bits of a window, shown from the highest.
use Rattle.std.specs.Prelude.{◌≡◌, ℕ, ◌+◌, ◌*◌, ◌<◌, ◌≤◌, ◌⊎◌, false, ℤ, List, length}
use Rattle.net_graph.specs.declared.cell.Node.{Node}
use Rattle.net_graph.specs.declared.cell.Stream.{Stream}
use Rattle.net_graph.specs.declared.name.Name.{Name}
use Rattle.net_graph.specs.declared.name.NameKind.TheVariants.{Control, Copy, Window}
use Rattle.net_graph.specs.Cells.{NetView}
use Rattle.net_graph.specs.Count.{adders_in, tables_in, windows_in}
use Rattle.net_graph.specs.Cut.{Cut, IsCut}
use Rattle.net_graph.specs.Grow.{Grows}
use Rattle.net_graph.specs.Run.{Values, IsRun}
use Rattle.pipeline_balance.specs.Gate.{Holds}
use Rattle.pipeline_balance.specs.Numbered.{LeavesFree}
use Rattle.distributed_table.specs.Copies.{node_at}
use Rattle.distributed_table.specs.Runs.{AreSelected, IsRunReady, Pace}

-- a name of a window's register or of a copy of the group, or one of control
abbrev pub IsShownName : ℕ → Name → Type 0
IsShownName group name = ((name.group ≡ group) × ((name.kind ≡ Window) ⊎ (name.kind ≡ Copy))) ⊎ (name.kind ≡ Control)

-- The new net has a window of so many values of the stream, cut to so many bits, and of each value, every `down` values, the bits from the
-- highest, with the bit that tells where they begin.
pub record AddsShown (old new : NetView) (from : Stream) (depth down bits : ℕ) (highs : List Node) (begin : Node) : Type 0 where
  pub grows : Grows old new
  pub adders : adders_in old.group new.cells ≡ adders_in old.group old.cells
  pub windows : windows_in old.group new.cells ≡ windows_in old.group old.cells + depth
  pub tables : tables_in old.group new.cells ≡ tables_in old.group old.cells
  pub names : LeavesFree old.cells new.cells (IsShownName old.group)
  pub cut : Node
  pub narrowed : (cut_by : Cut) → IsCut cut_by → (inputs : ℕ → ℤ) (values : Values) → IsRun cut_by new.cells inputs values → (t : ℕ) → values t cut.place ≡ cut_by false bits (values t from.node.place)
  pub window : List Node
  pub deep : length window ≡ depth
  pub many : length highs ≡ depth
  pub holds : (age : ℕ) → age < depth → Holds new.cells (record { node = cut; period = from.period; offset = from.offset }) age (node_at window age)
  pub ready : 1 ≤ bits → bits ≤ from.period * down → (let pace : Pace = record { period = from.period * down; start = from.offset + 1 } in IsRunReady new.cells pace bits window highs begin)
  pub selected : AreSelected new.cells highs
