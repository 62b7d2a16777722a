-- The output register.
use Rattle.std.specs.Prelude.{◌≡◌, ◌⊎◌, ℕ, ◌+◌, ◌<◌, ℤ, pos, List, length}
use Rattle.mr_values.specs.Sequence.{Sequence}
use Rattle.mr_values.specs.Width.{FitsWidth, IsLeastWidth}
use Rattle.net_graph.specs.declared.cell.Cell.{Cell}
use Rattle.net_graph.specs.declared.cell.Node.{Node}
use Rattle.net_graph.specs.declared.cell.Stream.{Stream}
use Rattle.net_graph.specs.declared.name.NameKind.TheVariants.{Control, Output}
use Rattle.net_graph.specs.Cells.{NetView, cell_at}
use Rattle.net_graph.specs.Cut.{Cut, IsCut, cut_all, cut_control}
use Rattle.net_graph.specs.Grow.{Lengthens, Grows}
use Rattle.net_graph.specs.Run.{Values, IsRun}
use Rattle.pipeline_balance.specs.Costs.{SameAdders, SameNamed}
use Rattle.pipeline_balance.specs.Gate.{Carries}
use Rattle.pipeline_balance.specs.Numbered.{IsRegister, LeavesFree, name_of}
use Rattle.pipeline_balance.specs.Shapes.{KeepsShapes}

-- the node of this width has the value of `from` wherever that fits the width
pub record IsCutTo (old new : NetView) (from : Node) (width : ℕ) (to : Node) : Type 0 where
  pub grows : Grows old new
  pub names : LeavesFree old.cells new.cells (λ name. ⊥)
  pub adders : SameAdders old.cells new.cells
  pub named : SameNamed old.cells new.cells
  pub linear : KeepsShapes old.cells new.cells
  pub within : to.place < length new.cells
  pub wide : (cell_at new.cells to.place).width ≡ width
  pub keeps : (cut : Cut) → IsCut cut → (inputs : ℕ → ℤ) (values : Values) → IsRun cut new.cells inputs values → (t : ℕ) → FitsWidth width (values t from.place) → values t to.place ≡ values t from.place

-- the register carries one tick later what the stream carries and fits it
abbrev pub TakesOver : List Cell → Stream → ℕ → Node → Type 0
TakesOver cells from width register =
    (cut : Cut) → IsCut cut → (inputs : ℕ → ℤ) (values : Values) (v : Sequence) → ((k : ℕ) → FitsWidth width (v (pos k))) → IsRun cut cells inputs values → Carries values from v
    → Carries values (record { node = register; period = from.period; offset = from.offset + 1 }) v

-- the register has the same value in the run and in the uncut run, where the stream carries in both what fits it
abbrev pub IsKeptWhole : List Cell → Stream → ℕ → Node → Type 0
IsKeptWhole cells from width register =
    (inputs : ℕ → ℤ) (values whole : Values) (v : Sequence) → ((k : ℕ) → FitsWidth width (v (pos k))) → IsRun cut_all cells inputs values → IsRun cut_control cells inputs whole
    → Carries values from v → Carries whole from v → (t : ℕ) → values t register.place ≡ whole t register.place

-- The output register has the least width that holds the range, and carries the stream one tick later. Its name and names of control alone are taken; no
-- group has more adders, window registers or tables, and what is added may stand in a linear group.
pub record AddsOutputRegister (low high : ℤ) (old new : NetView) (from : Stream) (register : Node) : Type 0 where
  pub lengthens : Lengthens old new
  pub width : ℕ
  pub least : IsLeastWidth low high width
  pub group : ℕ
  pub is_register : IsRegister new.cells register.place group (name_of 0 Output 0) width
  pub carries : TakesOver new.cells from width register
  pub kept_whole : IsKeptWhole new.cells from width register
  pub names : LeavesFree old.cells new.cells (λ name. (name ≡ name_of 0 Output 0) ⊎ (name.kind ≡ Control))
  pub adders : SameAdders old.cells new.cells
  pub named : SameNamed old.cells new.cells
  pub linear : KeepsShapes old.cells new.cells
