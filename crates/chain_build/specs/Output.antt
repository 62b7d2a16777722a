-- The output register, and the bit that is shown as `out_valid`.
use Rattle.std.specs.Prelude.{◌≡◌, ◌⊎◌, ℕ, ◌+◌, ◌^◌, ◌<◌, ◌≤◌, ℤ, length, Some}
use Rattle.mr_values.specs.Width.{IsLeastWidth}
use Rattle.net_graph.specs.declared.cell.Stream.{Stream}
use Rattle.net_graph.specs.declared.name.NameKind.TheVariants.{Control, Output, Valid}
use Rattle.net_graph.specs.Cells.{NetView, cell_at}
use Rattle.net_graph.specs.Control.{IsOfControl}
use Rattle.net_graph.specs.Grow.{Lengthens}
use Rattle.net_graph.specs.WellFormed.{IsFree}
use Rattle.net_outputs.specs.Register.{TakesOver, IsKeptWhole}
use Rattle.pipeline_balance.specs.Costs.{SameAdders, SameNamed}
use Rattle.pipeline_balance.specs.Gate.{IsTickOf, IsBitOf}
use Rattle.pipeline_balance.specs.Numbered.{IsRegister, LeavesFree, name_of}
use Rattle.pipeline_balance.specs.Shapes.{KeepsShapes}
use Rattle.chain_build.specs.declared.output.Outputs.{Outputs}
use Rattle.chain_build.specs.Added.{IsGrown}

-- The outputs may be added to the net behind this stream: it begins early, and neither the name of the output nor that of the bit which is
-- shown is taken.
pub record CanShow (net : NetView) (from : Stream) : Type 0 where
  pub within : from.node.place < length net.cells
  pub data_group : 1 ≤ net.group
  pub positive : 1 ≤ from.period
  pub early : from.offset < 2 ^ 31
  pub free_output : IsFree net.cells (name_of 0 Output 0)
  pub free_valid : IsFree net.cells (name_of 0 Valid 0)

-- The output register has the least width that holds the span, and carries the stream one tick later; the bit shown as `out_valid` is
-- set exactly at these ticks. No stage's group has more adders, and no group more window registers or tables; what is added may stand in a
-- linear group.
pub record AddsOutputs (low high : ℤ) (old new : NetView) (from : Stream) (outputs : Outputs) : Type 0 where
  pub lengthens : Lengthens old new
  pub grown : IsGrown old.cells new.cells
  pub width : ℕ
  pub least : IsLeastWidth low high width
  pub group : ℕ
  pub register : IsRegister new.cells outputs.out_q.place group (name_of 0 Output 0) width
  pub carries : TakesOver new.cells from width outputs.out_q
  pub kept_whole : IsKeptWhole new.cells from width outputs.out_q
  pub names : LeavesFree old.cells new.cells (λ name. (name.group ≡ 0) ⊎ (name.kind ≡ Control))
  pub shown : (cell_at new.cells outputs.out_valid.place).name ≡ Some (name_of 0 Valid 0)
  pub shown_width : (cell_at new.cells outputs.out_valid.place).width ≡ 1
  pub shown_control : IsOfControl new.cells outputs.out_valid.place
  pub bit : IsBitOf new.cells (IsTickOf from.period (from.offset + 1)) outputs.out_valid
  pub adders : SameAdders old.cells new.cells
  pub named : SameNamed old.cells new.cells
  pub linear : KeepsShapes old.cells new.cells
