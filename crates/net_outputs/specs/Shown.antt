-- The bit that is shown.
use Rattle.std.specs.Prelude.{◌≡◌, ◌⊎◌, ℕ, Some}
use Rattle.net_graph.specs.declared.cell.Node.{Node}
use Rattle.net_graph.specs.declared.name.NameKind.TheVariants.{Control, Valid}
use Rattle.net_graph.specs.Cells.{NetView, cell_at}
use Rattle.net_graph.specs.Control.{IsOfControl}
use Rattle.net_graph.specs.Grow.{Lengthens}
use Rattle.pipeline_balance.specs.Costs.{SameAdders, SameNamed}
use Rattle.pipeline_balance.specs.Gate.{IsBitOf}
use Rattle.pipeline_balance.specs.Numbered.{LeavesFree, name_of}
use Rattle.pipeline_balance.specs.Shapes.{KeepsShapes}

-- The bit is a node of control that is set exactly at these ticks and has the name of what is shown as `out_valid`. That name and names of control alone are
-- taken; no group has more adders, window registers or tables, and what is added may stand in a linear group.
pub record AddsShownBit (ticks : ℕ → Type 0) (old new : NetView) (bit : Node) : Type 0 where
  pub lengthens : Lengthens old new
  pub shown : (cell_at new.cells bit.place).name ≡ Some (name_of 0 Valid 0)
  pub shown_width : (cell_at new.cells bit.place).width ≡ 1
  pub shown_control : IsOfControl new.cells bit.place
  pub bit_of : IsBitOf new.cells ticks bit
  pub names : LeavesFree old.cells new.cells (λ name. (name ≡ name_of 0 Valid 0) ⊎ (name.kind ≡ Control))
  pub adders : SameAdders old.cells new.cells
  pub named : SameNamed old.cells new.cells
  pub linear : KeepsShapes old.cells new.cells
