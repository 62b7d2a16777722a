-- The nodes of a plan's linear groups.
use Rattle.std.specs.Prelude.{◌≡◌, ℕ, ◌+◌, true, List, [], ◌∷◌}
use Rattle.mr_values.specs.Timing.{Group}
use Rattle.net_graph.specs.declared.cell.Cell.{Cell}
use Rattle.pipeline_balance.specs.Shapes.{HasLinearItems}
use Rattle.stage_law.specs.Kinds.{has_linear_shape}
use Rattle.chain_build.specs.Built.{kind_of}

-- of the groups, numbered from here, each that is built in the shape of a linear group has only sums, differences, constants, shifts up,
-- choices by control and registers in the net's group of its number
abbrev pub HaveLinearItems : ℕ → List Group → List Cell → Type 0
HaveLinearItems number [] cells = Unit {0}
HaveLinearItems number (g ∷ gs) cells = (has_linear_shape (kind_of g) ≡ true → HasLinearItems cells number) × HaveLinearItems (number + 1) gs cells
