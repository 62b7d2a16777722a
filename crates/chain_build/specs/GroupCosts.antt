-- What each group of a plan costs in its net.
use Rattle.std.specs.Prelude.{◌≡◌, ℕ, ◌+◌, List, [], ◌∷◌, Some, slice_get}
use Rattle.mr_values.specs.Timing.{Group}
use Rattle.net_graph.specs.declared.cell.Cell.{Cell}
use Rattle.net_graph.specs.Count.{adders_in, windows_in, tables_in}
use Rattle.net_graph.specs.Depth.{IsShallow}
use Rattle.net_graph.specs.Tables.{HasTables}
use Rattle.plan_check.specs.StageCosts.{cost}
use Rattle.chain_build.specs.Built.{kind_of}
use Rattle.chain_build.specs.declared.groups.GroupCost.{GroupCost}

-- told are the form of the plan's group and its cost as a stage, which is also that of the net's group of this number; in that at most one
-- adder stands between two registers
pub record IsCostOf (g : Group) (number : ℕ) (cells : List Cell) (told : GroupCost) : Type 0 where
  pub kind : told.kind ≡ kind_of g
  pub adders : told.cost.adders ≡ (cost g).adders
  pub windows : told.cost.windows ≡ (cost g).windows
  pub tables : told.cost.tables ≡ (cost g).tables
  pub adders_in : adders_in number cells ≡ (cost g).adders
  pub windows_in : windows_in number cells ≡ (cost g).windows
  pub tables_in : tables_in number cells ≡ (cost g).tables
  pub shallow : IsShallow cells number

-- these are the costs of the groups, numbered from here
abbrev pub AreCostsOf : ℕ → List Group → List GroupCost → List Cell → Type 0
AreCostsOf number [] [] cells = Unit {0}
AreCostsOf number [] (c ∷ costs) cells = ⊥
AreCostsOf number (g ∷ gs) [] cells = ⊥
AreCostsOf number (g ∷ gs) (c ∷ costs) cells = IsCostOf g number cells c × AreCostsOf (number + 1) gs costs cells

-- no node is of a stage's group
pub record AreUngrouped (cells : List Cell) : Type 0 where
  pub each : (cell : Cell) (place : ℕ) → slice_get cells place ≡ Some cell → cell.group ≡ 0

-- these are the costs of the groups, and each table of the net is of the group of its name and no adder
pub record HasCosts (gs : List Group) (costs : List GroupCost) (cells : List Cell) : Type 0 where
  pub costs_are : AreCostsOf 1 gs costs cells
  pub tables : HasTables cells
