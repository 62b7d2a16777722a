-- The linear registers of a plan in its net.
use Rattle.std.specs.Prelude.{◌≡◌, ℕ, ◌+◌, ◌*◌, ◌⊎◌, true, List, All, Some, slice_get, ℤ, pos}
use Rattle.mr_values.specs.declared.plan.Element.{Element}
use Rattle.mr_values.specs.Sequence.{samples, filter}
use Rattle.mr_values.specs.Timing.{groups}
use Rattle.mr_values.specs.Value.{chain}
use Rattle.mr_values.specs.Width.{FitsWidth}
use Rattle.net_graph.specs.declared.cell.Cell.{Cell}
use Rattle.net_graph.specs.declared.cell.Item.TheVariants.{Register}
use Rattle.net_graph.specs.declared.cell.Node.{Node}
use Rattle.net_graph.specs.declared.name.Name.{Name}
use Rattle.net_graph.specs.declared.name.NameKind.TheVariants.{Control, Output}
use Rattle.net_graph.specs.Cut.{cut_all, cut_control}
use Rattle.net_graph.specs.Run.{Values, IsRun}
use Rattle.pipeline_balance.specs.Numbered.{IsRegister}
use Rattle.stage_law.specs.Range.{InClass}
use Rattle.stage_law.specs.Registers.{HeldSum}
use Rattle.chain_build.specs.Built.{ArePlainGroups}
use Rattle.chain_build.specs.ChainNet.{HasSamples}
use Rattle.chain_build.specs.Linear.{LinearRegister, linear, is_linear_number}

-- The net has this register. In every run over samples of the width it holds what it holds in the uncut run, and at the ticks of the sum
-- that needs its width it holds that sum.
pub record IsRegisterIn (width ticks : ℕ) (cells : List Cell) (r : LinearRegister) : Type 0 where
  pub node : Node
  pub group : ℕ
  pub register : IsRegister cells node.place group r.name r.width
  pub same : (inputs : ℕ → ℤ) (values whole : Values) (xs : List ℤ) → All (FitsWidth width) xs → HasSamples ticks inputs (samples xs) → IsRun cut_all cells inputs values → IsRun cut_control cells inputs whole
      → (t : ℕ) → values t node.place ≡ whole t node.place
  pub holds : (s : HeldSum) → r.needed ≡ Some s → (inputs : ℕ → ℤ) (values : Values) (xs : List ℤ) → All (FitsWidth width) xs → HasSamples ticks inputs (samples xs) → IsRun cut_all cells inputs values
      → (k : ℕ) → InClass s.class k → values (r.stream.offset + k * r.stream.period + s.lag) node.place ≡ filter s.form (chain r.stream.elements (samples xs)) (pos k)

-- the name is one of a linear group of the plan, or that of `out_q` where no group rounds
abbrev pub IsLinearName : List Element → Name → Type 0
IsLinearName elements name = ((name.kind ≡ Output) × ArePlainGroups (groups elements)) ⊎ ((name.kind ≡ Control → ⊥) × (is_linear_number (groups elements) name.group ≡ true))

-- a list has a register of this name
pub record IsListed (registers : List LinearRegister) (name : Name) : Type 0 where
  pub place : ℕ
  pub r : LinearRegister
  pub there : slice_get registers place ≡ Some r
  pub named : r.name ≡ name

-- the net's linear registers are those of the plan
pub record HasLinearRegisters (width ticks : ℕ) (elements : List Element) (cells : List Cell) : Type 0 where
  pub each : (i : ℕ) (r : LinearRegister) → slice_get (linear width ticks elements) i ≡ Some r → IsRegisterIn width ticks cells r
  pub only : (place : ℕ) (cell : Cell) (name : Name) (next : Node) → slice_get cells place ≡ Some cell → cell.name ≡ Some name → cell.item ≡ Some (Register next) → IsLinearName elements name
      → IsListed (linear width ticks elements) name
