-- The linear registers of a plan in a net, one of whose streams carries the samples.
use Rattle.std.specs.Prelude.{◌≡◌, ℕ, ◌+◌, ◌*◌, ◌≤◌, true, if◌then◌else◌, List, [], ◌∷◌, ◌++◌, All, Some, slice_get, ℤ, pos}
use Rattle.mr_values.specs.declared.plan.Element.{Element}
use Rattle.mr_values.specs.Sequence.{samples, filter}
use Rattle.mr_values.specs.Timing.{groups, last_stream}
use Rattle.mr_values.specs.Value.{chain}
use Rattle.mr_values.specs.Width.{FitsWidth}
use Rattle.net_graph.specs.declared.cell.Cell.{Cell}
use Rattle.net_graph.specs.declared.cell.Node.{Node}
use Rattle.net_graph.specs.declared.cell.Stream.{Stream}
use Rattle.net_graph.specs.declared.name.Name.{Name}
use Rattle.net_graph.specs.declared.name.NameKind.TheVariants.{Control}
use Rattle.net_graph.specs.Cut.{cut_all, cut_control}
use Rattle.net_graph.specs.Run.{Values, IsRun}
use Rattle.net_graph.specs.WellFormed.{IsFree}
use Rattle.pipeline_balance.specs.Gate.{Carries}
use Rattle.pipeline_balance.specs.Numbered.{IsRegister}
use Rattle.stage_law.specs.Range.{InClass}
use Rattle.stage_law.specs.Registers.{HeldSum}
use Rattle.chain_build.specs.Built.{has_rounding}
use Rattle.chain_build.specs.Linear.{LinearRegister, linear, register_of, output_register, is_linear_number}
use Rattle.chain_build.specs.LinearNet.{IsListed}

-- The net has this register. Where the stream carries samples of the width, it holds in the run what it holds in the uncut run, and at the
-- ticks of the sum that needs its width it holds that sum.
pub record IsRegisterOn (width : ℕ) (cells : List Cell) (from : Stream) (r : LinearRegister) : Type 0 where
  pub node : Node
  pub group : ℕ
  pub register : IsRegister cells node.place group r.name r.width
  pub same : (inputs : ℕ → ℤ) (values whole : Values) (xs : List ℤ) → All (FitsWidth width) xs → IsRun cut_all cells inputs values → IsRun cut_control cells inputs whole
      → Carries values from (samples xs) → Carries whole from (samples xs) → (t : ℕ) → values t node.place ≡ whole t node.place
  pub holds : (s : HeldSum) → r.needed ≡ Some s → (inputs : ℕ → ℤ) (values : Values) (xs : List ℤ) → All (FitsWidth width) xs → IsRun cut_all cells inputs values → Carries values from (samples xs)
      → (k : ℕ) → InClass s.class k → values (r.stream.offset + k * r.stream.period + s.lag) node.place ≡ filter s.form (chain r.stream.elements (samples xs)) (pos k)

-- the register of the output, where no group rounds
abbrev pub output_registers : ℕ → ℕ → List Element → List LinearRegister
output_registers width ticks elements =
    if has_rounding (groups elements) then []
    else register_of width 0 (record { elements = elements; period = (last_stream width ticks elements).period; offset = (last_stream width ticks elements).offset }) output_register ∷ []

-- The net has the linear registers of the plan's groups, which are all but that of the output; and of the names of these groups that are
-- taken each is one of theirs, or of control.
pub record HasGroupRegisters (width ticks : ℕ) (elements : List Element) (cells : List Cell) (from : Stream) : Type 0 where
  pub listed : List LinearRegister
  pub parts : listed ++ output_registers width ticks elements ≡ linear width ticks elements
  pub each : (i : ℕ) (r : LinearRegister) → slice_get listed i ≡ Some r → IsRegisterOn width cells from r
  pub only : (name : Name) → (IsFree cells name → ⊥) → (name.kind ≡ Control → ⊥) → 1 ≤ name.group → is_linear_number (groups elements) name.group ≡ true → IsListed listed name
