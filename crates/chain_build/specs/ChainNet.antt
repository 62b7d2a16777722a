-- The net of a plan.
use Rattle.std.specs.Prelude.{◌≡◌, true, ℕ, ◌≤◌, ◌*◌, ℤ, pos, List, All, Some, slice_get}
use Rattle.mr_values.specs.declared.plan.Element.{Element}
use Rattle.mr_values.specs.Sequence.{Sequence, samples}
use Rattle.mr_values.specs.Timing.{groups, last_stream, latency}
use Rattle.mr_values.specs.Value.{chain}
use Rattle.mr_values.specs.Width.{FitsWidth, IsLeastWidth}
use Rattle.net_graph.specs.declared.cell.Cell.{Cell}
use Rattle.net_graph.specs.declared.cell.Node.{Node}
use Rattle.net_graph.specs.declared.name.NameKind.TheVariants.{Output, Valid}
use Rattle.net_graph.specs.Cells.{cell_at}
use Rattle.net_graph.specs.Control.{IsOfControl, IsControlClosed}
use Rattle.net_graph.specs.Cut.{Cut, cut_all, cut_control}
use Rattle.net_graph.specs.Name.{is_input}
use Rattle.net_graph.specs.Run.{Values, IsRun}
use Rattle.net_graph.specs.WellFormed.{IsNetlist}
use Rattle.pipeline_balance.specs.Gate.{IsTickOf, IsBitOf, Carries}
use Rattle.pipeline_balance.specs.Numbered.{IsRegister, name_of}
use Rattle.chain_build.specs.Built.{ArePlainGroups}
use Rattle.chain_build.specs.Linear.{output_range}

-- the first node is the only input, and has this width
pub record HasInput (net : List Cell) (width : ℕ) : Type 0 where
  pub cell : Cell
  pub there : slice_get net 0 ≡ Some cell
  pub is_it : is_input cell.item ≡ true
  pub same_width : cell.width ≡ width
  pub only : (k : ℕ) (other : Cell) → slice_get net k ≡ Some other → is_input other.item ≡ true → k ≡ 0

-- sample k is the input at the tick k * ticks; at other ticks the input is free
abbrev pub HasSamples : ℕ → (ℕ → ℤ) → Sequence → Type 0
HasSamples ticks inputs v = (k : ℕ) → inputs (k * ticks) ≡ v (pos k)

-- in each run that is cut so, over samples of the width, the node has value n of the chain at the tick latency + n * period
abbrev pub ShowsValues : Cut → ℕ → ℕ → List Element → List Cell → Node → Type 0
ShowsValues cut width ticks elements net out_q =
    (inputs : ℕ → ℤ) (values : Values) (xs : List ℤ) → All (FitsWidth width) xs → HasSamples ticks inputs (samples xs) → IsRun cut net inputs values
    → Carries values (record { node = out_q; period = (last_stream width ticks elements).period; offset = latency width ticks elements }) (chain elements (samples xs))

-- `out_q` has the least width for the range of the chain's values, and shows the chain's values at its ticks, also in the uncut run where no group
-- rounds; the bit `out_valid` is set exactly
-- at these ticks.
pub record IsChainNet (width ticks : ℕ) (elements : List Element) (net : List Cell) (out_q out_valid : Node) : Type 0 where
  pub netlist : IsNetlist net
  pub input : HasInput net width
  pub closed : IsControlClosed net
  pub out_width : ℕ
  pub least : IsLeastWidth (output_range width ticks elements).lo (output_range width ticks elements).hi out_width
  pub narrow : out_width ≤ 127
  pub group : ℕ
  pub register : IsRegister net out_q.place group (name_of 0 Output 0) out_width
  pub shown : (cell_at net out_valid.place).name ≡ Some (name_of 0 Valid 0)
  pub shown_width : (cell_at net out_valid.place).width ≡ 1
  pub shown_control : IsOfControl net out_valid.place
  pub positive : 1 ≤ (last_stream width ticks elements).period
  pub values : ShowsValues cut_all width ticks elements net out_q
  pub whole : ArePlainGroups (groups elements) → ShowsValues cut_control width ticks elements net out_q
  pub valid : IsBitOf net (IsTickOf (last_stream width ticks elements).period (latency width ticks elements)) out_valid
