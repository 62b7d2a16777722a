-- A net that has a value at its output at the ticks that are shown.
use Rattle.std.specs.Prelude.{◌≡◌, ℕ, Bool, true, List, All, ℤ, pos}
use Rattle.mr_values.specs.Sequence.{samples}
use Rattle.mr_values.specs.Width.{FitsWidth}
use Rattle.net_graph.specs.declared.cell.Cell.{Cell}
use Rattle.net_graph.specs.Control.{IsControlClosed}
use Rattle.net_graph.specs.Cut.{cut_all}
use Rattle.net_graph.specs.Run.{Values, IsRun}
use Rattle.net_graph.specs.WellFormed.{IsNetlist}
use Rattle.pipeline_balance.specs.Gate.{IsBitOf}
use Rattle.net_module.specs.Steps.{width_in}
use Rattle.net_module.specs.Written.{IsWritable, output_place, valid_place}

-- The net can be written, and its input has this width. In every run the bit that is shown as `out_valid` is set exactly at the shown ticks;
-- at these `out_q` has the value over the numbers that the input has at all ticks, 0 past the last.
pub record IsShownNet (width : ℕ) (shown : ℕ → Bool) (value : List ℤ → ℕ → ℤ) (net : List Cell) : Type 0 where
  pub netlist : IsNetlist net
  pub writable : IsWritable net
  pub closed : IsControlClosed net
  pub input : width_in net ≡ width
  pub valid : IsBitOf net (λ t. shown t ≡ true) (record { place = valid_place net })
  pub values : (inputs : ℕ → ℤ) (worth : Values) (xs : List ℤ) → All (FitsWidth width) xs → ((t : ℕ) → inputs t ≡ samples xs (pos t)) → IsRun cut_all net inputs worth
      → (t : ℕ) → shown t ≡ true → worth t (output_place net) ≡ value xs t
