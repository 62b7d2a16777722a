-- The uncut run of the written module has the numbers of the net's uncut run.
use Rattle.std.specs.Prelude.{◌≡◌, ℕ, suc, true, List, length, take, drop, Some, slice_get}
use Rattle.net_graph.specs.declared.cell.Cell.{Cell}
use Rattle.net_graph.specs.Cut.{cut_control}
use Rattle.net_graph.specs.Run.{IsRun, Values as Worth}
use Rattle.verilog_tree.specs.Meaning.{Values}
use Rattle.verilog_tree.specs.Shown.{Cycle}
use Rattle.verilog_tree.specs.Uncut.{Numbers, IsUncutRun}
use Rattle.net_module.specs.Written.{written_module, number_of, is_register}
use Rattle.net_module.specs.Steps.{RunsAfterReset, ticks_in, samples_of, width_in}

-- An uncut run of the written module that begins, with any numbers of the registers, at the last reset cycle of a run; and the uncut
-- run of the net over the samples at the ticks since then.
pub record RunsUncut (cells : List Cell) (content : Values) (before after : List Cycle) (reset : Cycle) (settled : List Values) (uncut : List Numbers) (worth : Worth) : Type 0 where
  pub patterns : RunsAfterReset cells content before after reset settled
  pub begins : Numbers
  pub numbers : IsUncutRun (written_module cells) begins (drop (length before) settled) uncut
  pub net : IsRun cut_control cells (samples_of (width_in cells) after) worth

-- In each cycle after the reset each register has its node's uncut value at the tick's number; so has each node in a cycle that is a
-- tick.
pub record StepsUncut (cells : List Cell) : Type 0 where
  pub registers : (content : Values) (before after : List Cycle) (reset : Cycle) (settled : List Values) (uncut : List Numbers) (worth : Worth)
      → RunsUncut cells content before after reset settled uncut worth
      → (j : ℕ) (now : Numbers) → slice_get uncut (suc j) ≡ Some now
      → (place : ℕ) (cell : Cell) → slice_get cells place ≡ Some cell → is_register cell.item ≡ true
      → now (number_of cells place) ≡ worth (ticks_in (take j after)) place
  pub nodes : (content : Values) (before after : List Cycle) (reset : Cycle) (settled : List Values) (uncut : List Numbers) (worth : Worth)
      → RunsUncut cells content before after reset settled uncut worth
      → (j : ℕ) (c : Cycle) (now : Numbers) → slice_get after j ≡ Some c → c.ce ≡ true → slice_get uncut (suc j) ≡ Some now
      → (place : ℕ) (cell : Cell) → slice_get cells place ≡ Some cell
      → now (number_of cells place) ≡ worth (ticks_in (take j after)) place
