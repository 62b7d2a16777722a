-- What a group costs in a net and in the module that is written for it.
use Rattle.std.specs.Prelude.{◌≡◌, ℕ, ◌<◌, ◌≤◌, ◌^◌, List}
use Rattle.net_graph.specs.declared.cell.Cell.{Cell}
use Rattle.net_graph.specs.Count.{adders_in, windows_in, tables_in}
use Rattle.verilog_tree.specs.Counted.{Counts, counted}
use Rattle.net_module.specs.Written.{written_module}

abbrev pub net_counts : List Cell → ℕ → Counts
net_counts cells group = record { adders = adders_in group cells; windows = windows_in group cells; tables = tables_in group cells }

-- in the written module each group of a stage costs what it costs in the net
pub record CountsAs (cells : List Cell) : Type 0 where
  pub each : (group : ℕ) → 1 ≤ group → group < 2 ^ 64 → counted (written_module cells) group ≡ net_counts cells group
