use Rattle.std.proofs.Common.{◌≡◌, ◌+◌, drop}
use Rattle.verilog_tree.specs.Renaming.{number_in}
use Rattle.verilog_text.specs.Text.{clock_text}
use Rattle.verilog_read.proofs.whole.clock_number.Given as goal

abbrev pub invariant-loop-k : goal.invariant-loop-k
invariant-loop-k l = l.k + number_in (drop l.k l.names) clock_text ≡ number_in l.names clock_text
