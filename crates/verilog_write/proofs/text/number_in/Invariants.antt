use Rattle.std.proofs.Common.{◌≡◌, ◌+◌, drop}
use Rattle.verilog_tree.specs.Renaming.{number_in}
use Rattle.verilog_write.proofs.text.number_in.Given as goal

-- the text is none of the names so far
abbrev pub invariant-loop-number : goal.invariant-loop-number
invariant-loop-number l = number_in l.names l.text ≡ l.number + number_in (drop l.number l.names) l.text
