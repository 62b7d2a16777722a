use Rattle.std.proofs.Common.{◌≡◌, ◌++◌, drop}
use Rattle.verilog_text.specs.Layout.{AreSpelled, laid_out, heading}
use Rattle.verilog_write.proofs.text.bytes_of.Given as goal

-- what is written and what is left are the whole
abbrev pub invariant-loop-place : goal.invariant-loop-place
invariant-loop-place l = record {
  whole : l.bytes.items ++ laid_out l.names (drop l.place l.tokens) ≡ heading ++ laid_out l.names l.tokens;
  spelled : AreSpelled l.names (drop l.place l.tokens);
}
