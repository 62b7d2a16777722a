use Rattle.std.proofs.Common.{◌≡◌, [], ◌++◌, drop}
use Rattle.std.specs.Prelude.{map}
use Rattle.verilog_text.specs.Text.{items_text}
use Rattle.verilog_text.specs.Shortest.{stores_in, declared_of}
use Rattle.verilog_write.proofs.declaration.write_declarations.Given as goal

-- what is written and what is left are the whole
abbrev pub invariant-loop-signal : goal.invariant-loop-signal
invariant-loop-signal l = l.out.items ++ items_text 0 (map declared_of (stores_in (drop l.signal-index l.signals))) [] ≡ l.initial.out.items ++ items_text 0 (map declared_of (stores_in l.signals)) []
