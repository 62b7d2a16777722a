use Rattle.std.proofs.Common.{◌≡◌, ◌++◌, drop}
use Rattle.verilog_text.specs.declared.token.Mark.TheVariants.{Open}
use Rattle.verilog_text.specs.Shortest.{ports_in}
use Rattle.verilog_write.specs.Parts.{port_list}
use Rattle.verilog_write.proofs.declaration.write_ports.Given as goal

-- what is written and what is left are the whole
abbrev pub invariant-loop-signal : goal.invariant-loop-signal
invariant-loop-signal l = l.out.items ++ port_list l.separator (ports_in (drop l.signal-index l.signals)) ≡ l.initial.out.items ++ port_list Open (ports_in l.signals)
