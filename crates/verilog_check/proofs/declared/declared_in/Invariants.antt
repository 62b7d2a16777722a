use Rattle.std.specs.Prelude.{nat_eq}
use Rattle.std.specs.HashMap.{get}
use Rattle.verilog_check.proofs.TableTurns.{IsTable}
use Rattle.verilog_check.proofs.declared.declared_in.Given as goal

abbrev pub invariant-loop-signal : goal.invariant-loop-signal
invariant-loop-signal l = IsTable l.design.signals.items l.signal-index (get nat_eq l.by_name)
