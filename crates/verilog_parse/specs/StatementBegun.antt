-- What a stack of statements holds, its top first, and the states of the machine.
use Rattle.std.specs.Prelude.{List}
use Rattle.verilog_text.specs.StatementMachine as machine
use Rattle.verilog_parse.specs.declared.statement.stack.StatementStack.{StatementStack}
use Rattle.verilog_parse.specs.declared.statement.step.StatementReader.{StatementReader}
use Rattle.verilog_parse.specs.StatementView.{statement_stack_view, statement_phase_view}

abbrev pub statement_begun : StatementStack → List machine.Frame
statement_begun stack = statement_stack_view stack.frames.items

abbrev pub statement_state_view : StatementReader → machine.State
statement_state_view m = record { stack = statement_begun m.stack; phase = statement_phase_view m.phase }
