-- What a stack holds, its top first, and the states of the machines.
use Rattle.std.specs.Prelude.{List}
use Rattle.verilog_text.specs.Machine as machine
use Rattle.verilog_parse.specs.declared.expression.stack.Stack.{Stack}
use Rattle.verilog_parse.specs.declared.expression.step.ExpressionReader.{ExpressionReader}
use Rattle.verilog_parse.specs.View.{stack_view, phase_view}

abbrev pub begun : Stack → List machine.Frame
begun stack = stack_view stack.frames.items

abbrev pub state_view : ExpressionReader → machine.State
state_view m = record { stack = begun m.stack; phase = phase_view m.phase; used = m.used }
