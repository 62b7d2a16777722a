-- What the machine for statements holds, without where it lies in memory.
use Rattle.std.specs.Prelude.{List, map, reverse}
use Rattle.verilog_tree.specs.View.{tree_view, action_view, actions_view}
use Rattle.verilog_text.specs.StatementMachine as machine
use Rattle.verilog_parse.specs.declared.statement.frame.StatementFrame.{StatementFrame}
use Rattle.verilog_parse.specs.declared.statement.frame.StatementFrame.TheVariants as frame
use Rattle.verilog_parse.specs.declared.statement.phase.StatementPhase.{StatementPhase}
use Rattle.verilog_parse.specs.declared.statement.phase.StatementPhase.TheVariants as phase
use Rattle.verilog_parse.specs.Begun.{state_view}

abbrev pub statement_frame_view : StatementFrame → machine.Frame
statement_frame_view (frame.Block before) = machine.InBlock (actions_view before.items)
statement_frame_view (frame.Then condition) = machine.InThen (tree_view condition)
statement_frame_view (frame.Else condition on_true) = machine.InElse (tree_view condition) (action_view on_true)

-- the stack, its top first
abbrev pub statement_stack_view : List StatementFrame → List machine.Frame
statement_stack_view frames = reverse (map statement_frame_view frames)

abbrev pub statement_phase_view : StatementPhase → machine.Phase
statement_phase_view phase.Waiting = machine.Waiting
statement_phase_view (phase.After latest) = machine.After (action_view latest)
statement_phase_view phase.Asking = machine.Asking
statement_phase_view (phase.Condition s) = machine.Condition (state_view s)
statement_phase_view (phase.Named name) = machine.Named name
statement_phase_view (phase.Value name s) = machine.Value name (state_view s)
