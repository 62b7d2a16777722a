use Rattle.std.proofs.Common.{◌≡◌, length}
use Rattle.verilog_tree.specs.View.{action_view}
use Rattle.verilog_text.specs.StatementMachine as machine
use Rattle.verilog_parse.specs.StatementBegun.{statement_begun}
use Rattle.verilog_parse.proofs.statement.step.fold_to.Given as goal

abbrev pub invariant-folding : goal.invariant-folding
invariant-folding l = machine.fold_to l.loose (statement_begun l.stack) (action_view l.whole) ≡ machine.fold_to l.loose (statement_begun l.initial.stack) (action_view l.initial.whole)

abbrev pub decreases-folding : goal.decreases-folding
decreases-folding l = length (statement_begun l.stack)
