use Rattle.std.proofs.Common.{◌≡◌, length}
use Rattle.verilog_tree.specs.View.{tree_view}
use Rattle.verilog_text.specs.Machine as machine
use Rattle.verilog_parse.specs.Begun.{begun}
use Rattle.verilog_parse.proofs.expression.step.fold_to.Given as goal

abbrev pub invariant-folding : goal.invariant-folding
invariant-folding l = machine.fold_to l.loose (begun l.stack) (tree_view l.whole) ≡ machine.fold_to l.loose (begun l.initial.stack) (tree_view l.initial.whole)

abbrev pub decreases-folding : goal.decreases-folding
decreases-folding l = length (begun l.stack)
