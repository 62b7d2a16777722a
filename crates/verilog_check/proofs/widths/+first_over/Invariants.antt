use Rattle.std.proofs.Common.{drop}
use Rattle.verilog_tree.specs.Checks.{actions_sides}
use Rattle.verilog_tree.specs.View.{actions_view, design_view}
use Rattle.verilog_check.proofs.WidthTurns.{NoneBefore}
use Rattle.verilog_check.proofs.widths.+first_over.Given as goal

abbrev pub invariant-first_over_of-loop-statement : goal.invariant-first_over_of-loop-statement
invariant-first_over_of-loop-statement l =
    let d = design_view l.declared.design.now in
    NoneBefore d (actions_sides d (actions_view l.statements)) (actions_sides d (actions_view (drop l.statement-index l.statements)))
