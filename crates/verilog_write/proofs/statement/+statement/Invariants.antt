use Rattle.std.proofs.Common.{◌≡◌, [], ◌++◌, drop}
use Rattle.verilog_tree.specs.View.{actions_view}
use Rattle.verilog_text.specs.Statements.{statements_text}
use Rattle.verilog_text.specs.Shortest.{statements_of}
use Rattle.verilog_write.proofs.statement.+statement.Given as goal

-- what is written and what is left are the whole
abbrev pub invariant-write_statements-loop-statement : goal.invariant-write_statements-loop-statement
invariant-write_statements-loop-statement l =
    l.out.items ++ statements_text (statements_of (actions_view (drop l.statement-index l.statements))) []
    ≡ l.initial.out.items ++ statements_text (statements_of (actions_view l.statements)) []
