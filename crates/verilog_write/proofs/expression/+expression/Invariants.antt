use Rattle.std.proofs.Common.{◌≡◌, [], ◌++◌, drop}
use Rattle.verilog_tree.specs.View.{trees_view}
use Rattle.verilog_text.specs.declared.token.Mark.TheVariants as mark
use Rattle.verilog_text.specs.Grammar.{written_members}
use Rattle.verilog_text.specs.Shortest.{spellings}
use Rattle.verilog_write.proofs.expression.+expression.Given as goal

-- what is written and what is left are the whole
abbrev pub invariant-write_members-loop-member : goal.invariant-write_members-loop-member
invariant-write_members-loop-member l =
    l.out.items ++ written_members l.separator (spellings (trees_view (drop l.member-index l.members))) []
    ≡ l.initial.out.items ++ written_members mark.OpenBrace (spellings (trees_view l.members)) []
