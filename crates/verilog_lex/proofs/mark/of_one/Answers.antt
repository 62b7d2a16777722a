use Rattle.verilog_lex.proofs.Marks.{best_single, never_single}
use Rattle.verilog_lex.proofs.mark.of_one.Goals as goal

pub returns-in-Some : goal.returns-in-Some
returns-in-Some c = λ rest longer. best_single c.args.a rest _ c.in-Some.ensures longer

pub returns-in-None : goal.returns-in-None
returns-in-None c = λ rest longer. never_single c.args.a rest c.in-None.ensures longer
