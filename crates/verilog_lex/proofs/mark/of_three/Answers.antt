use Rattle.std.proofs.Common.{◌∷◌}
use Rattle.verilog_lex.proofs.Marks.{best_triple, longer_than_two}
use Rattle.verilog_lex.proofs.mark.of_three.Goals as goal

pub returns-in-Some : goal.returns-in-Some
returns-in-Some c = λ rest. best_triple c.args.a c.args.b c.args.c rest _ c.in-Some.ensures

pub returns-in-None : goal.returns-in-None
returns-in-None c = λ rest. c.of_two.ensures (c.args.c ∷ rest) (longer_than_two c.args.a c.args.b c.args.c rest c.in-None.ensures)
