use Rattle.std.proofs.Common.{◌∷◌}
use Rattle.verilog_lex.proofs.Marks.{best_double, longer_than_one}
use Rattle.verilog_lex.proofs.mark.of_two.Goals as goal

pub returns-in-Some : goal.returns-in-Some
returns-in-Some c = λ rest longer. best_double c.args.a c.args.b rest _ c.in-Some.ensures longer

pub returns-in-None : goal.returns-in-None
returns-in-None c = λ rest longer. c.of_one.ensures (c.args.b ∷ rest) (longer_than_one c.args.a c.args.b rest c.in-None.ensures longer)
