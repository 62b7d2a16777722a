use Rattle.std.proofs.Common.{◌∙◌, ap, arith}
use Rattle.verilog_tree.specs.Meaning.{Shapes}
use Rattle.clock_sim.proofs.operand.width_in.Goals as goal

pub returns-clause-value : goal.returns-clause-value
returns-clause-value c = c.width_of.ensures ∙ ap (λ (s : Shapes). s.width c.args.name) c.requires.table.same

pub returns-clause-least : goal.returns-clause-least
returns-clause-least c = omega (arith, c.width_of.ensures ∙ ap (λ (s : Shapes). s.width c.args.name) c.requires.table.same, (c.requires.fitting.each c.args.name).least)

pub returns-clause-most : goal.returns-clause-most
returns-clause-most c = omega (arith, c.width_of.ensures ∙ ap (λ (s : Shapes). s.width c.args.name) c.requires.table.same, (c.requires.fitting.each c.args.name).most)
