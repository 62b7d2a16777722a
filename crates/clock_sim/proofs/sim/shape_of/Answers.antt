use Rattle.std.proofs.Common.{◌∙◌, ap, arith}
use Rattle.verilog_tree.specs.Meaning.{Shapes}
use Rattle.clock_sim.proofs.sim.shape_of.Goals as goal

pub overflow_cast-result : goal.overflow_cast-result
overflow_cast-result c = omega (arith, c.width_of.ensures ∙ ap (λ (s : Shapes). s.width c.args.name) c.requires.table.same, c.requires.bits.most)

pub returns-clause-width : goal.returns-clause-width
returns-clause-width c = c.width_of.ensures ∙ ap (λ (s : Shapes). s.width c.args.name) c.requires.table.same

pub returns-clause-signed : goal.returns-clause-signed
returns-clause-signed c = c.sign_of.ensures ∙ ap (λ (s : Shapes). s.signed c.args.name) c.requires.table.same
