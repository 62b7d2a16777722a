use Rattle.std.proofs.Common.{◌∙◌, ap}
use Rattle.verilog_tree.specs.Meaning.{Shapes}
use Rattle.clock_sim.proofs.operand.sign_in.Goals as goal

pub returns : goal.returns
returns c = c.sign_of.ensures ∙ ap (λ (s : Shapes). s.signed c.args.name) c.requires.same
