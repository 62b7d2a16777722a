use Rattle.verilog_tree.proofs.Views.{view-Cat}
use Rattle.verilog_parse.proofs.expression.step.joining.Goals as goal

pub returns : goal.returns
returns c = view-Cat c.args.members
