use Rattle.verilog_tree.proofs.Views.{view-Block}
use Rattle.verilog_parse.proofs.statement.step.blocked.Goals as goal

pub returns : goal.returns
returns c = view-Block c.args.members
