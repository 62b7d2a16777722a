use Rattle.verilog_tree.proofs.OneSettling.{exactly_one_settling}
use Rattle.verilog_tree.proofs.laws.law_of_one_settling.Goals as goal

pub returns : goal.returns
returns c = exactly_one_settling
