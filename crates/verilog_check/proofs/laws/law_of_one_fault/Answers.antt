use Rattle.verilog_check.proofs.OneAnswer.{one_fault}
use Rattle.verilog_check.proofs.laws.law_of_one_fault.Goals as goal

pub returns : goal.returns
returns c = λ face d. one_fault d {face = face}
