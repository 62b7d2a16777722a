use Rattle.verilog_check.proofs.OneAnswer.{excluded}
use Rattle.verilog_check.proofs.laws.law_of_exclusion.Goals as goal

pub returns : goal.returns
returns c = λ face d. excluded d {face = face}
