use Rattle.verilog_check.proofs.Totality.{total}
use Rattle.verilog_check.proofs.laws.law_of_totality.Goals as goal

pub returns : goal.returns
returns c = total
