use Rattle.verilog_text.proofs.TextViable.{goes_on}
use Rattle.verilog_text.proofs.law.machine_goes_on.Goals as goal

pub returns : goal.returns
returns c = goes_on
