use Rattle.verilog_text.proofs.OneReading.{one_design}
use Rattle.verilog_text.proofs.law.one_reading.Goals as goal

pub returns : goal.returns
returns c = one_design
