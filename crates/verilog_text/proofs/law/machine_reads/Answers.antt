use Rattle.verilog_text.proofs.TextSteps.{accepts}
use Rattle.verilog_text.proofs.TextSound.{reads_only}
use Rattle.verilog_text.proofs.law.machine_reads.Goals as goal

pub returns-clause-accepts : goal.returns-clause-accepts
returns-clause-accepts c bounds clock text h = accepts bounds clock text h

pub returns-clause-only : goal.returns-clause-only
returns-clause-only c bounds clock tokens draft e = let x = reads_only bounds clock tokens draft e in (x.text, x.in_limits, x.text_is, x.draft_is)
