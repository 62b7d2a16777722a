use Rattle.mr_values.proofs.Logarithm.{ceil_log_least}
use Rattle.mr_values.proofs.LeastBits.{bits_law, wide_law}
use Rattle.mr_values.proofs.TimingLemmas.{ceil_div-least}
use Rattle.mr_values.proofs.timing_laws.law_of_least.Goals as goal

pub returns-clause-quotient : goal.returns-clause-quotient
returns-clause-quotient c = ceil_div-least

pub returns-clause-logarithm : goal.returns-clause-logarithm
returns-clause-logarithm c = ceil_log_least

pub returns-clause-bits : goal.returns-clause-bits
returns-clause-bits c = bits_law

pub returns-clause-wide : goal.returns-clause-wide
returns-clause-wide c = wide_law
