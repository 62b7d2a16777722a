use Rattle.bit_serial.proofs.SerialLemmas.{first_step, next_step, whole_law}
use Rattle.bit_serial.proofs.law_of_serial_sums.Goals as goal

pub returns-clause-first : goal.returns-clause-first
returns-clause-first c = first_step

pub returns-clause-next : goal.returns-clause-next
returns-clause-next c = next_step

pub returns-clause-whole : goal.returns-clause-whole
returns-clause-whole c = whole_law
