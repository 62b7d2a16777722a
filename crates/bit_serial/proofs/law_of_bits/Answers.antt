use Rattle.bit_serial.proofs.BitLemmas.{halving, pattern_bit, highest_bit, shifted_law, cuts_law}
use Rattle.bit_serial.proofs.law_of_bits.Goals as goal

pub returns-clause-halving : goal.returns-clause-halving
returns-clause-halving c = halving

pub returns-clause-pattern : goal.returns-clause-pattern
returns-clause-pattern c = pattern_bit

pub returns-clause-highest : goal.returns-clause-highest
returns-clause-highest c = highest_bit

pub returns-clause-shifted : goal.returns-clause-shifted
returns-clause-shifted c = shifted_law

pub returns-clause-cuts : goal.returns-clause-cuts
returns-clause-cuts c = cuts_law
