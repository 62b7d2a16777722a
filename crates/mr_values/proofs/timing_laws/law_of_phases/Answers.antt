use Rattle.mr_values.proofs.TimingLemmas.{phase-entry, greatest-is}
use Rattle.mr_values.proofs.timing_laws.law_of_phases.Goals as goal

pub returns-clause-entries : goal.returns-clause-entries
returns-clause-entries c = phase-entry

pub returns-clause-greatest : goal.returns-clause-greatest
returns-clause-greatest c = greatest-is
