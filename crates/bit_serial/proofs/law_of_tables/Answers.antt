use Rattle.bit_serial.proofs.RunLemmas.{entry_law}
use Rattle.bit_serial.proofs.TableLemmas.{runs_law, chosen_law, shows_law}
use Rattle.bit_serial.proofs.law_of_tables.Goals as goal

pub returns-clause-runs : goal.returns-clause-runs
returns-clause-runs c = runs_law

pub returns-clause-chosen : goal.returns-clause-chosen
returns-clause-chosen c = chosen_law

pub returns-clause-shows : goal.returns-clause-shows
returns-clause-shows c = shows_law

pub returns-clause-entry : goal.returns-clause-entry
returns-clause-entry c = entry_law
