use Rattle.uncut_runs.proofs.Exists.{passing_uncut}
use Rattle.uncut_runs.proofs.law_of_uncut_runs.Goals as goal

pub returns : goal.returns
returns c = passing_uncut
