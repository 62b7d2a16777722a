use Rattle.plan_laws.proofs.Peaks.{peak_holds}
use Rattle.plan_laws.proofs.law_of_peak.Goals as goal

pub returns : goal.returns
returns c = peak_holds
