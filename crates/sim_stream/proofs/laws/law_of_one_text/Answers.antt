use Rattle.module_laws.proofs.Passing.{closed}
use Rattle.sim_stream.proofs.OneText.{one-text}
use Rattle.sim_stream.proofs.laws.law_of_one_text.Goals as goal

pub returns : goal.returns
returns c = λ d passes. one-text d (c.law_of_settling.ensures d (closed d passes)) (c.law_of_runs.ensures d (closed d passes))
