use Rattle.module_laws.proofs.Passing.{closed}
use Rattle.order_stream.proofs.OneText.{one-ordered}
use Rattle.order_stream.proofs.laws.law_of_one_text.Goals as goal

pub returns : goal.returns
returns c = λ d passes. one-ordered d passes (c.law_of_runs.ensures d (closed d passes))
