use Rattle.plan_laws.proofs.Spans.{span_holds}
use Rattle.plan_laws.proofs.law_of_span.Goals as goal

pub returns : goal.returns
returns c = span_holds
