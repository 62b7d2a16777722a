use Rattle.plan_reader.proofs.OneAnswer.{one_answer}
use Rattle.plan_reader.proofs.tap_rows.read_taps.Goals as goal

pub returns-in-Ok-clause-only : goal.returns-in-Ok-clause-only
returns-in-Ok-clause-only c = one_answer c.args.bytes.now

pub returns-clause-only : goal.returns-clause-only
returns-clause-only c = one_answer c.args.bytes.now
