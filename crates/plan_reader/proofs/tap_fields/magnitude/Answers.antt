use Rattle.std.specs.Str.Parse.{digits_value}
use Rattle.plan_reader.proofs.TapSteps.{digit-too-large, all-taken}
use Rattle.plan_reader.proofs.tap_fields.magnitude.Goals as goal

pub returns-in-None : goal.returns-in-None
returns-in-None c = digit-too-large c.loop-digit.number c.loop-digit.digit-index c.args.digits.now (digits_value 10 c.args.digits.now) c.loop-digit-test.true c.in-None.ensures c.loop-digit.invariant.rest

pub returns : goal.returns
returns c = all-taken c.loop-digit.number c.loop-digit.digit-index c.args.digits.now (digits_value 10 c.args.digits.now) c.loop-digit-test.false c.loop-digit.invariant.small c.loop-digit.invariant.rest
