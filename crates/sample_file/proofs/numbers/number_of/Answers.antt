use Rattle.std.proofs.lemmas.Str.{IsUtf8-from_ascii}
use Rattle.sample_file.proofs.NumberSteps.{numeral-ascii, number-refused}
use Rattle.sample_file.proofs.numbers.number_of.Goals as goal

pub returns-in-Err-parse : goal.returns-in-Err-parse
returns-in-Err-parse c = number-refused c.args.field.now c.in-Ok.text.now c.in-Ok.ensures.cases.0 c.in-Err-parse.ensures.value.0 c.requires

pub returns-in-Err : goal.returns-in-Err
returns-in-Err c = absurd (c.in-Err.ensures.cases.0 (IsUtf8-from_ascii _ (numeral-ascii _ c.requires)))
