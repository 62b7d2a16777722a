use Rattle.std.proofs.lemmas.Result.{err_from_is_err_and}
use Rattle.command_files.proofs.TextSteps.{text_refused}
use Rattle.command_files.proofs.text.design_of.Goals as goal

pub returns-in_err-read_text-clause-answer : goal.returns-in_err-read_text-clause-answer
returns-in_err-read_text-clause-answer c =
    let p = err_from_is_err_and c.from_residual.result c.from_residual.ensures.1 in
    rw (p.1, p.2) (text_refused c.args.bytes.now c.in_err-read_text.field-0.0 c.in_err-read_text.ensures.refused c.in_err-read_text.ensures.only)
