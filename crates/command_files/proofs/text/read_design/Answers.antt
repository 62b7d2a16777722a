use Rattle.std.proofs.Common.{List, ℕ, subst}
use Rattle.std.proofs.lemmas.Result.{err_from_is_err_and}
use Rattle.command_files.specs.TextFile.{BytesAnswer}
use Rattle.command_files.proofs.TextSteps.{design_read, text_unread}
use Rattle.command_files.proofs.text.read_design.Goals as goal

pub returns-in_err-bytes-clause-told : goal.returns-in_err-bytes-clause-told
returns-in_err-bytes-clause-told g c =
    let p = err_from_is_err_and c.from_residual.result c.from_residual.ensures.1 in
    rw (p.1, p.2)
    (λ told.
    let read = c.in_err-bytes.ensures.told told in
    record { answer = text_unread c.args.text.now (g.H.Host.state c.args.host.now).files c.in_err-bytes.field-0.0 read.answer; ended = tt; files = read.files })

pub returns-clause-told : goal.returns-clause-told
returns-clause-told g c = λ told.
    let read = c.in_ok-bytes.ensures.told told in
    let bytes = c.in_ok-bytes.bytes.items in
    design_read c.args.text.now (g.H.Host.state c.args.host.now) (g.H.Host.state c.read_file.new.host) bytes c.design_of.result (record { there = read.answer.0; short = read.answer.1 })
    (subst (λ (all : List ℕ). BytesAnswer all c.design_of.result) c.deref.ensures.value c.design_of.ensures.answer) read.ended read.files
