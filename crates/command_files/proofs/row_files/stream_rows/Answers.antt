use Rattle.std.proofs.Common.{[], ◌∙◌, sym}
use Rattle.std.proofs.lemmas.Result.{err_from_is_err_and}
use Rattle.command_files.proofs.RowFileSteps.{input_opened, open_fails, begun, differ, stream_fails, stream_ends}
use Rattle.command_files.proofs.EndsKept.{kept_after, same_kept}
use Rattle.command_files.proofs.row_files.stream_rows.Goals as goal

pub returns-in_err-open_out-clause-told : goal.returns-in_err-open_out-clause-told
returns-in_err-open_out-clause-told g c =
    let old = g.H.Host.state c.args.host.now in
    let one = g.H.Host.state c.open_input.new.self in
    let p = err_from_is_err_and c.from_residual.result c.from_residual.ensures.1 in
    rw (p.1, p.2)
    (λ told.
    let opened = input_opened c.args.input.now c.open_input.result old one (sym c.is_err.ensures.value ∙ c.if-is_err.false) (c.open_input.ensures.told told) in
    open_fails (g.S.RowStream.gives c.args.stream.now) c.args.input.now c.args.output.now c.in_err-open_out.field-0.0 old one (g.H.Host.state c.open_out.new.host) opened c.gives_some.ensures
    (c.in_err-open_out.ensures.told (c.open_input.ensures.cause.same_kind ∙ told)))

pub returns-in_err-take_rows-clause-told : goal.returns-in_err-take_rows-clause-told
returns-in_err-take_rows-clause-told g c =
    let a = g.S.RowStream.gives c.args.stream.now in
    let b = g.S.RowStream.gives c.take_rows.new.stream in
    let input = c.args.input.now in
    let output = c.args.output.now in
    let old = g.H.Host.state c.args.host.now in
    let one = g.H.Host.state c.open_input.new.self in
    let two = g.H.Host.state c.open_out.new.host in
    let three = g.H.Host.state c.take_rows.new.host in
    let p = err_from_is_err_and c.from_residual-in_err-take_rows.result c.from_residual-in_err-take_rows.ensures.1 in
    rw (p.1, p.2)
    (λ told.
    let told1 = c.open_input.ensures.cause.same_kind ∙ told in
    let told2 = c.in_ok-open_out.ensures.cause.same_kind ∙ told1 in
    let opened = input_opened input c.open_input.result old one (sym c.is_err.ensures.value ∙ c.if-is_err.false) (c.open_input.ensures.told told) in
    let out = c.in_ok-open_out.ensures.told told1 in
    let taken = c.in_err-take_rows.ensures.told old.files [] told2 (differ a b input output old one two three c.requires opened out) (begun a b input output old one two three c.requires opened out) in
    stream_fails a b input output old one two three c.requires opened out c.in_err-take_rows.field-0.0 taken)

pub returns-clause-told : goal.returns-clause-told
returns-clause-told g c = λ told.
    let a = g.S.RowStream.gives c.args.stream.now in
    let b = g.S.RowStream.gives c.take_rows.new.stream in
    let input = c.args.input.now in
    let output = c.args.output.now in
    let old = g.H.Host.state c.args.host.now in
    let one = g.H.Host.state c.open_input.new.self in
    let two = g.H.Host.state c.open_out.new.host in
    let three = g.H.Host.state c.take_rows.new.host in
    let told1 = c.open_input.ensures.cause.same_kind ∙ told in
    let told2 = c.in_ok-open_out.ensures.cause.same_kind ∙ told1 in
    let told3 = c.in_ok-take_rows.ensures.cause.same_kind ∙ told2 in
    let opened = input_opened input c.open_input.result old one (sym c.is_err.ensures.value ∙ c.if-is_err.false) (c.open_input.ensures.told told) in
    let out = c.in_ok-open_out.ensures.told told1 in
    let taken = c.in_ok-take_rows.ensures.told old.files [] told2 (differ a b input output old one two three c.requires opened out) (begun a b input output old one two three c.requires opened out) in
    stream_ends a b input output old one two three c.requires opened out c.end_rows.result (g.H.Host.state c.end_rows.new.host) taken (c.end_rows.ensures.told told3)
    (kept_after old.ends one.ends two.ends (same_kept old.ends one.ends (c.open_input.ensures.told told).ends) (c.in_ok-open_out.ensures.cause.ends told1)) (c.end_rows.ensures.cause.ends told3)
