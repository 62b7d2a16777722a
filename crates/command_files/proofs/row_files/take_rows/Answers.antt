use Rattle.std.proofs.Common.{None, ◌∙◌}
use Rattle.std.proofs.lemmas.Result.{err_from_is_err_and}
use Rattle.command_files.specs.Ends.{IsNoFile}
use Rattle.command_files.proofs.EndSteps.{ends_after}
use Rattle.command_files.proofs.RowFileSteps.{rows_unread, rows_more, rows_failed, read_ends}
use Rattle.command_files.proofs.row_files.take_rows.Goals as goal

pub returns-in_default-clause-told : goal.returns-in_default-clause-told
returns-in_default-clause-told g c = λ base sent told isnt files.
    let b = g.S.RowStream.gives c.pieces.stream in
    let read = c.next.ensures.told (c.pieces.invariant.cause.same_kind ∙ told) in
    rows_unread (g.S.RowStream.gives c.args.stream.now) b b base sent (g.H.Host.state c.args.host.now) (g.H.Host.state c.pieces.host) (g.H.Host.state c.next.new.self) c.gives_some.ensures
    (c.pieces.invariant.told base sent told isnt files) read.files

pub pieces-preserved : goal.pieces-preserved
pieces-preserved g c =
    let old = g.H.Host.state c.args.host.now in
    let middle = g.H.Host.state c.pieces.host in
    let read = g.H.Host.state c.next.new.self in
    let new = g.H.Host.state c.take_piece.new.host in
    let taking = c.in_ok-take_piece.ensures in
    let reading = c.in-Ok.ensures in
    let reads = read_ends c.in-Ok.count c.next.new.room middle read reading.cause reading.told in
    let so_far = ends_after IsNoFile IsNoFile IsNoFile None old middle read c.pieces.invariant.cause reads (λ told missing. absurd missing.1) in
    record {
      cause = ends_after IsNoFile IsNoFile IsNoFile None old read new so_far taking.cause (λ told missing. absurd missing.1);
      input = taking.input ∙ reading.input;
      output = taking.output;
      room = taking.room;
      told = λ base sent told isnt files.
          let bytes = reading.told (c.pieces.invariant.cause.same_kind ∙ told) in
          rows_more (g.S.RowStream.gives c.args.stream.now) (g.S.RowStream.gives c.pieces.stream) base sent _ old middle read new (c.pieces.invariant.told base sent told isnt files) isnt bytes.bytes bytes.files bytes.input bytes.output
          (g.S.RowStream.gives c.take_piece.new.stream) (taking.told (so_far.same_kind ∙ told));
    }

pub returns-in_err-take_piece-clause-told : goal.returns-in_err-take_piece-clause-told
returns-in_err-take_piece-clause-told g c =
    let old = g.H.Host.state c.args.host.now in
    let middle = g.H.Host.state c.pieces.host in
    let read = g.H.Host.state c.next.new.self in
    let new = g.H.Host.state c.take_piece.new.host in
    let reading = c.in-Ok.ensures in
    let last = g.S.RowStream.gives c.take_piece.new.stream in
    let p = err_from_is_err_and c.from_residual.result c.from_residual.ensures.1 in
    rw (p.1, p.2)
    (λ base sent told isnt files.
    let told1 = c.pieces.invariant.cause.same_kind ∙ told in
    let bytes = reading.told told1 in
    rows_failed (g.S.RowStream.gives c.args.stream.now) (g.S.RowStream.gives c.pieces.stream) base sent _ old middle read new (c.pieces.invariant.told base sent told isnt files) isnt bytes.bytes bytes.files bytes.input bytes.output
    last last c.in_err-take_piece.field-0.0 (c.in_err-take_piece.ensures.told (reading.cause.same_kind ∙ told1)))
