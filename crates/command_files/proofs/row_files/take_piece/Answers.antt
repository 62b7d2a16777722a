use Rattle.std.proofs.Common.{None, arith, ◌^◌, ◌∙◌}
use Rattle.std.proofs.lemmas.Result.{err_from_is_err_and}
use Rattle.command_files.specs.Ends.{IsNoFile}
use Rattle.command_files.proofs.EndSteps.{ends_after}
use Rattle.command_files.proofs.RowFileSteps.{piece_more, piece_failed}
use Rattle.row_stream.proofs.TurnSteps.{bound-kept}
use Rattle.command_files.proofs.row_files.take_piece.Goals as goal

pub returns-in_err-taken-clause-told : goal.returns-in_err-taken-clause-told
returns-in_err-taken-clause-told g c =
    let p = err_from_is_err_and c.from_residual.result c.from_residual.ensures.1 in
    let last = g.S.RowStream.gives c.take_turn.new.stream in
    rw (p.1, p.2)
    (λ told. piece_failed (g.S.RowStream.gives c.args.stream.now) (g.S.RowStream.gives c.turns.stream) c.args.piece.now _ c.turns.taken (g.H.Host.state c.args.host.now) (g.H.Host.state c.turns.host) (g.H.Host.state c.take_turn.new.host)
    c.split_at.ensures.back (c.turns.invariant.told told) last last c.in_err-taken.field-0.0 (c.in_err-taken.ensures.told (c.turns.invariant.cause.same_kind ∙ told)))

pub turns-preserved : goal.turns-preserved
turns-preserved g c =
    let old = g.H.Host.state c.args.host.now in
    let middle = g.H.Host.state c.turns.host in
    let new = g.H.Host.state c.take_turn.new.host in
    let next = c.in_ok-taken.ensures in
    record {
      cause = ends_after IsNoFile IsNoFile IsNoFile None old middle new c.turns.invariant.cause next.cause (λ told missing. absurd missing.1);
      input = next.input ∙ c.turns.invariant.input;
      output = next.output;
      room = next.room;
      within = omega (arith, next.within, c.split_at.ensures.back_len, c.turns-test.true);
      bytes = omega (arith, c.turns.invariant.bytes, next.bytes);
      bound = bound-kept (2 ^ 45) c.turns.taken c.in_ok-taken.field-0 (g.S.RowStream.most c.turns.stream) (g.S.RowStream.most c.take_turn.new.stream) c.turns.invariant.bound next.bound next.same;
      told = λ told. piece_more (g.S.RowStream.gives c.args.stream.now) (g.S.RowStream.gives c.turns.stream) c.args.piece.now _ c.turns.taken old middle new c.split_at.ensures.back (c.turns.invariant.told told)
          (g.S.RowStream.gives c.take_turn.new.stream) c.in_ok-taken.field-0 (next.told (c.turns.invariant.cause.same_kind ∙ told));
    }
