use Rattle.std.proofs.Common.{Ok, Bool, None, subst, ◌∙◌}
use Rattle.std.proofs.lemmas.Result.{err_from_is_err_and}
use Rattle.command_files.specs.Ends.{IsNoFile}
use Rattle.command_files.specs.RowSteps.{EndsOnce}
use Rattle.command_files.proofs.EndSteps.{ends_after}
use Rattle.command_files.proofs.RowFileSteps.{end_more, end_failed}
use Rattle.command_files.proofs.row_files.end_rows.Goals as goal

pub returns-in_err-end_turn-clause-told : goal.returns-in_err-end_turn-clause-told
returns-in_err-end_turn-clause-told g c =
    let p = err_from_is_err_and c.from_residual.result c.from_residual.ensures.1 in
    rw (p.1, p.2)
    (λ told. end_failed (g.S.RowStream.gives c.args.stream.now) (g.S.RowStream.gives c.turns.stream) (g.S.RowStream.gives c.end_turn.new.stream) (g.H.Host.state c.args.host.now) (g.H.Host.state c.turns.host) (g.H.Host.state c.end_turn.new.host)
    (c.turns.invariant.told told) c.in_err-end_turn.field-0.0 (c.in_err-end_turn.ensures.told (c.turns.invariant.cause.same_kind ∙ told)))

pub turns-preserved : goal.turns-preserved
turns-preserved g c =
    let a = g.S.RowStream.gives c.args.stream.now in
    let b = g.S.RowStream.gives c.turns.stream in
    let last = g.S.RowStream.gives c.end_turn.new.stream in
    let old = g.H.Host.state c.args.host.now in
    let middle = g.H.Host.state c.turns.host in
    let new = g.H.Host.state c.end_turn.new.host in
    let next = c.in_ok-end_turn.ensures in
    record {
      cause = ends_after IsNoFile IsNoFile IsNoFile None old middle new c.turns.invariant.cause next.cause (λ told missing. absurd missing.1);
      output = next.output;
      room = next.room;
      told = λ told. end_more a b last old middle new (c.turns.invariant.told told) (subst (λ (done : Bool). EndsOnce b last (Ok done) middle new) c.if-branch.false (next.told (c.turns.invariant.cause.same_kind ∙ told)));
    }
