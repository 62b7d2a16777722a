use Rattle.std.proofs.Common.{List, ℕ, subst}
use Rattle.row_stream.specs.Giving.{Closes}
use Rattle.command_files.proofs.RowFileSteps.{turn_ended}
use Rattle.command_files.proofs.row_files.end_turn.Goals as goal

pub returns-clause-told : goal.returns-clause-told
returns-clause-told g c = λ told.
    let a = g.S.RowStream.gives c.args.stream.now in
    let b = g.S.RowStream.gives c.finish-answer.new.self in
    let after = c.finish-answer.new.out.items in
    turn_ended a b after c.finish-answer.result c.hand_on.result (g.H.Host.state c.args.host.now) (g.H.Host.state c.hand_on.new.host) c.gives_some.ensures c.gives_some-2.ensures
    (subst (λ (before : List ℕ). Closes a b before c.finish-answer.result after) c.requires.room c.finish-answer.ensures.ends)
    (c.hand_on.ensures.told told)
