use Rattle.std.proofs.Common.{List, ℕ, subst}
use Rattle.row_stream.specs.Giving.{Takes}
use Rattle.command_files.proofs.RowFileSteps.{turn_taken}
use Rattle.command_files.proofs.row_files.take_turn.Goals as goal

pub returns-clause-told : goal.returns-clause-told
returns-clause-told g c = λ told.
    let a = g.S.RowStream.gives c.args.stream.now in
    let b = g.S.RowStream.gives c.advance-answer.new.self in
    let after = c.advance-answer.new.out.items in
    turn_taken a b c.args.piece.now after c.advance-answer.result c.hand_on.result (g.H.Host.state c.args.host.now) (g.H.Host.state c.hand_on.new.host) c.gives_some.ensures c.gives_some-2.ensures
    (subst (λ (before : List ℕ). Takes a b c.args.piece.now before c.advance-answer.result after) c.requires.room c.advance-answer.ensures.ends)
    (c.hand_on.ensures.told told)
