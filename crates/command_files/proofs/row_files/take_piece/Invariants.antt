use Rattle.std.proofs.Common.{◌≡◌, ◌≤◌, ◌<◌, ◌+◌, ◌*◌, ◌-◌, ◌^◌, ℕ, IsTrue, true, [], length, drop, None, Ok}
use Rattle.command_files.specs.Ends.{EndsWith, IsNoFile}
use Rattle.command_files.specs.RowSteps.{TakesPiece}
use Rattle.command_files.proofs.row_files.take_piece.Given as goal

abbrev pub invariant-turns : goal.invariant-turns
invariant-turns g l = record {
  cause : EndsWith IsNoFile None (g.H.Host.state l.initial.host) (g.H.Host.state l.host);
  input : (g.H.Host.state l.host).has_input ≡ (g.H.Host.state l.initial.host).has_input;
  output : (g.H.Host.state l.host).has_output ≡ true;
  room : l.out.items ≡ [];
  within : l.taken ≤ length l.piece;
  bytes : g.S.RowStream.most l.initial.stream + l.taken ≤ g.S.RowStream.most l.stream;
  bound : 0 < l.taken → g.S.RowStream.most l.stream ≤ 2 ^ 45;
  told : IsTrue (g.H.Host.state l.initial.host).tells
      → TakesPiece (λ (taken : ℕ). drop taken l.piece) (g.S.RowStream.gives l.initial.stream) (g.S.RowStream.gives l.stream) l.piece (Ok l.taken) (g.H.Host.state l.initial.host) (g.H.Host.state l.host);
}

abbrev pub decreases-turns : goal.decreases-turns
decreases-turns g l = (length l.piece - l.taken) * 2 ^ 17 + g.S.RowStream.due l.stream
