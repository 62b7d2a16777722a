use Rattle.std.proofs.Common.{◌≡◌, IsTrue, true, [], None}
use Rattle.command_files.specs.Ends.{EndsWith, IsNoFile}
use Rattle.command_files.proofs.RowFileSteps.{EndSoFar}
use Rattle.command_files.proofs.row_files.end_rows.Given as goal

abbrev pub invariant-turns : goal.invariant-turns
invariant-turns g l = record {
  cause : EndsWith IsNoFile None (g.H.Host.state l.initial.host) (g.H.Host.state l.host);
  output : (g.H.Host.state l.host).has_output ≡ true;
  room : l.out.items ≡ [];
  told : IsTrue (g.H.Host.state l.initial.host).tells → EndSoFar (g.S.RowStream.gives l.initial.stream) (g.S.RowStream.gives l.stream) (g.H.Host.state l.initial.host) (g.H.Host.state l.host);
}

abbrev pub decreases-turns : goal.decreases-turns
decreases-turns g l = g.S.RowStream.left l.stream
