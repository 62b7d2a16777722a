use Rattle.std.proofs.Common.{◌≡◌, ◌≢◌, ◌-◌, ◌^◌, ℕ, List, IsTrue, true, [], None}
use Rattle.std.specs.FinMap.{insert}
use Rattle.mr_values.specs.Files.{Files}
use Rattle.command_files.specs.Ends.{EndsWith, IsNoFile}
use Rattle.command_files.proofs.RowFileSteps.{RowsSoFar}
use Rattle.command_files.proofs.row_files.take_rows.Given as goal

abbrev pub invariant-pieces : goal.invariant-pieces
invariant-pieces g l = record {
  cause : EndsWith IsNoFile None (g.H.Host.state l.initial.host) (g.H.Host.state l.host);
  input : (g.H.Host.state l.host).has_input ≡ true;
  output : (g.H.Host.state l.host).has_output ≡ true;
  room : l.out.items ≡ [];
  told : (base : Files) (sent : List ℕ) → IsTrue (g.H.Host.state l.initial.host).tells → (g.H.Host.state l.initial.host).input ≢ (g.H.Host.state l.initial.host).output
      → (g.H.Host.state l.initial.host).files ≡ insert base (g.H.Host.state l.initial.host).output sent
      → RowsSoFar (g.S.RowStream.gives l.initial.stream) (g.S.RowStream.gives l.stream) base sent (g.H.Host.state l.initial.host) (g.H.Host.state l.host);
}

abbrev pub decreases-pieces : goal.decreases-pieces
decreases-pieces g l = 2 ^ 45 - g.S.RowStream.most l.stream
