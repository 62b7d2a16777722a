use Rattle.std.proofs.Common.{◌≡◌, length}
use Rattle.pipeline_balance.proofs.LevelLemmas.{LevelSoFar}
use Rattle.pipeline_balance.proofs.level.add_level.Given as goal

abbrev pub invariant-loop-j : goal.invariant-loop-j
invariant-loop-j l = (length l.terms.items ≡ l.j) × LevelSoFar l.initial.net l.net l.leaves l.widths l.first l.terms.items
