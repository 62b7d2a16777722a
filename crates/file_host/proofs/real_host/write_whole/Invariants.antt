use Rattle.std.proofs.Common.{length, ◌≡◌, ◌++◌, ◌∙◌, ℕ, List}
use Rattle.std.specs.Io.KnownBytes.{Appends}
use Rattle.file_host.proofs.real_host.write_whole.Given as goal

-- what was written so far stands before the rest
abbrev pub invariant-loop-rest : goal.invariant-loop-rest
invariant-loop-rest g l = (front : List ℕ) × (l.fn.piece ≡ front ++ l.rest) × Appends (g.W.Write.contents l.fn.file) (g.W.Write.contents l.file) front

abbrev pub decreases-loop-rest : goal.decreases-loop-rest
decreases-loop-rest g l = length l.rest
