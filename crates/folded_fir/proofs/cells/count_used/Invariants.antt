use Rattle.std.proofs.Common.{◌≤◌}
use Rattle.folded_fir.specs.Slots.{used_in}
use Rattle.folded_fir.proofs.cells.count_used.Given as goal

abbrev pub invariant-loop-slot : goal.invariant-loop-slot
invariant-loop-slot l = l.slot ≤ used_in l.fn.schedule l.fn.phase
