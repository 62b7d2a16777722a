use Rattle.std.proofs.Common.{◌≡◌, take}
use Rattle.impulse_phase.specs.Response.{added, scaled, behind}
use Rattle.impulse_phase.proofs.sum.add_at.Given as goal

abbrev pub invariant-loop-i : goal.invariant-loop-i
invariant-loop-i l = l.sum ≡ added (scaled l.tap (behind l.from (take l.i l.weights))) l.initial.sum
