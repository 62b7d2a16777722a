use Rattle.std.proofs.Common.{take}
use Rattle.impulse_phase.proofs.Prefixes.{TellsPrefix}
use Rattle.impulse_phase.proofs.table.Response.of.Given as goal

abbrev pub invariant-loop-element : goal.invariant-loop-element
invariant-loop-element l = TellsPrefix (take l.element-index l.elements) l.response
