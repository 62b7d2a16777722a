use Rattle.pipeline_balance.specs.Phase.{IsSelection}
use Rattle.pipeline_balance.proofs.selections.select.Given as goal

abbrev pub invariant-loop-phase : goal.invariant-loop-phase
invariant-loop-phase l = IsSelection l.initial.net l.net l.fn.bits l.fn.nodes l.phase l.fn.width l.selected
