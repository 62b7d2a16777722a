use Rattle.pipeline_balance.specs.Phase.{IsSelectionOrZero}
use Rattle.pipeline_balance.proofs.selections.select_or_zero.Given as goal

abbrev pub invariant-loop-phase : goal.invariant-loop-phase
invariant-loop-phase l = IsSelectionOrZero l.fn.net l.net l.fn.bits l.fn.nodes l.phase l.fn.width l.selected
