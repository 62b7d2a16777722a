use Rattle.verilog_tree.specs.View.{design_view}
use Rattle.loop_search.proofs.Marking.{IsMarking}
use Rattle.loop_search.proofs.dependents.mark_readers.Given as goal

abbrev pub invariant-loop-assign : goal.invariant-loop-assign
invariant-loop-assign l = IsMarking (design_view l.design) l.initial.marked l.marked l.progress l.assign-index
