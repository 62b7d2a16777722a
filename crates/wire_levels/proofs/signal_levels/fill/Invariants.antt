use Rattle.verilog_tree.specs.View.{design_view}
use Rattle.wire_levels.proofs.Turns.{IsLevelledTo}
use Rattle.wire_levels.proofs.signal_levels.fill.Given as goal

abbrev pub invariant-loop-place : goal.invariant-loop-place
invariant-loop-place l = IsLevelledTo (design_view l.design) l.order l.place-index l.levels
