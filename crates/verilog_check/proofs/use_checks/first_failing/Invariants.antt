use Rattle.std.proofs.Common.{◌≡◌, map, drop, find}
use Rattle.verilog_tree.specs.View.{design_view}
use Rattle.verilog_check.specs.Uses.{use_view, is_failing}
use Rattle.verilog_check.proofs.use_checks.first_failing.Given as goal

abbrev pub invariant-loop-used : goal.invariant-loop-used
invariant-loop-used l =
    find (is_failing l.check (design_view l.declared.design.now)) (map use_view (drop l.used-index l.uses)) ≡ find (is_failing l.check (design_view l.declared.design.now)) (map use_view l.uses)
