use Rattle.std.proofs.Common.{◌≡◌, ◌++◌, drop}
use Rattle.wire_levels.specs.Levels.{level_in}
use Rattle.wire_levels.specs.Placed.{levelled_from}
use Rattle.wire_levels.proofs.order.with_levels.Given as goal

abbrev pub invariant-loop-place : goal.invariant-loop-place
invariant-loop-place l = l.made.items ++ levelled_from (level_in l.levels) l.place (drop l.place l.assigns) ≡ levelled_from (level_in l.levels) 0 l.assigns
