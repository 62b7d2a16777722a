use Rattle.std.proofs.Common.{◌≡◌, max, drop}
use Rattle.verilog_tree.specs.View.{trees_view}
use Rattle.wire_levels.specs.Levels.{greatest_of, level_in}
use Rattle.wire_levels.proofs.signal_levels.+greatest.Given as goal

abbrev pub invariant-greatest_of-loop-member : goal.invariant-greatest_of-loop-member
invariant-greatest_of-loop-member l = max l.most (greatest_of (level_in l.levels) (trees_view (drop l.member-index l.members))) ≡ greatest_of (level_in l.levels) (trees_view l.members)
