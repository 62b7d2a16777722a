use Rattle.std.proofs.Common.{◌≡◌, ◌*◌, ◌≤◌}
use Rattle.pipeline_balance.specs.Tree.{count_to, level_count}
use Rattle.distributed_table.proofs.totals.register_count.Given as goal

abbrev pub invariant-loop-level : goal.invariant-loop-level
invariant-loop-level l = record {
  left : l.left ≡ level_count l.fn.leaves l._level;
  total : l.total ≡ count_to l.fn.leaves l._level;
  few : l.left ≤ 1024;
  most : l.total ≤ l._level * 1024;
}
