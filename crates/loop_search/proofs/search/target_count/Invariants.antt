use Rattle.std.proofs.Common.{◌≡◌, ℕ, ◌<◌, Some, slice_get}
use Rattle.verilog_tree.specs.Tree.{Assignment}
use Rattle.verilog_tree.specs.View.{design_view}
use Rattle.loop_search.proofs.search.target_count.Given as goal

abbrev pub invariant-loop-assign : goal.invariant-loop-assign
invariant-loop-assign l = (k : ℕ) (a : Assignment) → k < l.assign-index → slice_get (design_view l.design).assigns k ≡ Some a → a.target < l.count
