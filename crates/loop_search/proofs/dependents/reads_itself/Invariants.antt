use Rattle.std.proofs.Common.{◌≡◌, ℕ, ◌<◌, true, Some, slice_get}
use Rattle.verilog_tree.specs.Tree.{Assignment}
use Rattle.verilog_tree.specs.View.{design_view}
use Rattle.settle_order.specs.Placing.{reads_open, opened_of}
use Rattle.loop_search.proofs.dependents.reads_itself.Given as goal

-- no assignment before reads the name
abbrev pub invariant-loop-assign : goal.invariant-loop-assign
invariant-loop-assign l =
    (k : ℕ) (a : Assignment) → k < l.assign-index → slice_get (design_view l.design).assigns k ≡ Some a → a.target ≡ l.name → reads_open (opened_of l.marked) a.value ≡ true → ⊥
