use Rattle.std.proofs.Common.{ℕ, List, sym, subst}
use Rattle.verilog_tree.specs.Cycle.{circuit_of}
use Rattle.verilog_tree.specs.View.{design_view}
use Rattle.settle_order.specs.Placing.{opened_of, IsEvaluationOrder}
use Rattle.settle_order.proofs.Turns.{found_order}
use Rattle.wire_levels.proofs.signal_levels.name_levels.Goals as goal

pub fill-requires-clause-order : goal.fill-requires-clause-order
fill-requires-clause-order c =
    let d = design_view c.args.design.now in
    subst (λ (order : List ℕ). IsEvaluationOrder (circuit_of d) order) (sym c.deref.ensures.value)
    (found_order d c.requires.driven c.requires.free (opened_of c.in_ok-placed.placed.opened.items) c.in_ok-placed.placed.order.items
    c.in_ok-placed.ensures.placed c.in_ok-placed.ensures.stuck)
