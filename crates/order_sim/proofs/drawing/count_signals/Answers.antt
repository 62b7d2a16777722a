use Rattle.std.proofs.Common.{◌<◌, ◌∙◌, List, true, false, length, get_or, sym, arith, rules, subst}
use Rattle.verilog_tree.specs.declared.tree.Module.{Module}
use Rattle.verilog_tree.specs.declared.tree.Signal.{Signal}
use Rattle.verilog_tree.specs.Circuit.{given_by}
use Rattle.verilog_tree.specs.Cycle.{circuit_of}
use Rattle.verilog_tree.specs.View.{design_view}
use Rattle.settle_order.specs.Placing.{opened_of}
use Rattle.clock_sim.specs.Simulated.{values_of, Marked}
use Rattle.clock_sim.proofs.Start.{blank, item_is}
use Rattle.event_order.specs.Drawn.{is_given}
use Rattle.order_sim.specs.Drawing.{signal_names}
use Rattle.event_order.proofs.Counting.{count-most}
use Rattle.order_sim.proofs.Flags.{count_next}
use Rattle.order_sim.proofs.Given.{mark_tells}
use Rattle.order_sim.proofs.drawing.count_signals.Goals as goal
use Rattle.order_sim.proofs.drawing.count_signals.Goals.{then-is_open, else-is_open}

pub overflow_add-count : goal.overflow_add-count
overflow_add-count c =
    let d = design_view c.args.design.now in
    let most = count-most (is_given (circuit_of d) (signal_names d) (values_of c.args.sim.now.values)) c.loop-signal.signal-index in
    let less : c.loop-signal.count < length c.as_slice-signal-items.result.now = omega (arith, most, c.loop-signal.invariant, c.loop-signal-test.true) in
    search rules

pub loop-signal-preserved : goal.loop-signal-preserved
loop-signal-preserved c =
    let d = design_view c.args.design.now in
    let v = values_of c.args.sim.now.values in
    let signals = c.args.design.now.signals.items in
    let k = c.loop-signal.signal-index in
    let s = get_or c.as_slice-signal-items.result.now k blank in
    let read = item_is blank c.as_slice-signal-items.result.now signals k c.as_slice-signal-items.ensures.value c.loop-signal-test.true in
    let lt = subst (λ (ss : List Signal). k < length ss) c.as_slice-signal-items.ensures.value c.loop-signal-test.true in
    let marked : Marked (given_by (circuit_of d).processes v) (opened_of c.fill.new.self) (opened_of c.mark_given.new.marks) =
    subst (λ (m : Module). Marked (given_by (circuit_of (design_view m)).processes v) (opened_of c.fill.new.self) (opened_of c.mark_given.new.marks)) c.requires.design c.mark_given.ensures in
    let tells = mark_tells d v c.fill.new.self c.mark_given.new.marks (length c.args.marks.now) k s (c.fill.ensures.after (λ y is. is)) marked lt read in
    elim c.if-is_open.branch [
      | then-is_open w ↦ count_next (is_given (circuit_of d) (signal_names d) v) k c.loop-signal.count c.if-is_open.count true (sym tells ∙ sym c.is_open.ensures ∙ w.if-is_open.true) w.count-is c.loop-signal.invariant
      | else-is_open w ↦ count_next (is_given (circuit_of d) (signal_names d) v) k c.loop-signal.count c.if-is_open.count false (sym tells ∙ sym c.is_open.ensures ∙ w.if-is_open.false) (let is = w.count-is in omega (arith, is)) c.loop-signal.invariant
    ]
