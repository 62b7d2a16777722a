use Rattle.std.proofs.Common.{◌<◌, ◌∙◌, true, false, length, set, refl, arith, rules, get_or}
use Rattle.std.specs.Prelude.{◌==◌}
use Rattle.std.proofs.lemmas.List.{length-set}
use Rattle.settle_order.specs.Placing.{opened_of}
use Rattle.event_order.proofs.Counting.{count-most}
use Rattle.order_sim.proofs.Flags.{count_next, counted_before, set_more}
use Rattle.order_sim.proofs.drawing.flag_first.Goals as goal
use Rattle.order_sim.proofs.drawing.flag_first.Goals.{then-flags-place, else-flags-place}

pub overflow_add-count : goal.overflow_add-count
overflow_add-count c =
    let most = count-most (opened_of c.loop-place.flags) c.loop-place.place in
    let less : c.loop-place.count < length c.args.waiting.now = omega (arith, most, c.loop-place.invariant.counted, c.loop-place-test.true) in
    search rules

pub loop-place-preserved : goal.loop-place-preserved
loop-place-preserved c =
    let h = c.loop-place.invariant in
    let b = get_or c.args.waiting.now c.loop-place.place 0 == 0 in
    let inside : c.loop-place.place < length c.loop-place.flags = omega (arith, h.sizes, c.loop-place-test.true) in
    let k = c.loop-place.place in
    let after = opened_of (set c.loop-place.flags k b) in
    let before = counted_before c.loop-place.flags k b inside c.loop-place.count h.counted in
    record {
      sizes = length-set c.loop-place.flags c.loop-place.place b ∙ h.sizes;
      set = set_more c.loop-place.flags c.loop-place.place b inside (λ k. get_or c.args.waiting.now k 0 == 0) refl h.set;
      counted = elim c.if-flags-place.branch [
        | then-flags-place w ↦ count_next after k c.loop-place.count c.if-flags-place.count true w.if-flags-place.true w.count-is before
        | else-flags-place w ↦ count_next after k c.loop-place.count c.if-flags-place.count false w.if-flags-place.false (let is = w.count-is in omega (arith, is)) before
      ];
    }
