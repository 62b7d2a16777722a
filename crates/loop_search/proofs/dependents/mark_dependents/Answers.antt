use Rattle.std.proofs.Common.{◌+◌, ◌-◌, ◌<◌, Bool, length, subst, sym}
use Rattle.std.specs.Prelude.{if◌then◌else◌}
use Rattle.verilog_tree.specs.View.{design_view}
use Rattle.settle_order.specs.Placing.{opened_of, count_open}
use Rattle.loop_search.proofs.Marking.{same_dependents, dependents_then, fewer_left}
use Rattle.loop_search.proofs.dependents.mark_dependents.Goals as goal

pub loop-progress-init : goal.loop-progress-init
loop-progress-init c = record { dependents = same_dependents (design_view c.args.design.now) (opened_of c.args.marked.now); all = λ none. absurd (cc) }

pub loop-progress-smaller : goal.loop-progress-smaller
loop-progress-smaller c =
    let old = c.loop-progress.marked in
    let new = c.mark_readers-progress.new.marked in
    let more = c.mark_readers-progress.result in
    subst (λ (b : Bool). (if more then (length new - count_open new) + 1 else 0) < (if b then (length old - count_open old) + 1 else 0)) (sym c.loop-progress-test.true)
    (fewer_left old new more c.mark_readers-progress.auto.marked c.mark_readers-progress.ensures.more)

pub loop-progress-preserved : goal.loop-progress-preserved
loop-progress-preserved c = record {
  dependents =
      dependents_then (design_view c.args.design.now) (opened_of c.args.marked.now) (opened_of c.loop-progress.marked) (opened_of c.mark_readers-progress.new.marked) c.loop-progress.invariant.dependents
      c.mark_readers-progress.ensures.dependents;
  all = c.mark_readers-progress.ensures.all;
}
