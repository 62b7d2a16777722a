use Rattle.std.proofs.Common.{false, get_or, refl}
use Rattle.std.specs.Prelude.{nat_eq}
use Rattle.std.specs.HashSet.{contains}
use Rattle.verilog_tree.specs.declared.tree.Kind.TheVariants.{Input}
use Rattle.verilog_tree.specs.declared.tree.Signal.{Signal}
use Rattle.verilog_check.proofs.Lists.{item_is}
use Rattle.verilog_check.proofs.Repeating.{none_known, repeat_skips}
use Rattle.verilog_check.proofs.repeats.first_redeclared.Goals as goal

pub loop-signal-init : goal.loop-signal-init
loop-signal-init c = none_known (contains nat_eq c.new-seen.result) c.args.ordered.now (λ n. rw c.new-seen.ensures.empty refl)

pub loop-signal-preserved : goal.loop-signal-preserved
loop-signal-preserved c =
    let none : Signal = record { name = 0; kind = Input; signed = false; ranged = false; width = 0; place = 0 } in
    let k = c.loop-signal.signal-index in
    repeat_skips c.args.ordered.now k (contains nat_eq c.loop-signal.seen) _ c.loop-signal.invariant (get_or c.args.ordered.now k none) c.loop-signal-test.true
    (item_is c.args.ordered.now k none c.loop-signal-test.true) c.in_ok-insert.field-0 (contains nat_eq c.insert.new.self) c.in_ok-insert.ensures.added c.if-not-branch.false
    c.in_ok-insert.ensures.updates.0
