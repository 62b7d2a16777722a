use Rattle.std.proofs.Common.{◌≡◌, ◌+◌, ◌-◌, ◌<◌, ◌-ℤ◌, arith, ℕ, ℤ, pos, subst, ◌^◌, max, ◌≤◌}
use Rattle.std.proofs.lemmas.Int.{to_z-of_z, ints}
use mir.Val.{to_z, of_z, SFits}
use mir.Syntax.{w128}
use Rattle.net_graph.proofs.NetLemmas.{Extends-register, Extends-then, IsUnbound-added, IsUnbound-then}
use Rattle.mr_values.specs.Width.{wrap}
use Rattle.net_graph.specs.Grow.{Adds}
use Rattle.net_graph.specs.declared.cell.Item.TheVariants.{Constant}
use Rattle.pipeline_balance.proofs.CounterLemmas.{count_circuit, AddsCount-circuit}
use Rattle.pipeline_balance.specs.Bits.{IsBitsFor}
use Rattle.pipeline_balance.proofs.gates.count_up.Goals as goal

passed : (n : ℕ) (z : ℤ) → z ≡ pos n → n < 2 ^ 64 → to_z w128 (of_z w128 z) ≡ pos n
passed n z e h = let f : SFits w128 (pos n) = omega (arith, ints) in rw e (to_z-of_z w128 (pos n) f)

restarted : (period first : ℕ) (z : ℤ) → z ≡ pos (first + 1) -ℤ pos period → period < 2 ^ 64 → first < 2 ^ 64 → to_z w128 (of_z w128 z) ≡ pos (first + 1) -ℤ pos period
restarted period first z e h k = let f : SFits w128 (pos (first + 1) -ℤ pos period) = omega (arith, ints) in rw e (to_z-of_z w128 (pos (first + 1) -ℤ pos period) f)

pub returns-in_err-last-clause-extends : goal.returns-in_err-last-clause-extends
returns-in_err-last-clause-extends c = rw c.in_err-last.ensures.err (Extends-register c.in_ok-count.ensures.ok.adds)

pub returns-in_err-restart-clause-extends : goal.returns-in_err-restart-clause-extends
returns-in_err-restart-clause-extends c = rw c.in_err-restart.ensures.err (Extends-then (Extends-register c.in_ok-count.ensures.ok.adds) c.in_ok-last.ensures.ok)

pub returns-in_err-one-clause-extends : goal.returns-in_err-one-clause-extends
returns-in_err-one-clause-extends c = rw c.in_err-one.ensures.err (Extends-then (Extends-then (Extends-register c.in_ok-count.ensures.ok.adds) c.in_ok-last.ensures.ok) c.in_ok-restart.ensures.ok)

pub returns-in_err-done-clause-extends : goal.returns-in_err-done-clause-extends
returns-in_err-done-clause-extends c = rw c.in_err-done.ensures.err (Extends-then (Extends-then (Extends-then (Extends-register c.in_ok-count.ensures.ok.adds) c.in_ok-last.ensures.ok) c.in_ok-restart.ensures.ok) c.in_ok-one.ensures.ok)

pub returns-in_err-more-clause-extends : goal.returns-in_err-more-clause-extends
returns-in_err-more-clause-extends c = rw c.in_err-more.ensures.err (Extends-then (Extends-then (Extends-then (Extends-then (Extends-register c.in_ok-count.ensures.ok.adds) c.in_ok-last.ensures.ok) c.in_ok-restart.ensures.ok) c.in_ok-one.ensures.ok) c.in_ok-done.ensures.ok)

pub returns-in_err-next-clause-extends : goal.returns-in_err-next-clause-extends
returns-in_err-next-clause-extends c = rw c.in_err-next.ensures.err (Extends-then (Extends-then (Extends-then (Extends-then (Extends-then (Extends-register c.in_ok-count.ensures.ok.adds) c.in_ok-last.ensures.ok) c.in_ok-restart.ensures.ok) c.in_ok-one.ensures.ok) c.in_ok-done.ensures.ok) c.in_ok-more.ensures.ok)

pub bind-requires-clause-unbound : goal.bind-requires-clause-unbound
bind-requires-clause-unbound c = IsUnbound-then (IsUnbound-then (IsUnbound-then (IsUnbound-then (IsUnbound-then (IsUnbound-then (IsUnbound-added c.in_ok-count.ensures.ok.adds) c.in_ok-last.ensures.ok) c.in_ok-restart.ensures.ok) c.in_ok-one.ensures.ok) c.in_ok-done.ensures.ok) c.in_ok-more.ensures.ok) c.in_ok-next.ensures.ok

pub returns-clause-ok : goal.returns-clause-ok
returns-clause-ok c =
    let value : to_z w128 (of_z w128 c.from.result) ≡ pos c.args.first = passed c.args.first c.from.result c.from.ensures (omega (arith, c.ranges.first)) in
    let last = subst (λ (z : ℤ). Adds c.next_register.new.net c.constant.new.self c.in_ok-last.last c.bits_for-width.result (Constant (wrap c.bits_for-width.result z))) value c.in_ok-last.ensures.ok in
    let below : to_z w128 (of_z w128 c.restart_of-again.result) ≡ pos (c.args.first + 1) -ℤ pos c.args.period = restarted c.args.period c.args.first c.restart_of-again.result c.restart_of-again.ensures (omega (arith, c.ranges.period)) (omega (arith, c.ranges.first)) in
    let restart = subst (λ (z : ℤ). Adds c.constant.new.self c.constant-2.new.self c.in_ok-restart.restart c.bits_for-width.result (Constant (wrap c.bits_for-width.result z))) below c.in_ok-restart.ensures.ok in
    let bits = c.bits_for-width.ensures in
    let holds = bits.holds in
    let most : c.last_of.result ≡ max c.args.first (c.args.period - 1) = c.last_of.ensures in
    let positive = c.requires.positive in
    let room_first : c.args.first < 2 ^ c.bits_for-width.result = omega arith in
    let room_period : c.args.period ≤ 2 ^ c.bits_for-width.result = omega arith in
    (count_circuit bits.some positive room_first room_period c.requires.control c.in_ok-count.ensures.ok last restart
    c.in_ok-one.ensures.ok c.in_ok-done.ensures.ok c.in_ok-more.ensures.ok c.in_ok-next.ensures.ok c.bind.ensures).0

pub returns-clause-counts : goal.returns-clause-counts
returns-clause-counts c =
    let value : to_z w128 (of_z w128 c.from.result) ≡ pos c.args.first = passed c.args.first c.from.result c.from.ensures (omega (arith, c.ranges.first)) in
    let last = subst (λ (z : ℤ). Adds c.next_register.new.net c.constant.new.self c.in_ok-last.last c.bits_for-width.result (Constant (wrap c.bits_for-width.result z))) value c.in_ok-last.ensures.ok in
    let below : to_z w128 (of_z w128 c.restart_of-again.result) ≡ pos (c.args.first + 1) -ℤ pos c.args.period = restarted c.args.period c.args.first c.restart_of-again.result c.restart_of-again.ensures (omega (arith, c.ranges.period)) (omega (arith, c.ranges.first)) in
    let restart = subst (λ (z : ℤ). Adds c.constant.new.self c.constant-2.new.self c.in_ok-restart.restart c.bits_for-width.result (Constant (wrap c.bits_for-width.result z))) below c.in_ok-restart.ensures.ok in
    let bits = c.bits_for-width.ensures in
    let holds = bits.holds in
    let most : c.last_of.result ≡ max c.args.first (c.args.period - 1) = c.last_of.ensures in
    let positive = c.requires.positive in
    let room_first : c.args.first < 2 ^ c.bits_for-width.result = omega arith in
    let room_period : c.args.period ≤ 2 ^ c.bits_for-width.result = omega arith in
    (count_circuit bits.some positive room_first room_period c.requires.control c.in_ok-count.ensures.ok last restart
    c.in_ok-one.ensures.ok c.in_ok-done.ensures.ok c.in_ok-more.ensures.ok c.in_ok-next.ensures.ok c.bind.ensures).1

pub returns-clause-width : goal.returns-clause-width
returns-clause-width c =
    let most : c.last_of.result ≡ max c.args.first (c.args.period - 1) = c.last_of.ensures in
    subst (λ (n : ℕ). IsBitsFor n c.bits_for-width.result) most c.bits_for-width.ensures

pub returns-clause-extends : goal.returns-clause-extends
returns-clause-extends c = (returns-clause-ok c).grows.extends

pub returns-clause-count : goal.returns-clause-count
returns-clause-count c =
    let bits = c.bits_for-width.ensures in
    let most : c.last_of.result ≡ max c.args.first (c.args.period - 1) = c.last_of.ensures in
    AddsCount-circuit (max c.args.first (c.args.period - 1)) (subst (λ (n : ℕ). IsBitsFor n c.bits_for-width.result) most bits) c.requires.control c.in_ok-count.ensures.ok c.in_ok-last.ensures.ok c.in_ok-restart.ensures.ok
    c.in_ok-one.ensures.ok c.in_ok-done.ensures.ok c.in_ok-more.ensures.ok c.in_ok-next.ensures.ok c.bind.ensures
