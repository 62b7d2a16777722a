use Rattle.std.proofs.Common.{◌≡◌, ◌∙◌, ◌+◌, ◌≤◌, ◌<◌, ◌^◌, length, length-append, arith, suc, subst, ℕ, sym, get_or, refl}
use Rattle.net_graph.proofs.NetLemmas.{Extends-refl, Extends-trans}
use Rattle.pipeline_balance.specs.Gate.{IsCounter}
use Rattle.pipeline_balance.specs.Ticks.{IsTickAfter}
use Rattle.pipeline_balance.proofs.TicksLemmas.{AddsBits-none, AddsBits-push, IsCountOf-later}
use Rattle.pipeline_balance.proofs.ticks.count_bits.Goals as goal

pub loop-k-init : goal.loop-k-init
loop-k-init c =
    let ticks = c.in_ok-count.ensures.ok in (
      rw c.new-bits.ensures.items (omega arith),
      Extends-refl _,
      rw c.new-bits.ensures.items (AddsBits-none (IsTickAfter c.args.period c.args.first c.args.distances.now) ticks.grows ticks.names ticks.adders ticks.named ticks.linear),
    )

pub count_bit-requires-clause-control : goal.count_bit-requires-clause-control
count_bit-requires-clause-control c = c.loop-k.invariant.2.grows.group ∙ c.requires.control

pub count_bit-requires-clause-has_count : goal.count_bit-requires-clause-has_count
count_bit-requires-clause-has_count c = let there = c.in_ok-count.ensures.counts.within in let more = c.loop-k.invariant.1.longer in omega arith

-- one more bit
pub loop-k-preserved : goal.loop-k-preserved
loop-k-preserved c =
    let i = c.loop-k.invariant in
    let counted = c.in_ok-count.ensures in
    let holds = counted.width.holds in
    let positive = c.requires.positive in
    let distance : ℕ = get_or c.args.distances.now c.loop-k.k 0 in
    let room : c.args.first + c.args.period ≤ 2 ^ c.in_ok-count.count.width = omega arith in
    let below : distance < c.args.period = c.requires.below c.loop-k.k c.loop-k-test.true in
    let told = c.in_ok-bit.ensures.ok c.args.period c.args.first distance positive below refl room (IsCountOf-later counted.counts i.1) in
    let here = subst (λ (n : ℕ). IsCounter c.loop-k.net c.count_bit.new.net (IsTickAfter c.args.period c.args.first c.args.distances.now n) c.in_ok-bit.bit) (sym i.0) told in
    let count : length c.push.new.self.items ≡ suc (length c.loop-k.bits.items) = rw (c.in_ok-push.ensures.items, length-append) (omega arith) in (
      omega (arith, count, i.0),
      Extends-trans _ _ _ i.1 c.in_ok-bit.ensures.extends,
      rw c.in_ok-push.ensures.items (AddsBits-push (IsTickAfter c.args.period c.args.first c.args.distances.now) _ _ i.2 here),
    )

pub returns-in_err-bit-clause-extends : goal.returns-in_err-bit-clause-extends
returns-in_err-bit-clause-extends c = Extends-trans _ _ _ c.loop-k.invariant.2.grows.extends c.in_err-bit.ensures.extends

pub returns-in_err-push-clause-extends : goal.returns-in_err-push-clause-extends
returns-in_err-push-clause-extends c = Extends-trans _ _ _ c.loop-k.invariant.2.grows.extends c.in_ok-bit.ensures.extends
