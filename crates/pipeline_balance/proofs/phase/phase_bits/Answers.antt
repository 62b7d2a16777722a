use Rattle.std.proofs.Common.{◌≡◌, ◌∙◌, ◌≤◌, ◌^◌, length, length-append, arith, suc, subst, ℕ, sym}
use Rattle.net_graph.proofs.NetLemmas.{Extends-refl, Extends-trans}
use Rattle.net_graph.proofs.GrowLemmas.{Grows-trans, IsOfControl-later}
use Rattle.pipeline_balance.specs.Gate.{IsCounter}
use Rattle.pipeline_balance.specs.Phase.{IsTickOfPhase}
use Rattle.pipeline_balance.proofs.TakenLemmas.{IsBitOf-later}
use Rattle.pipeline_balance.proofs.CostLemmas.{SameAdders-trans, SameNamed-trans}
use Rattle.pipeline_balance.proofs.ShapeLemmas.{KeepsShapes-trans}
use Rattle.pipeline_balance.proofs.PhaseLemmas.{IsIndexOf-later, IsPhases-none, IsPhases-push, counter_control, names_of_control}
use Rattle.pipeline_balance.proofs.phase.phase_bits.Goals as goal

pub phase_index-requires-clause-room : goal.phase_index-requires-clause-room
phase_index-requires-clause-room c = let bits = c.bits_for-width.ensures.holds in let some = c.requires.some in let value = c.from.ensures in omega arith

pub phase_index-requires-clause-is_control : goal.phase_index-requires-clause-is_control
phase_index-requires-clause-is_control c = counter_control c.in_ok-on.ensures.ok

pub phase_index-requires-clause-has_on : goal.phase_index-requires-clause-has_on
phase_index-requires-clause-has_on c = c.in_ok-on.ensures.ok.bit_of.within

-- the counter's bit and the index are made
pub loop-phase-init : goal.loop-phase-init
loop-phase-init c =
    let ticks = c.in_ok-on.ensures.ok in
    let numbers = c.in_ok-index.ensures.ok _ _ c.requires.positive ticks.bit_of in (
      rw c.new-bits.ensures.items (omega arith),
      Extends-refl _,
      rw c.new-bits.ensures.items (IsPhases-none c.args.period c.args.first c.args.count (Grows-trans ticks.grows numbers.grows) (names_of_control ticks.names numbers.names) (SameAdders-trans ticks.adders numbers.adders) (SameNamed-trans ticks.named numbers.named) (KeepsShapes-trans ticks.linear numbers.linear)),
    )

pub phase_bit-requires-clause-control : goal.phase_bit-requires-clause-control
phase_bit-requires-clause-control c = c.loop-phase.invariant.2.grows.group ∙ c.requires.control

pub phase_bit-requires-clause-on_control : goal.phase_bit-requires-clause-on_control
phase_bit-requires-clause-on_control c =
    let numbers = c.in_ok-index.ensures.ok _ _ c.requires.positive c.in_ok-on.ensures.ok.bit_of in
    IsOfControl-later _ _ _ c.loop-phase.invariant.1 (IsOfControl-later _ _ _ numbers.grows.extends (counter_control c.in_ok-on.ensures.ok))

pub phase_bit-requires-clause-index_control : goal.phase_bit-requires-clause-index_control
phase_bit-requires-clause-index_control c =
    let numbers = c.in_ok-index.ensures.ok _ _ c.requires.positive c.in_ok-on.ensures.ok.bit_of in
    IsOfControl-later _ _ _ c.loop-phase.invariant.1 numbers.index_of.control

pub phase_bit-requires-clause-has_on : goal.phase_bit-requires-clause-has_on
phase_bit-requires-clause-has_on c =
    let there = c.in_ok-on.ensures.ok.bit_of.within in let longer = c.in_ok-index.ensures.extends.longer in let more = c.loop-phase.invariant.1.longer in omega arith

pub phase_bit-requires-clause-has_index : goal.phase_bit-requires-clause-has_index
phase_bit-requires-clause-has_index c =
    let numbers = c.in_ok-index.ensures.ok _ _ c.requires.positive c.in_ok-on.ensures.ok.bit_of in
    let there = numbers.index_of.within in let more = c.loop-phase.invariant.1.longer in omega arith

-- one more bit
pub loop-phase-preserved : goal.loop-phase-preserved
loop-phase-preserved c =
    let i = c.loop-phase.invariant in
    let ticks = c.in_ok-on.ensures.ok in
    let numbers = c.in_ok-index.ensures.ok _ _ c.requires.positive ticks.bit_of in
    let bits = c.bits_for-width.ensures.holds in
    let some = c.requires.some in
    let value = c.from.ensures in
    let room : c.args.count ≤ 2 ^ c.bits_for-width.result = omega arith in
    let chosen = c.in_ok-bit.ensures.ok _ _ c.args.count c.requires.positive c.loop-phase-test.true room (IsBitOf-later (IsBitOf-later ticks.bit_of numbers.grows.extends) i.1) (IsIndexOf-later numbers.index_of i.1) in
    let here = subst (λ (n : ℕ). IsCounter c.loop-phase.net c.phase_bit.new.net (IsTickOfPhase c.args.period c.args.first c.args.count n) c.in_ok-bit.bit) (sym i.0) chosen in
    let count : length c.push.new.self.items ≡ suc (length c.loop-phase.bits.items) = rw (c.in_ok-push.ensures.items, length-append) (omega arith) in (
      omega (arith, count, i.0),
      Extends-trans _ _ _ i.1 chosen.grows.extends,
      rw c.in_ok-push.ensures.items (IsPhases-push _ _ i.2 here),
    )

pub returns-in_err-index-clause-extends : goal.returns-in_err-index-clause-extends
returns-in_err-index-clause-extends c = Extends-trans _ _ _ c.in_ok-on.ensures.ok.grows.extends c.in_err-index.ensures.extends

pub returns-in_err-bit-clause-extends : goal.returns-in_err-bit-clause-extends
returns-in_err-bit-clause-extends c = Extends-trans _ _ _ c.loop-phase.invariant.2.grows.extends c.in_err-bit.ensures.extends

pub returns-in_err-push-clause-extends : goal.returns-in_err-push-clause-extends
returns-in_err-push-clause-extends c = Extends-trans _ _ _ c.loop-phase.invariant.2.grows.extends c.in_ok-bit.ensures.extends
