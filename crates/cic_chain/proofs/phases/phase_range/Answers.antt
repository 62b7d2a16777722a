use Rattle.std.proofs.Common.{◌∙◌, ◌≤◌, ◌*◌, ap, subst, List, ℤ, arith}
use Rattle.std.proofs.Math.Nat.{mul-le-mul_left}
use Rattle.stage_law.specs.Range.{IsRange}
use Rattle.stage_law.specs.Streams.{magnitudes}
use Rattle.stage_law.specs.Weights.{weights_of}
use Rattle.cic_chain.specs.Phases.{every}
use Rattle.cic_chain.proofs.PhaseLemmas.{IsPhaseRange-none, IsPhaseRange-more}
use Rattle.cic_chain.proofs.WeightLemmas.{magnitudes-phase}
use Rattle.cic_chain.proofs.phases.phase_range.Goals as goal

pub loop-first-init : goal.loop-first-init
loop-first-init g c = IsPhaseRange-none (g.R.Ranges.streams c.args.ranges.now) c.args.weights.now c.args.factor

pub range-own-requires-clause-room : goal.range-own-requires-clause-room
range-own-requires-clause-room g c =
    let w = c.args.weights.now in
    let most = c.requires.room.0 in
    let is = ap magnitudes (c.in_ok-sum.ensures ∙ c.as_slice.ensures.value ∙ c.in_ok-phase.ensures) in
    let less = magnitudes-phase c.args.factor c.loop-first.first w in
    let all : most * magnitudes (weights_of c.in_ok-sum.sum) ≤ most * magnitudes w = mul-le-mul_left most (omega (arith, is, less)) in
    let room = c.requires.room.2 in
    (most, c.requires.room.1, omega (arith, all, room))

pub loop-first-preserved : goal.loop-first-preserved
loop-first-preserved g c =
    let streams = g.R.Ranges.streams c.args.ranges.now in
    let own = subst (λ (form : List ℤ). IsRange streams form every c.range-own.result) (c.in_ok-sum.ensures ∙ c.as_slice.ensures.value ∙ c.in_ok-phase.ensures) c.range-own.ensures in
    let j = c.joined-range.ensures in
    IsPhaseRange-more streams c.args.weights.now c.args.factor c.loop-first.first c.loop-first.range c.range-own.result c.joined-range.result c.loop-first.invariant own j.low_first j.low_second j.high_first j.high_second j.low_one j.high_one
