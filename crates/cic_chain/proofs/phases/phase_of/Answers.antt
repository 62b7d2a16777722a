use Rattle.std.proofs.Common.{◌≡◌, ◌∙◌, ap, List, ℤ, ◌++◌, [], ◌∷◌, drop, arith, pos, get_or, to_z, of_z, ◌+◌}
use mir.Syntax.{w128}
use Rattle.mr_values.specs.Sequence.{phase}
use Rattle.cic_chain.proofs.PhaseLemmas.{phase-start, phase-more, phase-end, back_again}
use Rattle.cic_chain.proofs.phases.phase_of.Goals as goal

pub take-init : goal.take-init
take-init c = rw c.new-taken.ensures.items (phase-start c.args.factor c.args.first c.args.weights.now)

pub take-preserved : goal.take-preserved
take-preserved c =
    let w = c.args.weights.now in
    let factor = c.args.factor in
    let place = c.take.place in
    let is : to_z w128 (of_z w128 c.weight_at-weight.result) ≡ get_or w place (pos 0) = back_again c.weight_at-weight.result c.weight_at-weight.type_inv ∙ c.weight_at-weight.ensures in
    ap (λ (l : List ℤ). l ++ phase factor 0 (drop (place + factor) w)) (c.in_ok-push.ensures.items ∙ ap (λ (z : ℤ). c.take.taken.items ++ z ∷ []) is)
    ∙ phase-more factor c.args.first place w c.take.taken.items (pos 0) c.requires.some c.take-test.true c.take.invariant

pub returns : goal.returns
returns c = phase-end c.args.factor c.args.first c.take.place c.args.weights.now c.take.taken.items (omega arith) c.take.invariant
