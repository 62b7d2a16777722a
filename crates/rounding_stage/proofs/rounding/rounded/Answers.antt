use Rattle.std.proofs.Common.{◌≡◌, ◌^◌, ◌-◌, ℤ, ◌+ℤ◌, ◌∙◌, subst, to_z, of_z, arith}
use Rattle.std.proofs.lemmas.Int.{to_z-of_z}
use mir.Syntax.{w128}
use Rattle.mr_values.specs.Width.{floor_quotient}
use Rattle.stage_law.specs.declared.ranges.Range.{Range}
use Rattle.rounding_stage.specs.Map.{IsMap}
use Rattle.rounding_stage.proofs.MapLemmas.{fits_in, IsMap-then}
use Rattle.net_graph.proofs.NetLemmas.{Extends-trans}
use Rattle.rounding_stage.proofs.rounding.rounded.Goals as goal

pub returns-in_ok-to-in-Floor-clause-ok : goal.returns-in_ok-to-in-Floor-clause-ok
returns-in_ok-to-in-Floor-clause-ok c = rw c.in-Floor.is c.in_ok-to-in-Floor.ensures.ok

pub returns-in_ok-to-in-HalfUp-clause-ok : goal.returns-in_ok-to-in-HalfUp-clause-ok
returns-in_ok-to-in-HalfUp-clause-ok c =
    let back : to_z w128 (of_z w128 c.power-half.result) ≡ c.power-half.result = to_z-of_z w128 c.power-half.result (fits_in (c.args.shift - 1) c.power-half.result c.power-half.ensures (omega arith)) in
    let second = subst (λ (r : Range). IsMap c.sum_node.new.net c.floor_node-in-HalfUp.new.net c.in_ok-sum-in-HalfUp.sum r (λ v. floor_quotient v (2 ^ c.args.shift)) 0 c.in_ok-to-in-HalfUp.to) c.raised-more.ensures c.in_ok-to-in-HalfUp.ensures.ok in
    let both = IsMap-then c.in_ok-sum-in-HalfUp.ensures.ok second in
    rw c.in-HalfUp.is (subst (λ (h : ℤ). IsMap c.args.net.now c.floor_node-in-HalfUp.new.net c.args.node c.args.range (λ v. floor_quotient (v +ℤ h) (2 ^ c.args.shift)) 1 c.in_ok-to-in-HalfUp.to) (back ∙ c.power-half.ensures) both)

pub returns-in_ok-to-in-HalfUp-clause-extends : goal.returns-in_ok-to-in-HalfUp-clause-extends
returns-in_ok-to-in-HalfUp-clause-extends c = Extends-trans _ _ _ c.in_ok-sum-in-HalfUp.ensures.extends c.in_ok-to-in-HalfUp.ensures.extends

pub returns-in_err-to-in-HalfUp-clause-extends : goal.returns-in_err-to-in-HalfUp-clause-extends
returns-in_err-to-in-HalfUp-clause-extends c = Extends-trans _ _ _ c.in_ok-sum-in-HalfUp.ensures.extends c.in_err-to-in-HalfUp.ensures.extends
