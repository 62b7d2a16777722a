use Rattle.std.proofs.Common.{rules, refl}
use Rattle.std.proofs.lemmas.Int.{to_z-of_z}
use mir.Syntax.{w128}
use mir.Val.{SFits}
use Rattle.chain_build.proofs.Kept.{extremes_more, extremes_all}
use Rattle.chain_build.proofs.extremes.extremes_of.Goals as goal

pub loop-kept-preserved : goal.loop-kept-preserved
loop-kept-preserved c =
    let fits : SFits w128 c.kept-item.result.value = search rules in
    extremes_more c.args.peaks.now c.loop-kept.kept-index c.loop-kept.told.items _ c.kept-item.result _ c.loop-kept.invariant c.loop-kept-test.true c.kept-item.is refl (simp to_z-of_z at c.in_ok-push.ensures.items)

pub returns : goal.returns
returns c = extremes_all c.args.peaks.now c.loop-kept.kept-index c.loop-kept.told.items c.loop-kept.invariant c.loop-kept-test.false
