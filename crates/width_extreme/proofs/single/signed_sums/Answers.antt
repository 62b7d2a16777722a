use Rattle.std.proofs.Common.{rules, get_or, pos}
use Rattle.std.proofs.lemmas.Int.{to_z-of_z}
use mir.Syntax.{w128}
use mir.Val.{SFits}
use Rattle.width_extreme.proofs.OneWeight.{sum-next, sum-small}
use Rattle.width_extreme.proofs.single.signed_sums.Goals as goal

pub with_weight-sums-requires-clause-above : goal.with_weight-sums-requires-clause-above
with_weight-sums-requires-clause-above c =
    let f : SFits w128 (get_or c.args.weights.now c.loop-weight.weight-index (pos 0)) = search rules in
    simp to_z-of_z (sum-small c.args.weights.now c.loop-weight.weight-index (pos 1) (pos 0) c.loop-weight.sums.above c.requires.above c.loop-weight.invariant.above)

pub with_weight-sums-requires-clause-below : goal.with_weight-sums-requires-clause-below
with_weight-sums-requires-clause-below c =
    let f : SFits w128 (get_or c.args.weights.now c.loop-weight.weight-index (pos 0)) = search rules in
    simp to_z-of_z (sum-small c.args.weights.now c.loop-weight.weight-index (pos 0) (pos 1) c.loop-weight.sums.below c.requires.below c.loop-weight.invariant.below)

pub loop-weight-preserved : goal.loop-weight-preserved
loop-weight-preserved c =
    let row = c.args.weights.now in
    let i = c.loop-weight.weight-index in
    let f : SFits w128 (get_or row i (pos 0)) = search rules in
    record {
      above = sum-next row i (pos 1) (pos 0) c.loop-weight.sums.above c.with_weight-sums.result.above c.loop-weight.invariant.above (simp to_z-of_z at c.with_weight-sums.ensures.above);
      below = sum-next row i (pos 0) (pos 1) c.loop-weight.sums.below c.with_weight-sums.result.below c.loop-weight.invariant.below (simp to_z-of_z at c.with_weight-sums.ensures.below);
    }
