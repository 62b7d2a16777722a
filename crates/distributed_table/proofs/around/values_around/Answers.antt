use Rattle.std.proofs.Common.{◌≡◌, subst, List, ℤ, pos, [], ◌∷◌}
use Rattle.stage_law.specs.Range.{IsRange}
use Rattle.stage_law.specs.Weights.{weights_of}
use Rattle.distributed_table.proofs.AroundLemmas.{IsAround-widened, every}
use Rattle.distributed_table.proofs.around.values_around.Goals as goal

pub returns : goal.returns
returns g c =
    let streams = g.R.Ranges.streams c.args.ranges.now in
    let form : weights_of c.in_ok-value.value ≡ pos 1 ∷ [] = c.in_ok-value.ensures in
    let range = subst (λ (cs : List ℤ). IsRange streams cs every c.range.result) form c.range.ensures in
    let w = c.widened.ensures in
    IsAround-widened streams c.range.result c.widened.result (g.met.R.Ranges.causal c.args.ranges.now) range w.low w.high w.negative w.positive w.low_one w.high_one
