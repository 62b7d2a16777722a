use Rattle.std.proofs.Common.{◌≡◌, ◌-◌, ◌<◌, length, arith, ap}
use Rattle.stage_law.specs.Rising.{behind_at}
use Rattle.stage_law.specs.declared.weights.Weight.{Weight}
use Rattle.stage_law.proofs.WeightLemmas.{length-in}
use Rattle.width_extreme.proofs.Walk.{read-weight}
use Rattle.width_extreme.proofs.extreme.reach_of.Goals as goal

pub returns-else-count-eq0-clause-reach : goal.returns-else-count-eq0-clause-reach
returns-else-count-eq0-clause-reach c =
    let ws = c.args.sum.now.weights.items in
    let last = c.len-count.result - 1 in
    let some : 0 < length ws = omega (arith, c.if-count-eq0.false, c.len-count.ensures) in
    let same : last ≡ length ws - 1 = omega (arith, c.len-count.ensures) in
    let own : c.index.result.now.behind ≡ behind_at ws last = ap (λ (w : Weight). w.behind) (read-weight ws last c.index.result.now (omega (arith, some, same)) c.index.ensures) in
    omega (arith, c.from.ensures, own, ap (behind_at ws) same, length-in ws c.args.sum.now.rising some)
