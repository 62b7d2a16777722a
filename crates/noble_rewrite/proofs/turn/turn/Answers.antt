use Rattle.std.proofs.Common.{ap, sym, refl, arith, ◌<◌, ◌≤◌, ◌-◌, suc, ◌≡◌, length, Vec, Global, rules}
use Rattle.mr_values.specs.declared.plan.Element.{Element}
use Rattle.noble_rewrite.proofs.TurnSteps.{settled-next, turn-found}
use Rattle.noble_rewrite.proofs.turn.turn.Goals as goal

pub loop-index-preserved : goal.loop-index-preserved
loop-index-preserved c =
    let some : 1 ≤ c.loop-index.index = c.loop-index.invariant.some in
    let at : c.loop-index.index ≡ suc (c.loop-index.index - 1) = omega arith in
    let within : c.loop-index.index < length c.loop-index.elements.items = search rules in
    record {
      settled = settled-next c.loop-index.elements.items (c.loop-index.index - 1) c.loop-index.index c.index.result.now c.index-in-loop-index.result.now c.in_ok-pair.field-0 at within
          c.loop-index.invariant.settled c.index.ensures c.index-in-loop-index.ensures c.in-None.is c.in_ok-pair.ensures;
      same = c.loop-index.invariant.same;
      some = omega arith;
    }

pub returns-in-Some : goal.returns-in-Some
returns-in-Some c =
    let some : 1 ≤ c.loop-index.index = c.loop-index.invariant.some in
    let at : c.loop-index.index ≡ suc (c.loop-index.index - 1) = omega arith in
    let within : c.loop-index.index < length c.loop-index.elements.items = search rules in
    turn-found c.loop-index.elements.items c.args.elements.now.items _ (c.loop-index.index - 1) c.loop-index.index c.index.result.now c.index-in-loop-index.result.now c.in-Some.pair c.in_ok-pair.field-0 _
    (ap (λ (v : Vec Element Global). v.items) (sym c.loop-index.invariant.same)) at within c.loop-index.invariant.settled c.index.ensures c.index-in-loop-index.ensures c.in-Some.is c.in_ok-pair.ensures refl refl refl
