use Rattle.std.proofs.Common.{◌≡◌, List, take, subst, arith}
use Rattle.std.proofs.lemmas.List.{take_all}
use Rattle.mr_values.specs.declared.plan.Element.{Element}
use Rattle.impulse_phase.proofs.Prefixes.{TellsPrefix, tells_more, response_of, gives_values, within_reach, linear_take, linear_at, is_table, is_ahead, has_room}
use Rattle.impulse_phase.proofs.table.Response.of.Goals as goal

pub through-requires-clause-linear : goal.through-requires-clause-linear
through-requires-clause-linear c = linear_at c.args.elements.now c.loop-element.element-index c.element-item.result c.requires.linear c.loop-element-test.true c.element-item.is

pub through-requires-clause-table : goal.through-requires-clause-table
through-requires-clause-table c =
    let i = c.loop-element.element-index in
    is_table (take i c.args.elements.now) c.loop-element.response (linear_take c.args.elements.now i c.requires.linear) c.loop-element.invariant

pub through-requires-clause-ahead : goal.through-requires-clause-ahead
through-requires-clause-ahead c =
    let i = c.loop-element.element-index in
    is_ahead (take i c.args.elements.now) c.loop-element.response (linear_take c.args.elements.now i c.requires.linear) c.loop-element.invariant

pub through-requires-clause-room : goal.through-requires-clause-room
through-requires-clause-room c =
    has_room c.args.elements.now c.loop-element.element-index c.element-item.result c.loop-element.response c.requires.linear c.requires.modest c.loop-element-test.true c.element-item.is
    c.loop-element.invariant

pub loop-element-preserved : goal.loop-element-preserved
loop-element-preserved c =
    tells_more c.args.elements.now c.loop-element.element-index c.element-item.result c.loop-element.response c.in_ok-response-2.response c.loop-element-test.true c.element-item.is c.loop-element.invariant
    c.in_ok-response-2.ensures

pub returns : goal.returns
returns c =
    let es = c.args.elements.now in
    let i = c.loop-element.element-index in
    let all : take i es ≡ es = take_all i es (omega (arith, c.loop-element-test.false)) in
    let prefix = subst (λ (ds : List Element). TellsPrefix ds c.loop-element.response) all c.loop-element.invariant in
    record {
      values = gives_values es c.loop-element.response c.requires.linear prefix;
      told = response_of es c.loop-element.response prefix;
      within = within_reach es c.loop-element.response c.requires.linear prefix;
    }
