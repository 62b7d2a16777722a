use Rattle.std.proofs.Common.{sym, ◌∙◌, ap, arith}
use Rattle.net_graph.specs.declared.cell.Cell.{Cell}
use Rattle.net_graph.specs.Name.{is_input}
use Rattle.net_module.proofs.Loops.{not_before_more, first_is}
use Rattle.net_module.proofs.write.find_input.Goals as goal

pub loop-place-preserved : goal.loop-place-preserved
loop-place-preserved c =
    not_before_more (λ (c : Cell). is_input c.item) c.args.net.now c.loop-place.place c.loop-place.invariant
    (sym (c.is_input.ensures ∙ ap (λ (c : Cell). is_input c.item) c.cell_of.ensures.cell) ∙ c.if-is_input.false)

pub returns-then-is_input-clause-place : goal.returns-then-is_input-clause-place
returns-then-is_input-clause-place c =
    c.node.ensures ∙ first_is (λ (c : Cell). is_input c.item) c.args.net.now c.loop-place.place (omega (arith, c.loop-place-test.true, c.len-place-end.ensures.count)) c.loop-place.invariant
    (sym (c.is_input.ensures ∙ ap (λ (c : Cell). is_input c.item) c.cell_of.ensures.cell) ∙ c.if-is_input.true)
