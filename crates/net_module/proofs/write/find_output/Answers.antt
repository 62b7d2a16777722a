use Rattle.std.proofs.Common.{sym, ◌∙◌, ap, arith}
use Rattle.net_graph.specs.declared.cell.Cell.{Cell}
use Rattle.net_module.specs.Written.{has_kind, is_output_kind}
use Rattle.net_module.proofs.Loops.{not_before_more, first_is}
use Rattle.net_module.proofs.write.find_output.Goals as goal

pub loop-place-preserved : goal.loop-place-preserved
loop-place-preserved c =
    not_before_more (λ (c : Cell). has_kind is_output_kind c.name) c.args.net.now c.loop-place.place c.loop-place.invariant
    (sym (c.is_output.ensures ∙ ap (λ (c : Cell). has_kind is_output_kind c.name) c.cell_of.ensures.cell) ∙ c.if-is_output.false)

pub returns-then-is_output-clause-place : goal.returns-then-is_output-clause-place
returns-then-is_output-clause-place c =
    c.node.ensures ∙ first_is (λ (c : Cell). has_kind is_output_kind c.name) c.args.net.now c.loop-place.place (omega (arith, c.loop-place-test.true, c.len-place-end.ensures.count)) c.loop-place.invariant
    (sym (c.is_output.ensures ∙ ap (λ (c : Cell). has_kind is_output_kind c.name) c.cell_of.ensures.cell) ∙ c.if-is_output.true)
