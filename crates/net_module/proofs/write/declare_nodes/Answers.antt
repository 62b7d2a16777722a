use Rattle.std.proofs.Common.{subst, arith}
use Rattle.net_graph.specs.declared.cell.Cell.{Cell}
use Rattle.net_module.specs.Loops.{AddsNode}
use Rattle.net_module.specs.Listed.{listed}
use Rattle.net_module.proofs.Loops.{declared_more, declared_all}
use Rattle.net_module.proofs.write.declare_nodes.Goals as goal

pub loop-place-preserved : goal.loop-place-preserved
loop-place-preserved c =
    declared_more c.args.net.now c.loop-place.place (omega (arith, c.loop-place-test.true, c.len-place-end.ensures.count)) (listed c.args.lists.now) (listed c.loop-place.lists) (listed c.declare_node.new.lists)
    c.loop-place.invariant (subst (λ (d : Cell). AddsNode d c.loop-place.place (listed c.loop-place.lists) (listed c.declare_node.new.lists)) c.cell_of.ensures.cell c.in_ok-declare_node.ensures)

pub returns : goal.returns
returns c = declared_all c.args.net.now c.loop-place.place (listed c.args.lists.now) (listed c.loop-place.lists)
    (omega (arith, c.loop-place-test.false, c.loop-place.auto.place-end, c.len-place-end.ensures.count)) c.loop-place.invariant
