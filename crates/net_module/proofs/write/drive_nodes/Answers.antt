use Rattle.std.proofs.Common.{◌<◌, length, sym, subst, arith}
use Rattle.net_graph.specs.declared.cell.Cell.{Cell}
use Rattle.net_graph.specs.Cells.{cell_at}
use Rattle.net_graph.specs.WellFormed.{IsWidth, OperandsBelow}
use Rattle.net_graph.proofs.CellLemmas.{cell_at-there}
use Rattle.net_module.specs.Loops.{AddsDriver}
use Rattle.net_module.proofs.Loops.{driven_more, driven_all, operands_near}
use Rattle.net_module.proofs.write.drive_nodes.Goals as goal

pub drive_node-requires-clause-wide : goal.drive_node-requires-clause-wide
drive_node-requires-clause-wide c =
    let inside : c.loop-place.place < length c.args.net.now = omega (arith, c.loop-place-test.true, c.len-place-end.ensures.count) in
    let reads = c.requires.netlist.well_formed.each c.loop-place.place (cell_at c.args.net.now c.loop-place.place) (cell_at-there c.args.net.now c.loop-place.place inside) in
    subst (λ (d : Cell). IsWidth d.width) (sym c.cell_of.ensures.cell) reads.wide

pub drive_node-requires-clause-operands : goal.drive_node-requires-clause-operands
drive_node-requires-clause-operands c =
    let inside : c.loop-place.place < length c.args.net.now = omega (arith, c.loop-place-test.true, c.len-place-end.ensures.count) in
    let cell = cell_at c.args.net.now c.loop-place.place in
    let reads = c.requires.netlist.well_formed.each c.loop-place.place cell (cell_at-there c.args.net.now c.loop-place.place inside) in
    let n = length c.args.numbers.now in
    subst (λ (d : Cell). OperandsBelow n n d.width d.item) (sym c.cell_of.ensures.cell)
    (operands_near cell.item c.loop-place.place (length c.args.net.now) cell.width n reads.operands (omega (arith, inside, c.requires.count)) (sym c.requires.count))

pub loop-place-preserved : goal.loop-place-preserved
loop-place-preserved c =
    driven_more c.args.net.now c.loop-place.place (omega (arith, c.loop-place-test.true, c.len-place-end.ensures.count)) c.args.numbers.now
    c.args.drivers.now.assigns.items c.loop-place.drivers.assigns.items c.drive_node.new.drivers.assigns.items
    c.args.drivers.now.blocks.items c.loop-place.drivers.blocks.items c.drive_node.new.drivers.blocks.items
    c.loop-place.invariant
    (subst (λ (d : Cell). AddsDriver c.args.numbers.now d c.loop-place.place c.loop-place.drivers.assigns.items c.drive_node.new.drivers.assigns.items c.loop-place.drivers.blocks.items c.drive_node.new.drivers.blocks.items) c.cell_of.ensures.cell c.in_ok-drive_node.ensures)

pub returns : goal.returns
returns c =
    driven_all c.args.numbers.now c.args.net.now c.loop-place.place
    c.args.drivers.now.assigns.items c.loop-place.drivers.assigns.items c.args.drivers.now.blocks.items c.loop-place.drivers.blocks.items
    (omega (arith, c.loop-place-test.false, c.loop-place.auto.place-end, c.len-place-end.ensures.count)) c.loop-place.invariant
