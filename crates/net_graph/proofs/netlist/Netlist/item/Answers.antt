use Rattle.std.proofs.Common.{◌<◌, length, subst, sym, List, Option, None, IsSome}
use Rattle.net_graph.specs.declared.cell.Cell.{Cell}
use Rattle.net_graph.specs.declared.cell.Item.{Item}
use Rattle.net_graph.proofs.CellLemmas.{there_read}
use Rattle.net_graph.proofs.netlist.Netlist.item.Goals as goal

-- each register has its next
pub unreachable-requires : goal.unreachable-requires
unreachable-requires c =
    let inside : c.args.node.place < length c.self.inside.cells.items = subst (λ (n : List Cell). c.args.node.place < length n) (sym c.self.view_is) c.requires in
    let some = c.self.invariant.bound.each _ _ (there_read c.self.inside.cells.items c.args.node.place c.index.result.now inside c.index.ensures) in
    let none : IsSome {T = Item} None = subst (λ (i : Option Item). IsSome i) c.in-None.is some in
    cc
