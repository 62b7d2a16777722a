use Rattle.std.proofs.Common.{◌<◌, length, subst, sym, List}
use Rattle.net_graph.specs.declared.cell.Cell.{Cell}
use Rattle.net_graph.proofs.CellLemmas.{there_read}
use Rattle.net_graph.proofs.netlist.Netlist.width.Goals as goal

-- the cell that is read stands there
pub returns-clause-least : goal.returns-clause-least
returns-clause-least c =
    let inside : c.args.node.place < length c.self.inside.cells.items = subst (λ (n : List Cell). c.args.node.place < length n) (sym c.self.view_is) c.requires in
    (c.self.invariant.well_formed.each _ _ (there_read c.self.inside.cells.items c.args.node.place c.index.result.now inside c.index.ensures)).wide.0

pub returns-clause-most : goal.returns-clause-most
returns-clause-most c =
    let inside : c.args.node.place < length c.self.inside.cells.items = subst (λ (n : List Cell). c.args.node.place < length n) (sym c.self.view_is) c.requires in
    (c.self.invariant.well_formed.each _ _ (there_read c.self.inside.cells.items c.args.node.place c.index.result.now inside c.index.ensures)).wide.1
