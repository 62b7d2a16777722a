use Rattle.std.proofs.Common.{◌<◌, length, subst, sym}
use Rattle.net_graph.specs.Cells.{NetView}
use Rattle.net_graph.proofs.CellLemmas.{there_read}
use Rattle.net_graph.proofs.net.Net.width.Goals as goal

-- the cell that is read stands there
pub returns-clause-wide : goal.returns-clause-wide
returns-clause-wide c =
    let inside : c.args.node.place < length c.self.inside.cells.items = subst (λ (n : NetView). c.args.node.place < length n.cells) (sym c.self.view_is) c.requires in
    (c.self.invariant.well_formed.each _ _ (there_read c.self.inside.cells.items c.args.node.place c.index.result.now inside c.index.ensures)).wide
