use Rattle.std.proofs.Common.{◌≡◌, ◌<◌, length, subst, sym, None, set}
use Rattle.net_graph.specs.declared.cell.Cell.{Cell}
use Rattle.net_graph.specs.Cells.{NetView, cell_at}
use Rattle.net_graph.specs.WellFormed.{IsWellFormed, IsFree}
use Rattle.net_graph.specs.Grow.{named_as}
use Rattle.net_graph.proofs.CellLemmas.{cell_read}
use Rattle.net_graph.proofs.FormedLemmas.{IsWellFormed-named}
use Rattle.net_graph.proofs.net.Net.name_node.Goals as goal

pub invariant_of-self : goal.invariant_of-self
invariant_of-self c =
    let inside : c.args.node.place < length c.self.inside.cells.items = subst (λ (n : NetView). c.args.node.place < length n.cells) (sym c.self.view_is) c.requires.has_node in
    let nameless : (cell_at c.self.inside.cells.items c.args.node.place).name ≡ None = subst (λ (n : NetView). (cell_at n.cells c.args.node.place).name ≡ None) (sym c.self.view_is) c.requires.nameless in
    let free : IsFree c.self.inside.cells.items c.args.name = subst (λ (n : NetView). IsFree n.cells c.args.name) (sym c.self.view_is) c.requires.free in
    let is = cell_read c.self.inside.cells.items c.args.node.place c.index-cell.result.now inside c.index-cell.ensures in
    record {
      well_formed =
          subst (λ (cell : Cell). IsWellFormed (set c.self.inside.cells.items c.args.node.place (named_as cell c.args.name))) is
          (IsWellFormed-named c.self.inside.cells.items c.args.node.place c.args.name c.self.invariant.well_formed inside nameless c.requires.named free);
      numbers = tt;
    }
