use Rattle.std.proofs.Common.{◌<◌, length, subst, sym, set, refl}
use Rattle.net_graph.specs.declared.cell.Cell.{Cell}
use Rattle.net_graph.specs.Cells.{NetView, cell_at}
use Rattle.net_graph.specs.Numbers.{IsSound}
use Rattle.net_graph.specs.Grow.{IsUnbound, bound_to}
use Rattle.net_graph.proofs.CellLemmas.{cell_read, cell_at-there}
use Rattle.net_graph.proofs.FormedLemmas.{IsWellFormed-bind}
use Rattle.net_graph.proofs.NumberLemmas.{IsCountedBy-set}
use Rattle.net_graph.proofs.net.Net.bind.Goals as goal

pub invariant_of-self : goal.invariant_of-self
invariant_of-self c =
    let unbound : IsUnbound c.self.inside.cells.items c.args.register = subst (λ (n : NetView). IsUnbound n.cells c.args.register) (sym c.self.view_is) c.requires.unbound in
    let has : c.args.next.place < length c.self.inside.cells.items = subst (λ (n : NetView). c.args.next.place < length n.cells) (sym c.self.view_is) c.requires.has_next in
    let is = cell_read c.self.inside.cells.items c.args.register.place c.index-cell.result.now unbound.inside c.index-cell.ensures in
    let was = cell_at c.self.inside.cells.items c.args.register.place in
    subst (λ (cell : Cell). IsSound (set c.self.inside.cells.items c.args.register.place (bound_to cell c.args.next)) c.self.inside.counted) is (record {
      well_formed = IsWellFormed-bind c.self.inside.cells.items c.args.register.place c.args.next c.self.invariant.well_formed unbound.inside unbound.nextless has;
      numbers = IsCountedBy-set c.self.inside.cells.items c.args.register.place was (bound_to was c.args.next) c.self.inside.counted (cell_at-there c.self.inside.cells.items c.args.register.place unbound.inside) refl c.self.invariant.numbers;
    })
