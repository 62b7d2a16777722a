-- A net whose registers have their nexts can be finished.
use Rattle.std.proofs.Common.{List, Option, Some, None, IsSome, IsNone}
use Rattle.net_graph.specs.declared.cell.Cell.{Cell}
use Rattle.net_graph.specs.declared.cell.Item.{Item}
use Rattle.net_graph.specs.declared.netlist.NetFault.{NetFault}
use Rattle.net_graph.specs.declared.netlist.NetFault.TheVariants.{Unbound}
use Rattle.net_graph.specs.Cells.{cell_at}
use Rattle.net_graph.specs.WellFormed.{IsBound, IsFirstUnbound}
use Rattle.net_graph.proofs.CellLemmas.{cell_at-there}

some_none : (o : Option Item) → IsSome o → IsNone o → ⊥
some_none None some none = absurd (cc)
some_none (Some i) some none = absurd (cc)

pub IsBound-finishes : (cells : List Cell) (fault : NetFault) → IsBound cells → IsFirstUnbound cells fault → ⊥
IsBound-finishes cells (Unbound id) b u =
    let cell = cell_at cells id in
    let there = cell_at-there cells id u.0 in
    some_none cell.item (b.each id cell there) (u.1 cell there)
