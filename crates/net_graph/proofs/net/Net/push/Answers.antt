use Rattle.std.proofs.Common.{◌+◌, length, subst, sym, refl, List, [], ◌∷◌, ◌++◌}
use Rattle.net_graph.specs.declared.cell.Cell.{Cell}
use Rattle.net_graph.specs.Cells.{NetView}
use Rattle.net_graph.specs.WellFormed.{IsNode}
use Rattle.net_graph.proofs.FormedLemmas.{IsWellFormed-push}
use Rattle.net_graph.specs.Numbers.{IsCountedBy}
use Rattle.net_graph.proofs.net.Net.push.Goals as goal

-- the new node reads earlier nodes
pub invariant_of-self-2 : goal.invariant_of-self-2
invariant_of-self-2 c =
    rw c.in_ok-push.ensures.items (record {
      well_formed = IsWellFormed-push _ _ c.self.invariant.well_formed
          (subst (λ (n : NetView). IsNode n.cells (length n.cells) (length n.cells + 1) (record { group = n.group; name = c.args.name; width = c.args.width; item = c.args.item })) (sym c.self.view_is) c.requires);
      numbers = subst (λ (cells : List Cell). IsCountedBy (cells ++ record { group = c.self.inside.group; name = c.args.name; width = c.args.width; item = c.args.item } ∷ []) c.counted_after-counted.result) c.deref.ensures.value (c.counted_after-counted.ensures _ refl);
    })
