use Rattle.std.proofs.Common.{◌≡◌, ◌∙◌, ap, sym, subst, List, Some, slice_get}
use Rattle.net_graph.specs.declared.cell.Leaf.{Leaf}
use Rattle.pipeline_balance.specs.Leaves.{IsLeaf, IsNegatable, all_negative}
use Rattle.fir_pieces.specs.Placed.{leaf_of}
use Rattle.fir_pieces.proofs.SumLemmas.{mapped_all}
use Rattle.fir_pieces.proofs.HeldLemmas.{all_negative-leaves}
use Rattle.fir_pieces.proofs.tree.tree_over.Goals as goal

pub tree-requires-clause-leaves : goal.tree-requires-clause-leaves
tree-requires-clause-leaves c k leaf is =
    mapped_all (IsLeaf c.args.net.now.cells) (leaf_of c.args.nodes.now) c.args.terms.now c.requires.leaves k leaf (subst (λ (xs : List Leaf). slice_get xs k ≡ Some leaf) (c.as_slice.ensures.value ∙ c.in_ok-leaves.ensures) is)

pub tree-requires-clause-leaf_room : goal.tree-requires-clause-leaf_room
tree-requires-clause-leaf_room c all none k leaf is =
    let same = c.as_slice.ensures.value ∙ c.in_ok-leaves.ensures in
    let minus = sym (all_negative-leaves c.args.nodes.now c.args.terms.now) ∙ sym (ap all_negative same) ∙ all in
    mapped_all (IsNegatable c.args.net.now.cells) (leaf_of c.args.nodes.now) c.args.terms.now (c.requires.negatable minus none) k leaf (subst (λ (xs : List Leaf). slice_get xs k ≡ Some leaf) same is)

pub tree-requires-clause-root_room : goal.tree-requires-clause-root_room
tree-requires-clause-root_room c all some =
    let same = c.as_slice.ensures.value ∙ c.in_ok-leaves.ensures in
    c.requires.root_room (sym (all_negative-leaves c.args.nodes.now c.args.terms.now) ∙ sym (ap all_negative same) ∙ all) some
