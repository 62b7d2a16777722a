use Rattle.std.proofs.Common.{◌≡◌, ◌∙◌, sym, Bool, true, false}
use Rattle.distributed_table.proofs.TotalLemmas.{are_added, some_added}
use Rattle.distributed_table.proofs.totals.add_total.Goals as goal

apart : (b : Bool) → b ≡ true → b ≡ false → ⊥
apart b is other = let same : true ≡ false = sym is ∙ other in absurd (cc)

pub tree-requires-clause-leaf_room : goal.tree-requires-clause-leaf_room
tree-requires-clause-leaf_room c all = absurd (apart _ all (some_added c.args.leaves.now c.requires.some (are_added c.args.leaves.now c.requires.added)))
