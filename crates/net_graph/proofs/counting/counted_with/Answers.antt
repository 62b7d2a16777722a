use Rattle.std.proofs.Common.{refl}
use Rattle.net_graph.proofs.NumberLemmas.{IsCountedBy-next}
use Rattle.net_graph.proofs.counting.counted_with.Goals as goal

pub returns-then-is_next : goal.returns-then-is_next
returns-then-is_next c cell is = IsCountedBy-next c.args.cells.now cell c.args.name c.counted_to.result is (c.if-is_next.ensures refl) c.counted_to.ensures
