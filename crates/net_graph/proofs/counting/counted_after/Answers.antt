use Rattle.std.proofs.Common.{◌∙◌}
use Rattle.net_graph.proofs.NumberLemmas.{IsCountedBy-push}
use Rattle.net_graph.proofs.counting.counted_after.Goals as goal

pub returns-in-None : goal.returns-in-None
returns-in-None c cell is = IsCountedBy-push c.args.cells.now cell c.args.counted (is ∙ c.in-None.is) c.requires

pub returns-in-Some : goal.returns-in-Some
returns-in-Some c cell is = c.counted_with.ensures cell (is ∙ c.in-Some.is)
