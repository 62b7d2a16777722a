use Rattle.std.proofs.Common.{Option, subst, refl}
use Rattle.net_graph.specs.declared.counting.Counted.{Counted}
use Rattle.net_graph.specs.Numbers.{IsCountedBy}
use Rattle.net_graph.proofs.counting.is_next.Goals as goal

pub returns-then-is_kept : goal.returns-then-is_kept
returns-then-is_kept c _ = subst (λ (kept : Option Counted). IsCountedBy c.args.cells.now kept) (c.if-is_kept.ensures refl) c.requires
