use Rattle.std.proofs.Common.{refl, arith}
use Rattle.pipeline_balance.proofs.PairLemmas.{AddsNode-plain, AddsNode-shl}
use Rattle.net_graph.proofs.GrowLemmas.{Grows-data}
use Rattle.pipeline_balance.proofs.ShallowLemmas.{PassesPlain-refl, PassesPlain-shl}
use Rattle.pipeline_balance.proofs.pair.shifted.Goals as goal

pub overflow_add-width : goal.overflow_add-width
overflow_add-width c = let h = c.requires.is_leaf.shifts in let e = c.width-width.ensures.width in omega arith

pub shl-requires-clause-wide : goal.shl-requires-clause-wide
shl-requires-clause-wide c = let h = c.requires.is_leaf.shifts in let e = c.width-width.ensures.width in let w = c.width-width.ensures.wide in (omega arith, omega arith)

pub shl-requires-clause-short : goal.shl-requires-clause-short
shl-requires-clause-short c = let h = c.requires.is_leaf.shifts in let e = c.width-width.ensures.width in let w = c.width-width.ensures.wide.0 in omega arith

pub returns-clause-ok : goal.returns-clause-ok
returns-clause-ok c = AddsNode-shl c.args.leaf c.width-width.result _ c.requires.data_group c.requires.is_leaf c.width-width.ensures.width refl c.in_ok-to.ensures.ok

pub returns-then-leaf-eq0-clause-ok : goal.returns-then-leaf-eq0-clause-ok
returns-then-leaf-eq0-clause-ok c = AddsNode-plain _ c.args.leaf c.if-leaf-eq0.true c.requires.is_leaf.within

pub returns-clause-plain : goal.returns-clause-plain
returns-clause-plain c = PassesPlain-shl c.args.leaf.node c.args.leaf.place _ (Grows-data c.requires.data_group c.in_ok-to.ensures.ok refl) c.in_ok-to.ensures.ok

pub returns-then-leaf-eq0-clause-plain : goal.returns-then-leaf-eq0-clause-plain
returns-then-leaf-eq0-clause-plain c = PassesPlain-refl _ c.args.leaf.node
