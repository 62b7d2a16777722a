use Rattle.std.proofs.Common.{◌≡◌, ℕ, subst}
use Rattle.net_graph.specs.Cells.{NetView}
use Rattle.net_graph.specs.declared.cell.Node.{Node}
use Rattle.net_graph.specs.declared.name.NameKind.TheVariants.{Copy}
use Rattle.pipeline_balance.specs.Numbered.{AddsNext}
use Rattle.net_graph.proofs.NetLemmas.{Extends-register, Extends-then}
use Rattle.distributed_table.proofs.CopyLemmas.{AddsCopy-circuit, copy_bound, copy_grows}
use Rattle.distributed_table.proofs.copies.add_copy.Goals as goal

owned : {old new : NetView} {group width : ℕ} {node : Node} → group ≡ old.group → AddsNext old new group Copy width node → AddsNext old new old.group Copy width node
owned {old} {new} {group} {width} {node} same a = subst (λ (g : ℕ). AddsNext old new g Copy width node) same a

pub returns-clause-ok : goal.returns-clause-ok
returns-clause-ok c period first bit = AddsCopy-circuit c.requires.data_group c.requires.wide.0 c.requires.narrow (owned c.group-group.ensures c.in_ok-copy.ensures.ok) c.in_ok-shifted.ensures.ok c.in_ok-next.ensures.ok c.bind.ensures c.in_ok-high.ensures.ok period first bit

pub returns-in_err-shifted-clause-extends : goal.returns-in_err-shifted-clause-extends
returns-in_err-shifted-clause-extends c = rw c.in_err-shifted.ensures.err (Extends-register c.in_ok-copy.ensures.ok.adds)

pub returns-in_err-next-clause-extends : goal.returns-in_err-next-clause-extends
returns-in_err-next-clause-extends c = rw c.in_err-next.ensures.err (Extends-then (Extends-register c.in_ok-copy.ensures.ok.adds) c.in_ok-shifted.ensures.ok)

pub returns-in_err-high-clause-extends : goal.returns-in_err-high-clause-extends
returns-in_err-high-clause-extends c = rw c.in_err-high.ensures.err (copy_bound c.requires.data_group c.requires.wide.0 (owned c.group-group.ensures c.in_ok-copy.ensures.ok) c.in_ok-shifted.ensures.ok c.in_ok-next.ensures.ok c.bind.ensures).extends

pub returns-clause-extends : goal.returns-clause-extends
returns-clause-extends c = (copy_grows c.requires.data_group c.requires.wide.0 c.requires.narrow (owned c.group-group.ensures c.in_ok-copy.ensures.ok) c.in_ok-shifted.ensures.ok c.in_ok-next.ensures.ok c.bind.ensures c.in_ok-high.ensures.ok).extends
