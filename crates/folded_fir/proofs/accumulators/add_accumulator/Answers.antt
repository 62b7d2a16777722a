use Rattle.std.proofs.Common.{◌≡◌, ◌∙◌, ℕ, subst}
use Rattle.net_graph.specs.Cells.{NetView}
use Rattle.net_graph.specs.declared.cell.Node.{Node}
use Rattle.net_graph.specs.declared.name.NameKind.TheVariants.{Register}
use Rattle.net_graph.proofs.NetLemmas.{Extends-adds, Extends-then, Extends-trans, Extends-register, IsUnbound-added, IsUnbound-then}
use Rattle.pipeline_balance.specs.Numbered.{AddsNext}
use Rattle.folded_fir.proofs.AccumulatorLemmas.{AddsAccumulator-circuit, accumulator_grows}
use Rattle.folded_fir.proofs.accumulators.add_accumulator.Goals as goal

owned : {old new : NetView} {group own width : ℕ} {node : Node} → group ≡ own → AddsNext old new group Register width node → AddsNext old new own Register width node
owned {old} {new} {group} {own} {width} {node} same a = subst (λ (g : ℕ). AddsNext old new g Register width node) same a

pub returns-in_err-sum-clause-extends : goal.returns-in_err-sum-clause-extends
returns-in_err-sum-clause-extends c = rw c.in_err-sum.ensures.err (Extends-adds c.in_ok-zero.ensures.ok)

pub returns-in_err-kept-clause-extends : goal.returns-in_err-kept-clause-extends
returns-in_err-kept-clause-extends c = rw c.in_err-kept.ensures.err (Extends-trans _ _ _ (Extends-adds c.in_ok-zero.ensures.ok) (Extends-register c.in_ok-sum.ensures.ok.adds))

pub returns-in_err-next-clause-extends : goal.returns-in_err-next-clause-extends
returns-in_err-next-clause-extends c = rw c.in_err-next.ensures.err (Extends-then (Extends-trans _ _ _ (Extends-adds c.in_ok-zero.ensures.ok) (Extends-register c.in_ok-sum.ensures.ok.adds)) c.in_ok-kept.ensures.ok)

pub bind-requires-clause-unbound : goal.bind-requires-clause-unbound
bind-requires-clause-unbound c = IsUnbound-then (IsUnbound-then (IsUnbound-added c.in_ok-sum.ensures.ok.adds) c.in_ok-kept.ensures.ok) c.in_ok-next.ensures.ok

pub returns-clause-ok : goal.returns-clause-ok
returns-clause-ok c = AddsAccumulator-circuit c.requires.data_group c.requires.wide.0 c.requires.has_clear c.requires.has_operand c.in_ok-zero.ensures.ok (owned (c.group-group.ensures ∙ c.in_ok-zero.ensures.ok.group) c.in_ok-sum.ensures.ok) c.in_ok-kept.ensures.ok c.in_ok-next.ensures.ok c.bind.ensures

pub returns-clause-extends : goal.returns-clause-extends
returns-clause-extends c = (accumulator_grows c.requires.data_group c.requires.wide.0 c.requires.has_clear c.requires.has_operand c.in_ok-zero.ensures.ok (owned (c.group-group.ensures ∙ c.in_ok-zero.ensures.ok.group) c.in_ok-sum.ensures.ok) c.in_ok-kept.ensures.ok c.in_ok-next.ensures.ok c.bind.ensures).extends
