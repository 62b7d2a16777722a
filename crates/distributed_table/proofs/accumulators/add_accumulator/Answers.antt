use Rattle.std.proofs.Common.{◌≡◌, ◌∙◌, ℕ, sym, subst}
use Rattle.net_graph.specs.Cells.{NetView}
use Rattle.net_graph.specs.declared.cell.Node.{Node}
use Rattle.net_graph.specs.declared.name.NameKind.TheVariants.{Register}
use Rattle.net_graph.specs.Grow.{AddsRegister}
use Rattle.net_graph.specs.WellFormed.{IsFree}
use Rattle.net_graph.proofs.NetLemmas.{Extends-adds, Extends-then, Extends-trans, Extends-register, IsUnbound-added, IsUnbound-then}
use Rattle.pipeline_balance.specs.Numbered.{name_of}
use Rattle.pipeline_balance.proofs.NumberedLemmas.{free_adds}
use Rattle.distributed_table.proofs.SerialLemmas.{AddsAccumulator-circuit, serial_grows, serial_names}
use Rattle.distributed_table.proofs.accumulators.add_accumulator.Goals as goal

owned : {old new : NetView} {group own number width : ℕ} {node : Node} → group ≡ own → AddsRegister old new node (name_of group Register number) width → AddsRegister old new node (name_of own Register number) width
owned {old} {new} {group} {own} {number} {width} {node} same a = subst (λ (g : ℕ). AddsRegister old new node (name_of g Register number) width) same a

pub returns-in_err-negated-clause-extends : goal.returns-in_err-negated-clause-extends
returns-in_err-negated-clause-extends c = rw c.in_err-negated.ensures.err (Extends-adds c.in_ok-zero.ensures.ok)

pub register-requires-clause-free : goal.register-requires-clause-free
register-requires-clause-free c =
    let same : c.args.net.now.group ≡ c.group-group.result = sym (c.group-group.ensures ∙ c.in_ok-negated.ensures.ok.group ∙ c.in_ok-zero.ensures.ok.group) in
    subst (λ (g : ℕ). IsFree c.sub.new.self.cells (name_of g Register c.args.number)) same (free_adds c.in_ok-negated.ensures.ok _ (free_adds c.in_ok-zero.ensures.ok _ c.requires.free))

pub returns-in_err-sum-clause-extends : goal.returns-in_err-sum-clause-extends
returns-in_err-sum-clause-extends c = rw c.in_err-sum.ensures.err (Extends-then (Extends-adds c.in_ok-zero.ensures.ok) c.in_ok-negated.ensures.ok)

pub returns-in_err-doubled-clause-extends : goal.returns-in_err-doubled-clause-extends
returns-in_err-doubled-clause-extends c = rw c.in_err-doubled.ensures.err (Extends-trans _ _ _ (Extends-then (Extends-adds c.in_ok-zero.ensures.ok) c.in_ok-negated.ensures.ok) (Extends-register c.in_ok-sum.ensures.ok))

pub returns-in_err-added-clause-extends : goal.returns-in_err-added-clause-extends
returns-in_err-added-clause-extends c = rw c.in_err-added.ensures.err (Extends-then (Extends-trans _ _ _ (Extends-then (Extends-adds c.in_ok-zero.ensures.ok) c.in_ok-negated.ensures.ok) (Extends-register c.in_ok-sum.ensures.ok)) c.in_ok-doubled.ensures.ok)

pub returns-in_err-next-clause-extends : goal.returns-in_err-next-clause-extends
returns-in_err-next-clause-extends c =
    rw c.in_err-next.ensures.err (Extends-then (Extends-then (Extends-trans _ _ _ (Extends-then (Extends-adds c.in_ok-zero.ensures.ok) c.in_ok-negated.ensures.ok) (Extends-register c.in_ok-sum.ensures.ok)) c.in_ok-doubled.ensures.ok) c.in_ok-added.ensures.ok)

pub bind-requires-clause-unbound : goal.bind-requires-clause-unbound
bind-requires-clause-unbound c = IsUnbound-then (IsUnbound-then (IsUnbound-then (IsUnbound-added c.in_ok-sum.ensures.ok) c.in_ok-doubled.ensures.ok) c.in_ok-added.ensures.ok) c.in_ok-next.ensures.ok

pub returns-clause-ok : goal.returns-clause-ok
returns-clause-ok c period first bit =
    let same : c.group-group.result ≡ c.args.net.now.group = c.group-group.ensures ∙ c.in_ok-negated.ensures.ok.group ∙ c.in_ok-zero.ensures.ok.group in
    AddsAccumulator-circuit c.requires.data_group c.requires.some c.requires.has_table c.in_ok-zero.ensures.ok c.in_ok-negated.ensures.ok (owned same c.in_ok-sum.ensures.ok) c.in_ok-doubled.ensures.ok c.in_ok-added.ensures.ok c.in_ok-next.ensures.ok c.bind.ensures period first bit

pub returns-clause-extends : goal.returns-clause-extends
returns-clause-extends c =
    let same : c.group-group.result ≡ c.args.net.now.group = c.group-group.ensures ∙ c.in_ok-negated.ensures.ok.group ∙ c.in_ok-zero.ensures.ok.group in
    (serial_grows c.requires.data_group c.requires.some c.requires.has_table c.in_ok-zero.ensures.ok c.in_ok-negated.ensures.ok (owned same c.in_ok-sum.ensures.ok) c.in_ok-doubled.ensures.ok c.in_ok-added.ensures.ok c.in_ok-next.ensures.ok c.bind.ensures).extends

pub returns-clause-names : goal.returns-clause-names
returns-clause-names c =
    let same : c.group-group.result ≡ c.args.net.now.group = c.group-group.ensures ∙ c.in_ok-negated.ensures.ok.group ∙ c.in_ok-zero.ensures.ok.group in
    serial_names c.requires.data_group c.requires.some c.requires.has_table c.in_ok-zero.ensures.ok c.in_ok-negated.ensures.ok (owned same c.in_ok-sum.ensures.ok) c.in_ok-doubled.ensures.ok c.in_ok-added.ensures.ok c.in_ok-next.ensures.ok c.bind.ensures
