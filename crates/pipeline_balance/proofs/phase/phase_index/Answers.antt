use Rattle.std.proofs.Common.{◌≡◌, ◌-◌, ◌<◌, arith, ℕ, ℤ, pos, subst, ◌^◌}
use Rattle.std.proofs.lemmas.Int.{to_z-of_z, ints}
use mir.Val.{to_z, of_z, SFits}
use mir.Syntax.{w128}
use Rattle.net_graph.proofs.NetLemmas.{Extends-register, Extends-then, Extends-trans, IsUnbound-added, IsUnbound-then}
use Rattle.mr_values.specs.Width.{wrap}
use Rattle.net_graph.specs.Grow.{Adds}
use Rattle.net_graph.specs.declared.cell.Item.TheVariants.{Constant}
use Rattle.pipeline_balance.proofs.PhaseLemmas.{IsIndex-circuit, index_extends}
use Rattle.pipeline_balance.proofs.phase.phase_index.Goals as goal

passed : (n : ℕ) (z : ℤ) → z ≡ pos n → n < 2 ^ 64 → to_z w128 (of_z w128 z) ≡ pos n
passed n z e h = let f : SFits w128 (pos n) = omega (arith, ints) in rw e (to_z-of_z w128 (pos n) f)

pub returns-in_err-last-clause-extends : goal.returns-in_err-last-clause-extends
returns-in_err-last-clause-extends c = rw c.in_err-last.ensures.err (Extends-register c.in_ok-index.ensures.ok.adds)

pub returns-in_err-none-clause-extends : goal.returns-in_err-none-clause-extends
returns-in_err-none-clause-extends c = rw c.in_err-none.ensures.err (Extends-then (Extends-register c.in_ok-index.ensures.ok.adds) c.in_ok-last.ensures.ok)

pub returns-in_err-one-clause-extends : goal.returns-in_err-one-clause-extends
returns-in_err-one-clause-extends c = rw c.in_err-one.ensures.err (Extends-then (Extends-then (Extends-register c.in_ok-index.ensures.ok.adds) c.in_ok-last.ensures.ok) c.in_ok-none.ensures.ok)

pub returns-in_err-done-clause-extends : goal.returns-in_err-done-clause-extends
returns-in_err-done-clause-extends c = rw c.in_err-done.ensures.err (Extends-then (Extends-then (Extends-then (Extends-register c.in_ok-index.ensures.ok.adds) c.in_ok-last.ensures.ok) c.in_ok-none.ensures.ok) c.in_ok-one.ensures.ok)

pub returns-in_err-more-clause-extends : goal.returns-in_err-more-clause-extends
returns-in_err-more-clause-extends c = rw c.in_err-more.ensures.err (Extends-then (Extends-then (Extends-then (Extends-then (Extends-register c.in_ok-index.ensures.ok.adds) c.in_ok-last.ensures.ok) c.in_ok-none.ensures.ok) c.in_ok-one.ensures.ok) c.in_ok-done.ensures.ok)

pub returns-in_err-next-clause-extends : goal.returns-in_err-next-clause-extends
returns-in_err-next-clause-extends c = rw c.in_err-next.ensures.err (Extends-then (Extends-then (Extends-then (Extends-then (Extends-then (Extends-register c.in_ok-index.ensures.ok.adds) c.in_ok-last.ensures.ok) c.in_ok-none.ensures.ok) c.in_ok-one.ensures.ok) c.in_ok-done.ensures.ok) c.in_ok-more.ensures.ok)

pub returns-in_err-held-clause-extends : goal.returns-in_err-held-clause-extends
returns-in_err-held-clause-extends c = rw c.in_err-held.ensures.err (Extends-then (Extends-then (Extends-then (Extends-then (Extends-then (Extends-then (Extends-register c.in_ok-index.ensures.ok.adds) c.in_ok-last.ensures.ok) c.in_ok-none.ensures.ok) c.in_ok-one.ensures.ok) c.in_ok-done.ensures.ok) c.in_ok-more.ensures.ok) c.in_ok-next.ensures.ok)

pub bind-requires-clause-unbound : goal.bind-requires-clause-unbound
bind-requires-clause-unbound c = IsUnbound-then (IsUnbound-then (IsUnbound-then (IsUnbound-then (IsUnbound-then (IsUnbound-then (IsUnbound-then (IsUnbound-added c.in_ok-index.ensures.ok.adds) c.in_ok-last.ensures.ok) c.in_ok-none.ensures.ok) c.in_ok-one.ensures.ok) c.in_ok-done.ensures.ok) c.in_ok-more.ensures.ok) c.in_ok-next.ensures.ok) c.in_ok-held.ensures.ok

pub returns-clause-ok : goal.returns-clause-ok
returns-clause-ok c period first positive gate =
    let value : to_z w128 (of_z w128 c.last_of-top.result) ≡ pos (c.args.count - 1) = passed (c.args.count - 1) c.last_of-top.result c.last_of-top.ensures (omega (arith, c.ranges.count)) in
    let last = subst (λ (z : ℤ). Adds c.next_register.new.net c.constant.new.self c.in_ok-last.last c.args.width (Constant (wrap c.args.width z))) value c.in_ok-last.ensures.ok in
    IsIndex-circuit period first c.requires.wide.0 positive c.requires.some c.requires.room c.requires.control c.requires.is_control gate c.in_ok-index.ensures.ok last c.in_ok-none.ensures.ok
    c.in_ok-one.ensures.ok c.in_ok-done.ensures.ok c.in_ok-more.ensures.ok c.in_ok-next.ensures.ok c.in_ok-held.ensures.ok c.bind.ensures

pub returns-clause-extends : goal.returns-clause-extends
returns-clause-extends c =
    Extends-trans _ _ _ (Extends-then (Extends-then (Extends-then (Extends-then (Extends-then (Extends-then (Extends-then (Extends-register c.in_ok-index.ensures.ok.adds) c.in_ok-last.ensures.ok) c.in_ok-none.ensures.ok) c.in_ok-one.ensures.ok) c.in_ok-done.ensures.ok) c.in_ok-more.ensures.ok) c.in_ok-next.ensures.ok) c.in_ok-held.ensures.ok)
    (index_extends c.requires.wide.0 c.in_ok-index.ensures.ok c.in_ok-last.ensures.ok c.in_ok-none.ensures.ok c.in_ok-one.ensures.ok c.in_ok-done.ensures.ok c.in_ok-more.ensures.ok c.in_ok-next.ensures.ok c.in_ok-held.ensures.ok c.bind.ensures)
