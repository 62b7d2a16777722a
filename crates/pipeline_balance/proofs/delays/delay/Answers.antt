use Rattle.std.proofs.Common.{◌≡◌, ◌+◌, suc, ℕ, arith, subst}
use Rattle.net_graph.proofs.NetLemmas.{Extends-trans}
use Rattle.pipeline_balance.specs.Phase.{IsDelay}
use Rattle.pipeline_balance.proofs.DelayLemmas.{IsDelay-none, IsDelay-more}
use Rattle.pipeline_balance.proofs.delays.delay.Goals as goal

pub loop-i-init : goal.loop-i-init
loop-i-init c = IsDelay-none c.args.net.now c.args.node c.requires.within

pub returns-in_err-last-clause-extends : goal.returns-in_err-last-clause-extends
returns-in_err-last-clause-extends c = Extends-trans _ _ _ c.loop-i.invariant.grows.extends c.in_err-last.ensures.extends

pub loop-i-preserved : goal.loop-i-preserved
loop-i-preserved c =
    let next : suc c.loop-i._i ≡ c.loop-i._i + 1 = omega arith in
    subst (λ (n : ℕ). IsDelay c.args.net.now c.taking_register.new.net c.args.node n c.in_ok-last.last) next (IsDelay-more c.group-group.ensures c.loop-i.invariant c.free_number.ensures c.in_ok-last.ensures.ok)
