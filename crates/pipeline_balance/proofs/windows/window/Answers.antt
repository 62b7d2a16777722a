use Rattle.std.proofs.Common.{◌≡◌, ◌∙◌, length, arith, length-append, suc}
use Rattle.net_graph.proofs.NetLemmas.{Extends-trans}
use Rattle.pipeline_balance.proofs.WindowLemmas.{WindowSoFar-start, WindowSoFar-step}
use Rattle.pipeline_balance.proofs.windows.window.Goals as goal

pub loop-i-init : goal.loop-i-init
loop-i-init c = rw c.new-nodes.ensures.items (omega arith, WindowSoFar-start c.requires.within c.in_ok-gate.ensures.ok)

pub returns-in_err-last-clause-extends : goal.returns-in_err-last-clause-extends
returns-in_err-last-clause-extends c = Extends-trans _ _ _ c.loop-i.invariant.1.grows.extends c.in_err-last.ensures.extends

pub returns-in_err-push-clause-extends : goal.returns-in_err-push-clause-extends
returns-in_err-push-clause-extends c = Extends-trans _ _ _ c.loop-i.invariant.1.grows.extends c.in_ok-last.ensures.extends

-- one more register has the values that were taken one before
pub loop-i-preserved : goal.loop-i-preserved
loop-i-preserved c =
    let i = c.loop-i.invariant in
    let more = WindowSoFar-step c.requires.positive (c.group-group.ensures ∙ c.in_ok-gate.ensures.group) i.1 c.free_number-number.ensures c.in_ok-last.ensures.ok in
    let items = c.in_ok-push.ensures.items in
    let count : length c.push.new.self.items ≡ suc (length c.loop-i.nodes.items) = rw (items, length-append) (omega arith) in (
      omega (arith, count, i.0),
      rw items more,
    )
