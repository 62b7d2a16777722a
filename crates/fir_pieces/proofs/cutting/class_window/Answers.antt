use Rattle.std.proofs.Common.{List, ℤ, subst}
use Rattle.stage_law.specs.Range.{IsRange}
use Rattle.net_graph.proofs.NetLemmas.{Extends-trans}
use Rattle.fir_pieces.proofs.CuttingLemmas.{AddsClassWindow-cut}
use Rattle.fir_pieces.proofs.cutting.class_window.Goals as goal

pub returns-in_err-nodes-clause-extends : goal.returns-in_err-nodes-clause-extends
returns-in_err-nodes-clause-extends g c = Extends-trans _ _ _ c.in_ok-node.ensures.extends c.in_err-nodes.ensures.extends

pub returns-clause-ok : goal.returns-clause-ok
returns-clause-ok g c =
    AddsClassWindow-cut (g.R.Ranges.streams c.args.ranges.now) c.args.taken c.args.class (record { range = c.range-range.result; is_range = subst (λ (ws : List ℤ). IsRange (g.R.Ranges.streams c.args.ranges.now) ws c.args.class c.range-range.result) c.in_ok-value.ensures c.range-range.ensures; least = c.width_of-width.ensures }) c.in_ok-node.ensures.ok c.in_ok-nodes.ensures.window

pub returns-clause-extends : goal.returns-clause-extends
returns-clause-extends g c = (returns-clause-ok g c).grows.extends
