use Rattle.std.proofs.Common.{arith}
use Rattle.net_graph.proofs.NetLemmas.{Extends-adds, Extends-then, Extends-trans}
use Rattle.rounding_stage.proofs.ClipNodes.{clip_makes}
use Rattle.rounding_stage.proofs.clipping.clip_node.Goals as goal

pub returns-in_err-fits-clause-extends : goal.returns-in_err-fits-clause-extends
returns-in_err-fits-clause-extends c = Extends-trans _ _ _ (Extends-adds c.in_ok-value.ensures.ok) c.in_err-fits.ensures.extends

pub returns-in_err-end-clause-extends : goal.returns-in_err-end-clause-extends
returns-in_err-end-clause-extends c = Extends-trans _ _ _ (Extends-trans _ _ _ (Extends-adds c.in_ok-value.ensures.ok) c.in_ok-fits.ensures.extends) c.in_err-end.ensures.extends

pub mux-requires-clause-has_on : goal.mux-requires-clause-has_on
mux-requires-clause-has_on c = omega (arith, c.in_ok-fits.ensures.ok.within, c.in_ok-end.ensures.extends.longer)

pub mux-requires-clause-has_no : goal.mux-requires-clause-has_no
mux-requires-clause-has_no c = c.in_ok-end.ensures.ok.within

pub returns-in_err-to-clause-extends : goal.returns-in_err-to-clause-extends
returns-in_err-to-clause-extends c = rw c.in_err-to.ensures.err (Extends-trans _ _ _ (Extends-trans _ _ _ (Extends-adds c.in_ok-value.ensures.ok) c.in_ok-fits.ensures.extends) c.in_ok-end.ensures.extends)

pub returns-clause-extends : goal.returns-clause-extends
returns-clause-extends c = Extends-then (Extends-trans _ _ _ (Extends-trans _ _ _ (Extends-adds c.in_ok-value.ensures.ok) c.in_ok-fits.ensures.extends) c.in_ok-end.ensures.extends) c.in_ok-to.ensures.ok

pub returns-clause-ok : goal.returns-clause-ok
returns-clause-ok c =
    clip_makes c.args.range c.args.bits c.width_of-wide.result c.clipped_width-width.result c.requires.data_group c.requires.some c.requires.within c.width_of-wide.ensures c.clipped_width-width.ensures c.in_ok-value.ensures.ok c.in_ok-fits.ensures.ok c.in_ok-end.ensures.ok
    c.in_ok-to.ensures.ok
