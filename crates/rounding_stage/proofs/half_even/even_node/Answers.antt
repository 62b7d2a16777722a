use Rattle.std.proofs.Common.{arith}
use Rattle.net_graph.proofs.NetLemmas.{Extends-adds, Extends-then, Extends-trans}
use Rattle.rounding_stage.proofs.EvenNodes.{even_makes}
use Rattle.rounding_stage.proofs.half_even.even_node.Goals as goal

pub returns-in_err-quotient-clause-extends : goal.returns-in_err-quotient-clause-extends
returns-in_err-quotient-clause-extends c = rw c.in_err-quotient.ensures.err (Extends-adds c.in_ok-value.ensures.ok)

pub returns-in_err-up-clause-extends : goal.returns-in_err-up-clause-extends
returns-in_err-up-clause-extends c = Extends-trans _ _ _ (Extends-then (Extends-adds c.in_ok-value.ensures.ok) c.in_ok-quotient.ensures.ok) c.in_err-up.ensures.extends

pub sub-requires-clause-has_b : goal.sub-requires-clause-has_b
sub-requires-clause-has_b c = c.in_ok-up.ensures.ok.within

pub returns-in_err-to-clause-extends : goal.returns-in_err-to-clause-extends
returns-in_err-to-clause-extends c = rw c.in_err-to.ensures.err (Extends-trans _ _ _ (Extends-then (Extends-adds c.in_ok-value.ensures.ok) c.in_ok-quotient.ensures.ok) c.in_ok-up.ensures.extends)

pub returns-clause-extends : goal.returns-clause-extends
returns-clause-extends c = Extends-then (Extends-trans _ _ _ (Extends-then (Extends-adds c.in_ok-value.ensures.ok) c.in_ok-quotient.ensures.ok) c.in_ok-up.ensures.extends) c.in_ok-to.ensures.ok

pub returns-clause-ok : goal.returns-clause-ok
returns-clause-ok c =
    even_makes c.args.range c.args.shift c.wide_for-wide.result c.rounded_width-width.result c.requires.data_group c.requires.low c.requires.within (omega (arith, c.wide_for-wide.ensures.deep)) c.wide_for-wide.ensures.low c.wide_for-wide.ensures.high
    c.rounded_width-width.ensures c.in_ok-value.ensures.ok c.in_ok-quotient.ensures.ok c.in_ok-up.ensures.ok c.in_ok-to.ensures.ok
