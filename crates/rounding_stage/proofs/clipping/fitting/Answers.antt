use Rattle.net_graph.proofs.NetLemmas.{Extends-adds, Extends-then}
use Rattle.rounding_stage.proofs.ClipNodes.{fits_makes}
use Rattle.rounding_stage.proofs.clipping.fitting.Goals as goal

pub returns-in_err-zero-clause-extends : goal.returns-in_err-zero-clause-extends
returns-in_err-zero-clause-extends c = rw c.in_err-zero.ensures.err (Extends-adds c.in_ok-top.ensures.ok)

pub returns-in_err-zeros-clause-extends : goal.returns-in_err-zeros-clause-extends
returns-in_err-zeros-clause-extends c = rw c.in_err-zeros.ensures.err (Extends-then (Extends-adds c.in_ok-top.ensures.ok) c.in_ok-zero.ensures.ok)

pub returns-in_err-ones-clause-extends : goal.returns-in_err-ones-clause-extends
returns-in_err-ones-clause-extends c = rw c.in_err-ones.ensures.err (Extends-then (Extends-then (Extends-adds c.in_ok-top.ensures.ok) c.in_ok-zero.ensures.ok) c.in_ok-zeros.ensures.ok)

pub returns-in_err-all-clause-extends : goal.returns-in_err-all-clause-extends
returns-in_err-all-clause-extends c = rw c.in_err-all.ensures.err (Extends-then (Extends-then (Extends-then (Extends-adds c.in_ok-top.ensures.ok) c.in_ok-zero.ensures.ok) c.in_ok-zeros.ensures.ok) c.in_ok-ones.ensures.ok)

pub returns-in_err-to-clause-extends : goal.returns-in_err-to-clause-extends
returns-in_err-to-clause-extends c = rw c.in_err-to.ensures.err (Extends-then (Extends-then (Extends-then (Extends-then (Extends-adds c.in_ok-top.ensures.ok) c.in_ok-zero.ensures.ok) c.in_ok-zeros.ensures.ok) c.in_ok-ones.ensures.ok) c.in_ok-all.ensures.ok)

pub returns-clause-extends : goal.returns-clause-extends
returns-clause-extends c = Extends-then (Extends-then (Extends-then (Extends-then (Extends-then (Extends-adds c.in_ok-top.ensures.ok) c.in_ok-zero.ensures.ok) c.in_ok-zeros.ensures.ok) c.in_ok-ones.ensures.ok) c.in_ok-all.ensures.ok) c.in_ok-to.ensures.ok

pub returns-clause-ok : goal.returns-clause-ok
returns-clause-ok c = fits_makes c.args.bits c.args.wide c.in_ok-top.ensures.ok c.in_ok-zero.ensures.ok c.in_ok-zeros.ensures.ok c.in_ok-ones.ensures.ok c.in_ok-all.ensures.ok c.in_ok-to.ensures.ok
