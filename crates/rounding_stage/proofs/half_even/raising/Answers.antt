use Rattle.std.proofs.Common.{◌∙◌, arith, ℤ, subst, rules, FitsSigned}
use Rattle.std.specs.Int.{w128}
use Rattle.std.proofs.lemmas.Int.{to_z-of_z}
use Rattle.mr_values.specs.Width.{wrap}
use Rattle.net_graph.specs.Grow.{Adds}
use Rattle.net_graph.specs.declared.cell.Item.TheVariants.{Constant}
use Rattle.net_graph.proofs.NetLemmas.{Extends-adds, Extends-then}
use Rattle.rounding_stage.proofs.EvenNodes.{raising_makes}
use Rattle.rounding_stage.proofs.half_even.raising.Goals as goal

pub returns-in_err-half-clause-extends : goal.returns-in_err-half-clause-extends
returns-in_err-half-clause-extends c = rw c.in_err-half.ensures.err (Extends-adds c.in_ok-low.ensures.ok)

pub returns-in_err-tie-clause-extends : goal.returns-in_err-tie-clause-extends
returns-in_err-tie-clause-extends c = rw c.in_err-tie.ensures.err (Extends-then (Extends-adds c.in_ok-low.ensures.ok) c.in_ok-half.ensures.ok)

pub returns-in_err-odd-clause-extends : goal.returns-in_err-odd-clause-extends
returns-in_err-odd-clause-extends c = rw c.in_err-odd.ensures.err (Extends-then (Extends-then (Extends-adds c.in_ok-low.ensures.ok) c.in_ok-half.ensures.ok) c.in_ok-tie.ensures.ok)

pub returns-in_err-above-clause-extends : goal.returns-in_err-above-clause-extends
returns-in_err-above-clause-extends c = rw c.in_err-above.ensures.err (Extends-then (Extends-then (Extends-then (Extends-adds c.in_ok-low.ensures.ok) c.in_ok-half.ensures.ok) c.in_ok-tie.ensures.ok) c.in_ok-odd.ensures.ok)

pub returns-in_err-up-clause-extends : goal.returns-in_err-up-clause-extends
returns-in_err-up-clause-extends c = rw c.in_err-up.ensures.err (Extends-then (Extends-then (Extends-then (Extends-then (Extends-adds c.in_ok-low.ensures.ok) c.in_ok-half.ensures.ok) c.in_ok-tie.ensures.ok) c.in_ok-odd.ensures.ok) c.in_ok-above.ensures.ok)

pub returns-clause-extends : goal.returns-clause-extends
returns-clause-extends c = Extends-then (Extends-then (Extends-then (Extends-then (Extends-then (Extends-adds c.in_ok-low.ensures.ok) c.in_ok-half.ensures.ok) c.in_ok-tie.ensures.ok) c.in_ok-odd.ensures.ok) c.in_ok-above.ensures.ok) c.in_ok-up.ensures.ok

pub returns-clause-ok : goal.returns-clause-ok
returns-clause-ok c =
    let least_fits : FitsSigned w128 c.least_number.result = search rules in
    let half = subst (λ (z : ℤ). Adds c.bits.new.self c.constant.new.self c.in_ok-half.half c.args.shift (Constant (wrap c.args.shift z))) (to_z-of_z w128 c.least_number.result least_fits ∙ c.least_number.ensures) c.in_ok-half.ensures.ok in
    raising_makes c.args.shift _ _ _ (omega arith) (omega arith) (omega arith) c.in_ok-low.ensures.ok half c.in_ok-tie.ensures.ok c.in_ok-odd.ensures.ok c.in_ok-above.ensures.ok c.in_ok-up.ensures.ok
