use Rattle.std.proofs.Common.{◌∙◌, ℤ, subst, rules, FitsSigned}
use Rattle.std.specs.Int.{w128}
use Rattle.std.proofs.lemmas.Int.{to_z-of_z}
use Rattle.mr_values.specs.Width.{wrap}
use Rattle.net_graph.specs.Grow.{Adds}
use Rattle.net_graph.specs.declared.cell.Item.TheVariants.{Constant}
use Rattle.net_graph.proofs.NetLemmas.{Extends-adds, Extends-then}
use Rattle.rounding_stage.proofs.ClipNodes.{end_makes}
use Rattle.rounding_stage.proofs.clipping.end_node.Goals as goal

pub returns-in_err-least-clause-extends : goal.returns-in_err-least-clause-extends
returns-in_err-least-clause-extends c = rw c.in_err-least.ensures.err (Extends-adds c.in_ok-sign.ensures.ok)

pub returns-in_err-greatest-clause-extends : goal.returns-in_err-greatest-clause-extends
returns-in_err-greatest-clause-extends c = rw c.in_err-greatest.ensures.err (Extends-then (Extends-adds c.in_ok-sign.ensures.ok) c.in_ok-least.ensures.ok)

pub returns-in_err-to-clause-extends : goal.returns-in_err-to-clause-extends
returns-in_err-to-clause-extends c = rw c.in_err-to.ensures.err (Extends-then (Extends-then (Extends-adds c.in_ok-sign.ensures.ok) c.in_ok-least.ensures.ok) c.in_ok-greatest.ensures.ok)

pub returns-clause-extends : goal.returns-clause-extends
returns-clause-extends c = Extends-then (Extends-then (Extends-then (Extends-adds c.in_ok-sign.ensures.ok) c.in_ok-least.ensures.ok) c.in_ok-greatest.ensures.ok) c.in_ok-to.ensures.ok

pub returns-clause-ok : goal.returns-clause-ok
returns-clause-ok c =
    let least_fits : FitsSigned w128 c.least_number.result = search rules in
    let greatest_fits : FitsSigned w128 c.greatest_number.result = search rules in
    let least = subst (λ (z : ℤ). Adds c.shr.new.self c.constant.new.self c.in_ok-least.least c.args.bits (Constant (wrap c.args.bits z))) (to_z-of_z w128 c.least_number.result least_fits ∙ c.least_number.ensures) c.in_ok-least.ensures.ok in
    let greatest = subst (λ (z : ℤ). Adds c.constant.new.self c.constant-2.new.self c.in_ok-greatest.greatest c.args.bits (Constant (wrap c.args.bits z))) (to_z-of_z w128 c.greatest_number.result greatest_fits ∙ c.greatest_number.ensures) c.in_ok-greatest.ensures.ok in
    end_makes c.args.bits c.args.wide c.in_ok-sign.ensures.ok least greatest c.in_ok-to.ensures.ok
