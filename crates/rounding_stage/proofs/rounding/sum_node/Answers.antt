use Rattle.std.proofs.Common.{◌≡◌, ℤ, subst, to_z, of_z}
use Rattle.std.proofs.lemmas.Int.{to_z-of_z}
use mir.Syntax.{w128}
use Rattle.mr_values.specs.Width.{IsLeastWidth, wrap}
use Rattle.stage_law.specs.declared.ranges.Range.{Range}
use Rattle.net_graph.specs.Grow.{Adds}
use Rattle.net_graph.specs.declared.cell.Item.TheVariants.{Constant}
use Rattle.net_graph.proofs.NetLemmas.{Extends-refl, Extends-adds, Extends-trans}
use Rattle.rounding_stage.proofs.MapLemmas.{IsMap-sum}
use Rattle.rounding_stage.proofs.rounding.sum_node.Goals as goal

pub returns-clause-ok : goal.returns-clause-ok
returns-clause-ok c =
    let back : to_z w128 (of_z w128 c.args.half) ≡ c.args.half = to_z-of_z w128 c.args.half c.ranges.half in
    IsMap-sum c.requires.data_group
    (subst (λ (z : ℤ). Adds c.args.net.now c.constant.new.self c.in_ok-constant.constant c.least_width-narrow.result (Constant (wrap c.least_width-narrow.result z))) back c.in_ok-constant.ensures.ok)
    c.in_ok-to.ensures.ok
    (subst (λ (z : ℤ). IsLeastWidth z z c.least_width-narrow.result) back c.least_width-narrow.ensures)
    (subst (λ (r : Range). IsLeastWidth r.lo r.hi c.width_of-width.result) c.requires.more c.width_of-width.ensures)

pub returns-in_err-constant-clause-extends : goal.returns-in_err-constant-clause-extends
returns-in_err-constant-clause-extends c = rw c.in_err-constant.ensures.err (Extends-refl c.args.net.now.cells)

pub returns-in_err-to-clause-extends : goal.returns-in_err-to-clause-extends
returns-in_err-to-clause-extends c = rw c.in_err-to.ensures.err (Extends-adds c.in_ok-constant.ensures.ok)

pub returns-clause-extends : goal.returns-clause-extends
returns-clause-extends c = Extends-trans _ _ _ (Extends-adds c.in_ok-constant.ensures.ok) (Extends-adds c.in_ok-to.ensures.ok)
