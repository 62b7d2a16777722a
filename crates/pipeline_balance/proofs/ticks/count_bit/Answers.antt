use Rattle.std.proofs.Common.{◌≡◌, ◌+◌, ◌<◌, ◌^◌, arith, ℕ, ℤ, pos, subst, ◌∙◌, ap}
use Rattle.std.proofs.lemmas.Int.{to_z-of_z, ints}
use mir.Val.{to_z, of_z, SFits}
use mir.Syntax.{w128}
use Rattle.net_graph.proofs.NetLemmas.{Extends-adds, Extends-then}
use Rattle.mr_values.specs.Width.{wrap}
use Rattle.net_graph.specs.Grow.{Adds}
use Rattle.net_graph.specs.declared.cell.Item.TheVariants.{Constant}
use Rattle.pipeline_balance.proofs.TicksLemmas.{IsCounter-told}
use Rattle.pipeline_balance.proofs.ticks.count_bit.Goals as goal

passed : (n : ℕ) (z : ℤ) → z ≡ pos n → n < 2 ^ 64 → to_z w128 (of_z w128 z) ≡ pos n
passed n z e h = let f : SFits w128 (pos n) = omega (arith, ints) in rw e (to_z-of_z w128 (pos n) f)

pub returns-in_err-bit-clause-extends : goal.returns-in_err-bit-clause-extends
returns-in_err-bit-clause-extends c = rw c.in_err-bit.ensures.err (Extends-adds c.in_ok-told.ensures.ok)

pub returns-clause-ok : goal.returns-clause-ok
returns-clause-ok c period first distance positive below same room counted =
    let value : to_z w128 (of_z w128 c.from.result) ≡ pos (first + distance) = passed c.args.number c.from.result c.from.ensures (omega (arith, c.ranges.number)) ∙ ap pos same in
    let told = subst (λ (z : ℤ). Adds c.args.net.now c.constant.new.self c.in_ok-told.told c.args.width (Constant (wrap c.args.width z))) value c.in_ok-told.ensures.ok in
    IsCounter-told period first distance c.requires.wide.0 positive below room c.requires.control counted told c.in_ok-bit.ensures.ok

pub returns-clause-extends : goal.returns-clause-extends
returns-clause-extends c = Extends-then (Extends-adds c.in_ok-told.ensures.ok) c.in_ok-bit.ensures.ok
