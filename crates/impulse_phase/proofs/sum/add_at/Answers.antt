use Rattle.std.proofs.Common.{rules, ◌+◌, ◌*◌, ◌^◌, ◌≤◌, List, ℤ, pos, unsigned_abs, ◌+ℤ◌, ◌*ℤ◌, get_or, set, sym, ◌∙◌, ap, subst}
use Rattle.std.proofs.lemmas.Int.{to_z-of_z}
use mir.Syntax.{w64, w128}
use mir.Val.{SFits}
use Rattle.impulse_phase.proofs.Sums.{place-room, poured-more}
use Rattle.impulse_phase.proofs.sum.add_at.Goals as goal

pub with_term-requires : goal.with_term-requires
with_term-requires c =
    let i = c.loop-i.i in
    let at = c.args.from + i in
    let tap = c.args.tap in
    let weights = c.args.weights.now in
    let t : SFits w64 tap = search rules in
    let e : SFits w128 (get_or c.loop-i.sum at (pos 0)) = search rules in
    let w : SFits w128 (get_or weights i (pos 0)) = search rules in
    let so_far = simp to_z-of_z at c.loop-i.invariant in
    simp to_z-of_z (subst (λ (xs : List ℤ). unsigned_abs (get_or xs at (pos 0)) + unsigned_abs tap * unsigned_abs (get_or weights i (pos 0)) ≤ 2 ^ 126) (sym so_far)
    (place-room tap c.args.from weights c.args.sum.now i c.requires.room))

pub loop-i-preserved : goal.loop-i-preserved
loop-i-preserved c =
    let i = c.loop-i.i in
    let at = c.args.from + i in
    let tap = c.args.tap in
    let weights = c.args.weights.now in
    let t : SFits w64 tap = search rules in
    let e : SFits w128 (get_or c.loop-i.sum at (pos 0)) = search rules in
    let w : SFits w128 (get_or weights i (pos 0)) = search rules in
    let r : SFits w128 c.with_term.result = search rules in
    let so_far = simp to_z-of_z at c.loop-i.invariant in
    let next = simp to_z-of_z at c.with_term.ensures in
    simp to_z-of_z (ap (set c.loop-i.sum at) next
    ∙ ap (λ (xs : List ℤ). set xs at (get_or xs at (pos 0) +ℤ tap *ℤ get_or weights i (pos 0))) so_far
    ∙ poured-more tap c.args.from weights c.args.sum.now i c.loop-i-test.true c.requires.within)
