use Rattle.std.proofs.Common.{◌≡◌, ◌∷◌, [], ◌++◌, pos, get_or, take, rules, subst, ℤ, FitsSigned}
use Rattle.std.specs.Int.{w64, w128}
use Rattle.demo_plan.specs.Tallied.{IsTally}
use Rattle.std.proofs.lemmas.Int.{to_z-of_z}
use Rattle.std.proofs.lemmas.List.{take_more}
use Rattle.demo_plan.proofs.summary.tally_of.Goals as goal

pub loop-value-preserved : goal.loop-value-preserved
loop-value-preserved c =
    let i = c.loop-value.value-index in
    let fits : FitsSigned w64 (get_or c.args.values.now i (pos 0)) = search rules in
    let wide : FitsSigned w128 c.from.result = search rules in
    let same : c.from.result ≡ get_or c.args.values.now i (pos 0) = search rules in
    let added : IsTally (take i c.args.values.now ++ c.from.result ∷ []) c.add.new.self = simp to_z-of_z at (c.add.ensures (take i c.args.values.now) c.loop-value.invariant) in
    rw (take_more c.args.values.now i (pos 0) c.loop-value-test.true) (subst (λ (v : ℤ). IsTally (take i c.args.values.now ++ v ∷ []) c.add.new.self) same added)
