use Rattle.std.proofs.Common.{◌≡◌, ◌∷◌, [], ◌++◌, ℕ, ◌*◌, ◌∙◌, ap, rules, append_assoc, FitsSigned}
use Rattle.std.specs.Int.{w64}
use Rattle.std.proofs.lemmas.Int.{to_z-of_z}
use Rattle.std.proofs.lemmas.Slice.{pushed}
use Rattle.mr_values.specs.Value.{size}
use Rattle.chain_values.specs.declared.stage.Stage.TheVariants.{Group}
use Rattle.chain_values.proofs.StartSteps.{size_from, makes_cic_down}
use Rattle.chain_values.proofs.elements.push_cic_down.Goals as goal

pub returns : goal.returns
returns c =
    let factor_fits : FitsSigned w64 c.args.factor = search rules in
    let count_fits : FitsSigned w64 c.args.count = search rules in
    let delay_fits : FitsSigned w64 c.args.delay = search rules in
    let limits = c.requires in
    let group = c.in_ok-group.group in
    let sums = c.in_ok-push_sums.ensures in
    let factor : c.size-factor.result ≡ size c.args.factor = c.size-factor.ensures ∙ ap size (to_z-of_z w64 _ factor_fits) in
    let delay : c.size.result ≡ size c.args.delay = c.size.ensures ∙ ap size (to_z-of_z w64 _ delay_fits) in
    let count : c.size-2.result ≡ size c.args.count = c.size-2.ensures ∙ ap size (to_z-of_z w64 _ count_fits) in
    let width : c.size-factor.result * c.size.result ≡ size c.args.factor * size c.args.delay =
    ap (λ (n : ℕ). n * c.size.result) factor ∙ ap (λ (n : ℕ). size c.args.factor * n) delay in
    let grown : c.push.new.self.items ≡ c.args.stages.now.items ++ (sums.0 ++ Group group ∷ []) =
    pushed (Group group ∷ []) sums.1.0 c.in_ok-push.was c.push.ensures.items ∙ append_assoc c.args.stages.now.items sums.0 (Group group ∷ []) in (
      sums.0 ++ Group group ∷ [],
      (
        grown,
        (makes_cic_down c.args.factor c.args.count c.args.delay c.size-factor.result (c.size-factor.result * c.size.result) c.size-2.result sums.0 group
            factor width count (size_from 4096 c.args.factor limits.0).0 sums.1.1 c.in_ok-group.ensures),
      ),
    )
