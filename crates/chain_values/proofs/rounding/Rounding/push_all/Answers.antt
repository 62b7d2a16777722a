use Rattle.std.proofs.Common.{◌≡◌, ◌∷◌, [], ◌++◌, pos, get_or, rules, refl, FitsSigned, to_z, of_z}
use Rattle.std.specs.Int.{w64}
use Rattle.std.proofs.lemmas.Int.{to_z-of_z}
use Rattle.std.proofs.lemmas.Slice.{pushed}
use Rattle.mr_values.specs.Value.{round_value}
use Rattle.chain_values.proofs.RoundSteps.{mapped_more}
use Rattle.chain_values.proofs.rounding.Rounding.push_all.Goals as goal

pub loop-value-preserved : goal.loop-value-preserved
loop-value-preserved c =
    let fits : FitsSigned w64 (get_or c.args.values.now c.loop-value.value-index (pos 0)) = search rules in
    let rounded_fits : FitsSigned w64 c.rounded-rounded.result = search rules in
    let is : c.rounded-rounded.result ≡ round_value c.args.self.now.mode c.args.self.now.shift (get_or c.args.values.now c.loop-value.value-index (pos 0)) = simp to_z-of_z at c.rounded-rounded.ensures in
    let more : c.push.new.self.items ≡ c.loop-value.out.items ++ c.rounded-rounded.result ∷ [] =
    simp to_z-of_z at (pushed (to_z w64 (of_z w64 c.rounded-rounded.result) ∷ []) refl c.in_ok-push.was c.push.ensures.items) in
    mapped_more (round_value c.args.self.now.mode c.args.self.now.shift) c.args.values.now c.loop-value.value-index c.rounded-rounded.result c.args.out.now.items c.loop-value.out.items c.push.new.self.items
    c.loop-value-test.true c.loop-value.invariant is more
