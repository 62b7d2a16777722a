use Rattle.std.proofs.Common.{◌≡◌, ℤ, pos, get_or, FitsSigned, to_z, of_z, rules}
use Rattle.std.specs.Int.{w64}
use Rattle.std.proofs.lemmas.Int.{to_z-of_z}
use Rattle.toml.specs.declared.value.Value.{Integer}
use Rattle.toml.proofs.Views.{view-Integer}
use Rattle.plan_reader.proofs.PrintSteps.{numbers-pushed}
use Rattle.plan_reader.proofs.printing.number_values.Goals as goal

pub loop-number-preserved : goal.loop-number-preserved
loop-number-preserved c =
    let number : ℤ = get_or c.args.numbers.now c.loop-number.number-index (pos 0) in
    let fits : FitsSigned w64 number = search rules in
    let same : to_z w64 (of_z w64 number) ≡ number = to_z-of_z w64 number fits in
    numbers-pushed c.loop-number.values.items c.push.new.self.items c.args.numbers.now c.loop-number.number-index (pos 0) (to_z w64 (of_z w64 number)) (Integer (to_z w64 (of_z w64 number))) c.loop-number-test.true
    c.loop-number.invariant (view-Integer (to_z w64 (of_z w64 number))) same c.in_ok-push.ensures.items
