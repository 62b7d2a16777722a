use Rattle.std.proofs.Common.{◌∙◌, ap, subst, sym, ℤ, FitsSigned, to_z, of_z}
use Rattle.std.proofs.lemmas.Int.{to_z-of_z}
use mir.Syntax.{w128}
use Rattle.span_ranges.proofs.SumLemmas.{mul_fits, machine_product}
use Rattle.span_ranges.proofs.terms.product.Goals as goal

pub overflow_mul-result : goal.overflow_mul-result
overflow_mul-result c = subst (λ (z : ℤ). FitsSigned w128 z) (sym (machine_product c.args.a c.args.b c.ranges.a c.ranges.b)) (mul_fits c.args.a c.args.b c.requires)

pub returns : goal.returns
returns c = ap (λ (z : ℤ). to_z w128 (of_z w128 z)) (machine_product c.args.a c.args.b c.ranges.a c.ranges.b) ∙ to_z-of_z w128 _ (mul_fits c.args.a c.args.b c.requires)
