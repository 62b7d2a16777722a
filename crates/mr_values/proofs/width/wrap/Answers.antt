use Rattle.std.proofs.Common.{◌≡◌, ◌∙◌, sym, arith, ℕ, ℤ, to_z, of_z, subst, lit≤, FitsSigned}
use Rattle.std.proofs.lemmas.Int.{ints, to_z-of_z}
use Rattle.std.specs.Int.{w128}
use Rattle.mr_values.specs.Width.{FitsWidth, wrap}
use Rattle.mr_values.proofs.WidthLemmas.{wrap_fits}
use Rattle.mr_values.proofs.Wrapping.{wrap_even, wrap_odd}
use Rattle.mr_values.proofs.width.wrap.Goals as goal

-- a number of 128 bits is its own wrap
whole : (w : ℕ) (v : ℤ) → w ≡ 128 → FitsSigned w128 v → to_z w128 (of_z w128 v) ≡ wrap w v
whole w v e fits =
    let fits_all : FitsWidth 128 v = record { low = omega (arith, ints); high = omega (arith, ints) } in
    to_z-of_z w128 v fits ∙ subst (λ (n : ℕ). v ≡ wrap n v) (sym e) (sym (wrap_fits 128 v (lit≤ tt) fits_all))

pub returns-then-w-eq128 : goal.returns-then-w-eq128
returns-then-w-eq128 c = whole _ _ (omega arith) c.ranges.v

pub returns-then-low_bits-eq0 : goal.returns-then-low_bits-eq0
returns-then-low_bits-eq0 c = grind (arith, ints, to_z-of_z, wrap_even)

pub returns-else-low_bits-eq0 : goal.returns-else-low_bits-eq0
returns-else-low_bits-eq0 c = grind (arith, ints, to_z-of_z, wrap_odd)
