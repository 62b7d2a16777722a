-- How great the taps of a filter are together.
use Rattle.std.proofs.Common.{◌*◌, ◌^◌, ◌≤◌, List, [], ◌∷◌, length, arith, ℤ, pos, negsuc, neg_ℤ, ◌≤ℤ◌, All, unsigned_abs}
use Rattle.std.proofs.lemmas.Int.{ints}
use Rattle.std.proofs.lemmas.List.Elements.{All-head, All-tail}
use Rattle.std.proofs.Math.Nat.{mul-le-mul_right}
use Rattle.mr_values.specs.Value.{AreTaps}
use Rattle.stage_law.specs.Streams.{magnitudes}

abs_small : (c : ℤ) → neg_ℤ (pos (2 ^ 62)) ≤ℤ c → c ≤ℤ pos (2 ^ 62) → unsigned_abs c ≤ 2 ^ 62
abs_small (pos n) low high = omega (arith, ints)
abs_small (negsuc n) low high = omega (arith, ints)

magnitudes_few : (taps : List ℤ) → All (λ c. (neg_ℤ (pos (2 ^ 62)) ≤ℤ c) × (c ≤ℤ pos (2 ^ 62))) taps → magnitudes taps ≤ length taps * 2 ^ 62
magnitudes_few [] h = omega arith
magnitudes_few (c ∷ cs) h =
    let own = All-head (λ (d : ℤ). (neg_ℤ (pos (2 ^ 62)) ≤ℤ d) × (d ≤ℤ pos (2 ^ 62))) c cs h in
    let rest = magnitudes_few cs (All-tail (λ (d : ℤ). (neg_ℤ (pos (2 ^ 62)) ≤ℤ d) × (d ≤ℤ pos (2 ^ 62))) c cs h) in
    let small : unsigned_abs c ≤ 2 ^ 62 = abs_small c own.0 own.1 in
    omega arith

pub gain_small : (taps : List ℤ) → AreTaps taps → magnitudes taps ≤ 2 ^ 72
gain_small taps t = let bound = magnitudes_few taps t.2 in let few = t.1 in let more : length taps * 2 ^ 62 ≤ 1024 * 2 ^ 62 = mul-le-mul_right (2 ^ 62) few in omega arith
