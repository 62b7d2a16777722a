-- The nodes of a rounding to even: the quotient, less the bit that raises it, which is -1 where it is set.
use Rattle.std.proofs.Common.{◌≡◌, ℕ, zero, suc, ◌-◌, ◌^◌, ◌<◌, ◌≤◌, ◌⊎◌, inl, inr, sym, ◌∙◌, ap, arith, lit<, ℤ, pos, negsuc, ◌+ℤ◌, ◌-ℤ◌, ◌*ℤ◌}
use Rattle.std.proofs.lemmas.Int.{ints}
use Rattle.std.proofs.lemmas.Nat.{pow_pos}
use Rattle.std.proofs.Math.Nat.{div-le_self}
use Rattle.mr_values.specs.Width.{FitsWidth, wrap, chosen, floor_quotient, floor_remainder}
use Rattle.mr_values.specs.Rounding.{half_even}
use Rattle.mr_values.proofs.Division.{floor_remainder_below}
use Rattle.mr_values.proofs.HalfEvenLemmas.{Raised, raised}
use Rattle.mr_values.proofs.WidthLemmas.{wrap_fits}
use Rattle.net_graph.specs.Run.{selected}
use Rattle.rounding_stage.specs.Bits.{least_of, widened, tie_bit, raising_bit}
use Rattle.rounding_stage.proofs.BitLemmas.{bit_value, wrap_value, same_number, other_number, low_half, high_half, one_bit, low_bits, least_twice, tie_low, tie_high, tie_half}

tie_is : (s : ℕ) (v : ℤ) → 1 ≤ s → floor_remainder v (2 ^ s) ≡ 2 ^ (s - 1) → tie_bit s v ≡ negsuc 0
tie_is s v h e =
    same_number (wrap s (selected v (s - 1) 0)) (wrap s (wrap s (least_of s)))
    (ap (wrap s) (low_bits s v h) ∙ tie_half s (floor_remainder v (2 ^ s)) h e ∙ sym (least_twice s h))

tie_isnt : (s : ℕ) (v : ℤ) → 1 ≤ s → (wrap s (pos (floor_remainder v (2 ^ s))) ≡ least_of s → ⊥) → tie_bit s v ≡ pos 0
tie_isnt s v h other =
    other_number (wrap s (selected v (s - 1) 0)) (wrap s (wrap s (least_of s))) (λ e. other (sym (ap (wrap s) (low_bits s v h)) ∙ e ∙ least_twice s h))

raising_is : (s : ℕ) (v : ℤ) (up : ℕ) → 1 ≤ s → Raised s v up → raising_bit s v ≡ bit_value up
raising_is s v up h r = by r.why
  where
    less : floor_remainder v (2 ^ s) < 2 ^ s
    less = floor_remainder_below v (2 ^ s) (pow_pos s)

    bit : (k : ℕ) → floor_remainder (floor_quotient v (2 ^ (s - 1))) 2 ≡ k → wrap 1 (wrap 1 (selected v (s - 1) (s - 1))) ≡ bit_value k
    bit k e = ap (wrap 1) (one_bit v (s - 1)) ∙ wrap_value (floor_remainder (floor_quotient v (2 ^ (s - 1))) 2) ∙ ap bit_value e

    by : (floor_remainder v (2 ^ s) < 2 ^ (s - 1)) × (up ≡ 0) ⊎ ((2 ^ (s - 1) < floor_remainder v (2 ^ s)) × (up ≡ 1)) ⊎ ((floor_remainder v (2 ^ s) ≡ 2 ^ (s - 1)) × (up ≡ floor_remainder (floor_quotient v (2 ^ s)) 2))
        → raising_bit s v ≡ bit_value up
    by (inl w) =
        ap (λ (z : ℤ). wrap 1 (chosen z (wrap 1 (selected v s s)) (wrap 1 (selected v (s - 1) (s - 1))))) (tie_isnt s v h (tie_low s (floor_remainder v (2 ^ s)) h w.0))
        ∙ bit 0 (low_half s v h w.0).is ∙ ap bit_value (sym w.1)
    by (inr (inl w)) =
        ap (λ (z : ℤ). wrap 1 (chosen z (wrap 1 (selected v s s)) (wrap 1 (selected v (s - 1) (s - 1))))) (tie_isnt s v h (tie_high s (floor_remainder v (2 ^ s)) h w.0 less))
        ∙ bit 1 (high_half s v h (omega (arith, w.0))).is ∙ ap bit_value (sym w.1)
    by (inr (inr w)) =
        ap (λ (z : ℤ). wrap 1 (chosen z (wrap 1 (selected v s s)) (wrap 1 (selected v (s - 1) (s - 1))))) (tie_is s v h w.0)
        ∙ ap (wrap 1) (one_bit v s) ∙ wrap_value (floor_remainder (floor_quotient v (2 ^ s)) 2) ∙ ap bit_value (sym w.1)

raised_small : (s : ℕ) (v : ℤ) (up : ℕ) → Raised s v up → up < 2
raised_small s v up r = by r.why
  where
    by : (floor_remainder v (2 ^ s) < 2 ^ (s - 1)) × (up ≡ 0) ⊎ ((2 ^ (s - 1) < floor_remainder v (2 ^ s)) × (up ≡ 1)) ⊎ ((floor_remainder v (2 ^ s) ≡ 2 ^ (s - 1)) × (up ≡ floor_remainder (floor_quotient v (2 ^ s)) 2)) → up < 2
    by (inl w) = omega (arith, w.1)
    by (inr (inl w)) = omega (arith, w.1)
    by (inr (inr w)) = let small = floor_remainder_below (floor_quotient v (2 ^ s)) 2 (lit< tt) in omega (arith, w.1, small)

less_bit : (q : ℤ) (up : ℕ) → up < 2 → q -ℤ bit_value up ≡ q +ℤ pos up
less_bit q zero h = omega (arith, ints)
less_bit q (suc zero) h = omega (arith, ints)
less_bit q (suc (suc up)) h = absurd (omega arith)

pub widened_is : (wide : ℕ) (v : ℤ) → 1 ≤ wide → FitsWidth wide v → widened wide v ≡ v
widened_is wide v h fit = let one : v *ℤ pos (2 ^ 0) ≡ v = omega (arith, ints) in ap (wrap wide) one ∙ wrap_fits wide v h fit

-- the difference is the number rounded to even, where its width holds that
pub even_is : (s wide width : ℕ) (v : ℤ) → 1 ≤ s → 1 ≤ wide → 1 ≤ width → FitsWidth wide v → FitsWidth wide (floor_quotient v (2 ^ s)) → FitsWidth width (half_even s v)
    → wrap width (wrap wide (floor_quotient (widened wide v) (2 ^ s)) -ℤ raising_bit s (widened wide v)) ≡ half_even s v
even_is s wide width v h some some_width fit quotient_fit fits =
    let up = raised s v h in
    let quotient = wrap_fits wide (floor_quotient v (2 ^ s)) some quotient_fit in
    ap (λ (z : ℤ). wrap width (wrap wide (floor_quotient z (2 ^ s)) -ℤ raising_bit s z)) (widened_is wide v some fit)
    ∙ ap (λ (z : ℤ). wrap width (z -ℤ raising_bit s v)) quotient
    ∙ ap (λ (z : ℤ). wrap width (floor_quotient v (2 ^ s) -ℤ z)) (raising_is s v up.0 h up.1)
    ∙ ap (wrap width) (less_bit (floor_quotient v (2 ^ s)) up.0 (raised_small s v up.0 up.1) ∙ sym up.1.is)
    ∙ wrap_fits width (half_even s v) some_width fits

-- the quotient of a number fits where the number does
pub quotient_within : (wide s : ℕ) (v : ℤ) → FitsWidth wide v → FitsWidth wide (floor_quotient v (2 ^ s))
quotient_within wide s (pos n) f = let small = div-le_self n (2 ^ s) in record { low = omega (arith, ints); high = omega (arith, ints, f.high, small) }
quotient_within wide s (negsuc n) f = let small = div-le_self n (2 ^ s) in record { low = omega (arith, ints, f.low, small); high = omega (arith, ints) }
