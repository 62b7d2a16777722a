-- The nodes of a clipping: a number fits so many bits where its bits above them are all 0 or all set.
use Rattle.std.proofs.Common.{◌≡◌, ℕ, suc, ◌-◌, ◌/◌, ◌^◌, ◌<◌, ◌≤◌, ◌⊎◌, inl, inr, refl, sym, ◌∙◌, ap, arith, ℤ, pos, negsuc}
use Rattle.std.proofs.lemmas.Int.{ints}
use Rattle.std.proofs.lemmas.Nat.{pow_pos, le-div}
use Rattle.std.proofs.lemmas.Bool.{cases_lt}
use Rattle.std.proofs.Math.Nat.{div-le_self}
use Rattle.mr_values.specs.Width.{FitsWidth, wrap, chosen, floor_quotient}
use Rattle.mr_values.specs.Rounding.{clip_value}
use Rattle.mr_values.proofs.Division.{floor_unique}
use Rattle.mr_values.proofs.WidthLemmas.{wrap_fits, fits_pos}
use Rattle.net_graph.specs.Run.{equality}
use Rattle.rounding_stage.specs.Bits.{least_of, widened, are_zero, are_set, fits_bit, end_of}
use Rattle.rounding_stage.proofs.BitLemmas.{set_none, set_all, same_number, other_number, fits_least, least_twice}
use Rattle.rounding_stage.proofs.EvenLemmas.{widened_is}

zero_twice : wrap 1 (wrap 1 (pos 0)) ≡ pos 0
zero_twice = ap (wrap 1) set_none ∙ set_none

set_twice : wrap 1 (wrap 1 (negsuc 0)) ≡ negsuc 0
set_twice = ap (wrap 1) set_all ∙ set_all

fits_greatest : (b : ℕ) → FitsWidth b (pos (2 ^ (b - 1) - 1))
fits_greatest b = fits_pos b (2 ^ (b - 1) - 1) (let some = pow_pos (b - 1) in omega (arith, some))

greatest_twice : (b : ℕ) → 1 ≤ b → wrap b (wrap b (pos (2 ^ (b - 1) - 1))) ≡ pos (2 ^ (b - 1) - 1)
greatest_twice b h = ap (wrap b) (wrap_fits b (pos (2 ^ (b - 1) - 1)) h (fits_greatest b)) ∙ wrap_fits b (pos (2 ^ (b - 1) - 1)) h (fits_greatest b)

-- the sign of a number of so many bits
quotient_zero : (n d : ℕ) → n < d → floor_quotient (pos n) d ≡ pos 0
quotient_zero n d h = (floor_unique (pos n) (pos 0) d n h (omega (arith, ints))).0

quotient_set : (n d : ℕ) → n < d → floor_quotient (negsuc n) d ≡ negsuc 0
quotient_set n d h = (floor_unique (negsuc n) (negsuc 0) d (d - suc n) (omega (arith, h)) (omega (arith, ints, h))).0

quotient_some : (n d : ℕ) → 0 < d → d ≤ n → 1 ≤ n / d
quotient_some n d some h = le-div 1 n d some (omega (arith, h))

fit_pos : (wide n : ℕ) → FitsWidth wide (pos n) → n < 2 ^ (wide - 1)
fit_pos wide n f = omega (arith, ints, f.high)

fit_neg : (wide n : ℕ) → FitsWidth wide (negsuc n) → n < 2 ^ (wide - 1)
fit_neg wide n f = omega (arith, ints, f.low)

module _ (b wide : ℕ) (some : 1 ≤ b) (some_wide : 1 ≤ wide) where
  -- the nodes by what the number divided by the half is
  by_top : (v top : ℤ) → floor_quotient v (2 ^ (b - 1)) ≡ top → FitsWidth wide top → are_zero b wide v ≡ wrap 1 (equality top (pos 0))
  by_top v top e fit =
      ap (λ (z : ℤ). wrap 1 (equality (wrap wide z) (wrap 1 (wrap 1 (pos 0))))) e ∙ ap (λ (z : ℤ). wrap 1 (equality z (wrap 1 (wrap 1 (pos 0))))) (wrap_fits wide top some_wide fit)
      ∙ ap (λ (z : ℤ). wrap 1 (equality top z)) zero_twice

  by_top_set : (v top : ℤ) → floor_quotient v (2 ^ (b - 1)) ≡ top → FitsWidth wide top → are_set b wide v ≡ wrap 1 (equality top (negsuc 0))
  by_top_set v top e fit =
      ap (λ (z : ℤ). wrap 1 (equality (wrap wide z) (wrap 1 (wrap 1 (negsuc 0))))) e ∙ ap (λ (z : ℤ). wrap 1 (equality z (wrap 1 (wrap 1 (negsuc 0))))) (wrap_fits wide top some_wide fit)
      ∙ ap (λ (z : ℤ). wrap 1 (equality top z)) set_twice

  fits_by : (v top zeros ones : ℤ) → floor_quotient v (2 ^ (b - 1)) ≡ top → FitsWidth wide top → wrap 1 (equality top (pos 0)) ≡ zeros → wrap 1 (equality top (negsuc 0)) ≡ ones → fits_bit b wide v ≡ wrap 1 (chosen zeros zeros ones)
  fits_by v top zeros ones e fit is_zeros is_ones =
      ap (λ (z : ℤ). wrap 1 (chosen z z (are_set b wide v))) (by_top v top e fit ∙ is_zeros) ∙ ap (λ (z : ℤ). wrap 1 (chosen zeros zeros z)) (by_top_set v top e fit ∙ is_ones)

  -- the number itself where it fits, else the end
  clipped_by : (v on to : ℤ) → fits_bit b wide v ≡ on → chosen on v (end_of b wide v) ≡ to → chosen (fits_bit b wide v) v (end_of b wide v) ≡ to
  clipped_by v on to e f = ap (λ (z : ℤ). chosen z v (end_of b wide v)) e ∙ f

  end_high : (n : ℕ) → FitsWidth wide (pos n) → end_of b wide (pos n) ≡ pos (2 ^ (b - 1) - 1)
  end_high n fit =
      ap (λ (z : ℤ). wrap b (chosen (wrap 1 z) (wrap b (wrap b (least_of b))) (wrap b (wrap b (pos (2 ^ (b - 1) - 1)))))) (quotient_zero n (2 ^ (wide - 1)) (fit_pos wide n fit))
      ∙ ap (λ (z : ℤ). wrap b (chosen z (wrap b (wrap b (least_of b))) (wrap b (wrap b (pos (2 ^ (b - 1) - 1)))))) set_none
      ∙ ap (wrap b) (greatest_twice b some) ∙ wrap_fits b (pos (2 ^ (b - 1) - 1)) some (fits_greatest b)

  end_low : (n : ℕ) → FitsWidth wide (negsuc n) → end_of b wide (negsuc n) ≡ least_of b
  end_low n fit =
      ap (λ (z : ℤ). wrap b (chosen (wrap 1 z) (wrap b (wrap b (least_of b))) (wrap b (wrap b (pos (2 ^ (b - 1) - 1)))))) (quotient_set n (2 ^ (wide - 1)) (fit_neg wide n fit))
      ∙ ap (λ (z : ℤ). wrap b (chosen z (wrap b (wrap b (least_of b))) (wrap b (wrap b (pos (2 ^ (b - 1) - 1)))))) set_all
      ∙ ap (wrap b) (least_twice b some) ∙ wrap_fits b (least_of b) some (fits_least b)

  top_fits : (m : ℕ) (n : ℕ) → m ≤ n → FitsWidth wide (pos n) → FitsWidth wide (pos m)
  top_fits m n h f = record { low = omega (arith, ints); high = omega (arith, ints, f.high, h) }

  top_fits_low : (m : ℕ) (n : ℕ) → m ≤ n → FitsWidth wide (negsuc n) → FitsWidth wide (negsuc m)
  top_fits_low m n h f = record { low = omega (arith, ints, f.low, h); high = omega (arith, ints) }

  clip_high : (n : ℕ) → FitsWidth wide (pos n) → (n < 2 ^ (b - 1)) ⊎ (2 ^ (b - 1) ≤ n) → chosen (fits_bit b wide (pos n)) (pos n) (end_of b wide (pos n)) ≡ clip_value b (pos n)
  clip_high n fit (inl less) =
      let same : clip_value b (pos n) ≡ pos n = omega (arith, ints, less) in
      clipped_by (pos n) (negsuc 0) (clip_value b (pos n))
      (fits_by (pos n) (pos 0) (negsuc 0) (pos 0) (quotient_zero n (2 ^ (b - 1)) less) (top_fits 0 n (omega arith) fit) (same_number (pos 0) (pos 0) refl) (other_number (pos 0) (negsuc 0) (λ e. absurd (omega (arith, ints, e)))) ∙ set_all)
      (sym same)
  clip_high n fit (inr more) =
      let above = quotient_some n (2 ^ (b - 1)) (pow_pos (b - 1)) more in
      let top = n / 2 ^ (b - 1) in
      let small : top ≤ n = div-le_self n (2 ^ (b - 1)) in
      let same : clip_value b (pos n) ≡ pos (2 ^ (b - 1) - 1) = omega (arith, ints, more) in
      clipped_by (pos n) (pos 0) (clip_value b (pos n))
      (fits_by (pos n) (pos top) (pos 0) (pos 0) refl (top_fits top n small fit) (other_number (pos top) (pos 0) (λ e. absurd (omega (arith, ints, e, above)))) (other_number (pos top) (negsuc 0) (λ e. absurd (omega (arith, ints, e)))) ∙ set_none)
      (end_high n fit ∙ sym same)

  clip_low : (n : ℕ) → FitsWidth wide (negsuc n) → (n < 2 ^ (b - 1)) ⊎ (2 ^ (b - 1) ≤ n) → chosen (fits_bit b wide (negsuc n)) (negsuc n) (end_of b wide (negsuc n)) ≡ clip_value b (negsuc n)
  clip_low n fit (inl less) =
      let same : clip_value b (negsuc n) ≡ negsuc n = omega (arith, ints, less) in
      clipped_by (negsuc n) (negsuc 0) (clip_value b (negsuc n))
      (fits_by (negsuc n) (negsuc 0) (pos 0) (negsuc 0) (quotient_set n (2 ^ (b - 1)) less) (top_fits_low 0 n (omega arith) fit) (other_number (negsuc 0) (pos 0) (λ e. absurd (omega (arith, ints, e)))) (same_number (negsuc 0) (negsuc 0) refl) ∙ set_all)
      (sym same)
  clip_low n fit (inr more) =
      let above = quotient_some n (2 ^ (b - 1)) (pow_pos (b - 1)) more in
      let top = n / 2 ^ (b - 1) in
      let small : top ≤ n = div-le_self n (2 ^ (b - 1)) in
      let half = pow_pos (b - 1) in
      let same : clip_value b (negsuc n) ≡ least_of b = omega (arith, ints, more, half) in
      clipped_by (negsuc n) (pos 0) (clip_value b (negsuc n))
      (fits_by (negsuc n) (negsuc top) (pos 0) (pos 0) refl (top_fits_low top n small fit) (other_number (negsuc top) (pos 0) (λ e. absurd (omega (arith, ints, e)))) (other_number (negsuc top) (negsuc 0) (λ e. absurd (omega (arith, ints, e, above)))) ∙ set_none)
      (end_low n fit ∙ sym same)

  clip_whole : (v : ℤ) → FitsWidth wide v → chosen (fits_bit b wide v) v (end_of b wide v) ≡ clip_value b v
  clip_whole (pos n) fit = clip_high n fit (cases_lt n (2 ^ (b - 1)))
  clip_whole (negsuc n) fit = clip_low n fit (cases_lt n (2 ^ (b - 1)))

  -- the nodes over the widened number, where their width holds the clipped one
  pub clip_is : (width : ℕ) (v : ℤ) → 1 ≤ width → FitsWidth width (clip_value b v) → FitsWidth wide v → wrap width (chosen (fits_bit b wide (widened wide v)) (widened wide v) (end_of b wide (widened wide v))) ≡ clip_value b v
  clip_is width v some_width fits fit =
      ap (λ (z : ℤ). wrap width (chosen (fits_bit b wide z) z (end_of b wide z))) (widened_is wide v some_wide fit) ∙ ap (wrap width) (clip_whole v fit) ∙ wrap_fits width (clip_value b v) some_width fits
