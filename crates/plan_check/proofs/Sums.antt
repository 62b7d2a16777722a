-- Sums of taps, and powers.
use Rattle.std.proofs.Common.{◌≡◌, ℕ, zero, suc, ◌+◌, ◌-◌, ◌*◌, ◌%◌, ◌^◌, ◌≤◌, refl, arith, List, [], ◌∷◌, ℤ, pos, negsuc, ◌<◌, lit<, ap}
use native.Mathlib.Nat.{pow-le-pow_left, pow-le-pow_right, mul-le-mul_left}
use Rattle.std.proofs.lemmas.Nat.{one_shl, pow-add, pow_pos}
use Rattle.mr_values.specs.declared.plan.Mode.{Mode}
use Rattle.mr_values.specs.declared.plan.Mode.TheVariants.{HalfUp, HalfEven, Floor}
use Rattle.plan_check.specs.Groups.{IsCic}
use Rattle.plan_check.specs.Amounts.{rises, falls, magnitude, round_error}

pub magnitude_sums : (taps : List ℤ) → magnitude taps ≡ rises taps + falls taps
magnitude_sums [] = refl
magnitude_sums (pos n ∷ cs) = omega (arith, magnitude_sums cs)
magnitude_sums (negsuc n ∷ cs) = omega (arith, magnitude_sums cs)

pub cic_gain_small : (factor stages delay : ℕ) → IsCic factor stages delay → (factor * delay) ^ stages ≤ 2 ^ 104
cic_gain_small factor stages delay h =
    let base : factor * delay ≤ 8192 = omega (arith, h.factor_high, mul-le-mul_left factor h.delay_high) in
    let wide = pow-le-pow_left base stages in
    let some : 0 < 8192 = lit< tt in
    let long : 8192 ^ stages ≤ 8192 ^ 8 = pow-le-pow_right some h.stages_high in
    omega (arith, wide, long)

pub cic_length_small : (factor stages delay : ℕ) → IsCic factor stages delay → stages * (factor * delay - 1) ≤ 2 ^ 17
cic_length_small factor stages delay h =
    let base : factor * delay - 1 ≤ 8192 = omega (arith, h.factor_high, mul-le-mul_left factor h.delay_high) in
    omega (arith, mul-le-mul_left stages base, h.stages_high)

pub power_shift : (k : ℕ) → k ≤ 126 → (1 * 2 ^ k) % 2 ^ 128 ≡ 2 ^ k
power_shift k h = one_shl k 128 (omega arith)

-- what one rounding is off, at a scale
round_error_low : (mode : Mode) (shift : ℕ) → 1 ≤ shift → 2 ^ (shift - 1) ≤ round_error mode shift
round_error_low HalfUp shift h = omega arith
round_error_low HalfEven shift h = omega arith
round_error_low Floor zero h = absurd (omega arith)
round_error_low Floor (suc k) h =
    let e : suc k - 1 ≡ k = omega arith in
    let two : 2 ^ (1 + k) ≡ 2 ^ 1 * 2 ^ k = pow-add 2 1 k in
    let next : 1 + k ≡ suc k = omega arith in
    let both : 2 ^ suc k ≡ 2 ^ (1 + k) = ap (λ (n : ℕ). 2 ^ n) (omega arith) in
    rw e (omega (arith, two, both, pow_pos k))

round_error_high : (mode : Mode) (shift : ℕ) → 1 ≤ shift → round_error mode shift ≤ 2 ^ shift
round_error_high HalfUp shift h = let some : 0 < 2 = lit< tt in pow-le-pow_right some (omega arith)
round_error_high HalfEven shift h = let some : 0 < 2 = lit< tt in pow-le-pow_right some (omega arith)
round_error_high Floor shift h = omega arith

pub rounding_large : (scale shift : ℕ) (mode : Mode) → 126 < scale + shift → 1 ≤ shift → 2 ^ 125 < 2 ^ scale * round_error mode shift
rounding_large scale shift mode over h =
    let low = mul-le-mul_left (2 ^ scale) (round_error_low mode shift h) in
    let product : 2 ^ (scale + (shift - 1)) ≡ 2 ^ scale * 2 ^ (shift - 1) = pow-add 2 scale (shift - 1) in
    let some : 0 < 2 = lit< tt in
    let long : 2 ^ 126 ≤ 2 ^ (scale + (shift - 1)) = pow-le-pow_right some {i = 126} {j = scale + (shift - 1)} (omega arith) in
    omega (arith, low, product, long)

pub rounding_small : (scale shift : ℕ) (mode : Mode) → scale + shift ≤ 126 → 1 ≤ shift → 2 ^ scale * round_error mode shift ≤ 2 ^ 126
rounding_small scale shift mode within h =
    let high = mul-le-mul_left (2 ^ scale) (round_error_high mode shift h) in
    let product : 2 ^ (scale + shift) ≡ 2 ^ scale * 2 ^ shift = pow-add 2 scale shift in
    let some : 0 < 2 = lit< tt in
    let long : 2 ^ (scale + shift) ≤ 2 ^ 126 = pow-le-pow_right some {i = scale + shift} {j = 126} within in
    omega (arith, high, product, long)

pub table_shift : (k : ℕ) → k ≤ 6 → (1 * 2 ^ k) % 2 ^ 64 ≡ 2 ^ k
table_shift k h = one_shl k 64 (omega arith)

pub table_small : (k : ℕ) → k ≤ 6 → 2 ^ k ≤ 64
table_small k h = let some : 0 < 2 = lit< tt in pow-le-pow_right some {i = k} {j = 6} h
