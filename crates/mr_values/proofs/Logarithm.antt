-- Logarithms, rounded up, by halving.
use Rattle.std.proofs.Common.{◌≡◌, ◌∙◌, ℕ, zero, suc, ◌+◌, ◌/◌, ◌<◌, ◌≤◌, refl, sym, ap, arith, ◌*◌, ◌^◌, inl, inr}
use Rattle.std.proofs.lemmas.Bool.{cases_lt}
use Rattle.std.proofs.Math.Nat.{pow-suc}
use Rattle.mr_values.specs.Timing.{ceil_log, ceil_log_to}
use Rattle.mr_values.specs.TimingLaws.{IsLeastLog}

one_step : (fuel n : ℕ) → 1 < n → ceil_log_to (suc fuel) n ≡ suc (ceil_log_to fuel ((n + 1) / 2))
one_step fuel n h = grind arith

no_step : (fuel n : ℕ) → n ≤ 1 → ceil_log_to fuel n ≡ 0
no_step zero n h = refl
no_step (suc fuel) n h = grind arith

-- enough fuel is as good as any
same : (a b n : ℕ) → n ≤ a → n ≤ b → ceil_log_to a n ≡ ceil_log_to b n
same zero b n h k = sym (no_step b n (omega arith))
same (suc a) zero n h k = no_step (suc a) n (omega arith)
same (suc a) (suc b) zero h k = no_step (suc a) 0 (omega arith) ∙ sym (no_step (suc b) 0 (omega arith))
same (suc a) (suc b) (suc zero) h k = no_step (suc a) 1 (omega arith) ∙ sym (no_step (suc b) 1 (omega arith))
same (suc a) (suc b) (suc (suc n)) h k =
    one_step a (suc (suc n)) (omega arith)
    ∙ ap suc (same a b ((suc (suc n) + 1) / 2) (omega arith) (omega arith))
    ∙ sym (one_step b (suc (suc n)) (omega arith))

ceil_log_step : (n : ℕ) → 1 < n → ceil_log n ≡ suc (ceil_log ((n + 1) / 2))
ceil_log_step zero h = absurd (omega arith)
ceil_log_step (suc n) h = one_step n (suc n) h ∙ ap suc (same n ((suc n + 1) / 2) ((suc n + 1) / 2) (omega arith) (omega arith))

pub ceil_log_more : (level n whole : ℕ) → 1 < n → level + ceil_log n ≡ whole → level + 1 + ceil_log ((n + 1) / 2) ≡ whole
ceil_log_more level n whole h e = omega (arith, ceil_log_step n h)

pub ceil_log_end : (level n whole : ℕ) → n ≤ 1 → level + ceil_log n ≡ whole → level ≡ whole
ceil_log_end level n whole h e = omega (arith, no_step n n h)

small_to : (fuel n : ℕ) → ceil_log_to fuel n ≤ n
small_to zero n = omega arith
small_to (suc fuel) zero = omega (arith, no_step (suc fuel) 0 (omega arith))
small_to (suc fuel) (suc zero) = omega (arith, no_step (suc fuel) 1 (omega arith))
small_to (suc fuel) (suc (suc n)) = omega (arith, one_step fuel (suc (suc n)) (omega arith), small_to fuel ((suc (suc n) + 1) / 2))

pub ceil_log_small : (n : ℕ) → ceil_log n ≤ n
ceil_log_small n = small_to n n

power_to : (fuel n : ℕ) → n ≤ fuel → n ≤ 2 ^ ceil_log_to fuel n
power_to zero n h = omega arith
power_to (suc fuel) zero h = let none = no_step (suc fuel) 0 (omega arith) in omega arith
power_to (suc fuel) (suc zero) h = let none = no_step (suc fuel) 1 (omega arith) in let one : 2 ^ ceil_log_to (suc fuel) 1 ≡ 2 ^ 0 = ap (λ (k : ℕ). 2 ^ k) none in omega arith
power_to (suc fuel) (suc (suc n)) h =
    let half = power_to fuel ((suc (suc n) + 1) / 2) (omega arith) in
    let step : 2 ^ ceil_log_to (suc fuel) (suc (suc n)) ≡ 2 ^ suc (ceil_log_to fuel ((suc (suc n) + 1) / 2)) = ap (λ (k : ℕ). 2 ^ k) (one_step fuel (suc (suc n)) (omega arith)) in
    let twice : 2 ^ suc (ceil_log_to fuel ((suc (suc n) + 1) / 2)) ≡ 2 ^ ceil_log_to fuel ((suc (suc n) + 1) / 2) * 2 = pow-suc 2 (ceil_log_to fuel ((suc (suc n) + 1) / 2)) in
    omega arith

-- n is at most two to its logarithm
pub ceil_log_power : (n : ℕ) → n ≤ 2 ^ ceil_log n
ceil_log_power n = power_to n n (omega arith)

-- the logarithm of what is at most a power of two
pub ceil_log_bound : (k n : ℕ) → n ≤ 2 ^ k → ceil_log n ≤ k
ceil_log_bound zero n h = let none = no_step n n h in omega arith
ceil_log_bound (suc k) n h = elim (cases_lt 1 n) [
  | inr few ↦ let none = no_step n n few in omega arith
  | inl more ↦
      let twice : 2 ^ suc k ≡ 2 ^ k * 2 = pow-suc 2 k in
      let half = ceil_log_bound k ((n + 1) / 2) (omega arith) in
      let step = ceil_log_step n more in
      omega arith
]

pub ceil_log_least : (n : ℕ) → IsLeastLog n (ceil_log n)
ceil_log_least n = record { holds = ceil_log_power n; least = λ k h. ceil_log_bound k n h }
