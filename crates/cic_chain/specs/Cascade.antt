-- Integrators, combs and a change of rate, with every result cut in one way. Hogenauer 1981, II.
use Rattle.std.specs.Prelude.{◌≡◌, ℕ, zero, suc, ◌≤◌, ℤ, pos, negsuc, ◌+ℤ◌, ◌-ℤ◌}
use Rattle.mr_values.specs.Sequence.{Sequence, up, down, cic_up, cic_down}
use Rattle.mr_values.specs.Width.{pattern, wrap, FitsWidth}

-- 0 at every index below 0
abbrev pub IsCausal : Sequence → Type 0
IsCausal x = (n : ℕ) → x (negsuc n) ≡ pos 0

-- numbers as they are, never cut
abbrev pub whole : ℤ → ℤ
whole v = v

-- the sum of x from index 0 to n, cut at every step
abbrev pub sum_to : (ℤ → ℤ) → Sequence → ℕ → ℤ
sum_to cut x zero = cut (x (pos zero))
sum_to cut x (suc n) = cut (sum_to cut x n +ℤ x (pos (suc n)))

-- y[n] = y[n - 1] + x[n], and 0 before index 0
abbrev pub integrator : (ℤ → ℤ) → Sequence → Sequence
integrator cut x (pos n) = sum_to cut x n
integrator cut x (negsuc n) = pos 0

-- x[n - delay], by as many registers
abbrev pub earlier : (ℤ → ℤ) → ℕ → Sequence → Sequence
earlier cut zero x n = x n
earlier cut (suc delay) x n = cut (earlier cut delay x (n -ℤ pos 1))

-- y[n] = x[n] - x[n - delay]
abbrev pub comb : (ℤ → ℤ) → ℕ → Sequence → Sequence
comb cut delay x n = cut (x n -ℤ earlier cut delay x n)

abbrev pub integrators : (ℤ → ℤ) → ℕ → Sequence → Sequence
integrators cut zero x = x
integrators cut (suc n) x = integrator cut (integrators cut n x)

abbrev pub combs : (ℤ → ℤ) → ℕ → ℕ → Sequence → Sequence
combs cut zero delay x = x
combs cut (suc n) delay x = comb cut delay (combs cut n delay x)

-- so many integrators, every `factor`-th value, and as many combs
abbrev pub decimator : (ℤ → ℤ) → ℕ → ℕ → ℕ → Sequence → Sequence
decimator cut factor stages delay x = combs cut stages delay (down factor (integrators cut stages x))

-- so many combs, `factor` - 1 zeros after each value, and as many integrators
abbrev pub interpolator : (ℤ → ℤ) → ℕ → ℕ → ℕ → Sequence → Sequence
interpolator cut factor stages delay x = integrators cut stages (up factor (combs cut stages delay x))

-- Without cuts they are the elements.
abbrev pub WholeDown : Type 0
WholeDown = (factor stages delay : ℕ) (x : Sequence) → IsCausal x → (n : ℤ) → decimator whole factor stages delay x n ≡ cic_down factor stages delay x n

abbrev pub WholeUp : Type 0
WholeUp = (factor stages delay : ℕ) (x : Sequence) → 1 ≤ factor → IsCausal x → (n : ℤ) → interpolator whole factor stages delay x n ≡ cic_up factor stages delay x n

-- Cut to one width at every step, they are the elements' values where these fit the width, whatever was cut before.
abbrev pub WrappedDown : Type 0
WrappedDown = (width factor stages delay : ℕ) (x : Sequence) → 1 ≤ width → 1 ≤ stages → IsCausal x → (n : ℤ)
    → FitsWidth width (cic_down factor stages delay x n) → decimator (wrap width) factor stages delay x n ≡ cic_down factor stages delay x n

abbrev pub WrappedUp : Type 0
WrappedUp = (width factor stages delay : ℕ) (x : Sequence) → 1 ≤ width → 1 ≤ factor → 1 ≤ stages → IsCausal x → (n : ℤ)
    → FitsWidth width (cic_up factor stages delay x n) → interpolator (wrap width) factor stages delay x n ≡ cic_up factor stages delay x n

-- the two sequences are the same modulo 2^width at every index
abbrev pub AreCongruent : ℕ → Sequence → Sequence → Type 0
AreCongruent width x y = (n : ℤ) → pattern width (x n) ≡ pattern width (y n)

-- Registers that wrap hold their whole numbers modulo 2^width: each integrator, each comb, and each register of a comb's delay, on a stream
-- that is itself so.
abbrev pub WrapsIntegrators : Type 0
WrapsIntegrators = (width stages : ℕ) (x y : Sequence) → 1 ≤ width → AreCongruent width x y → AreCongruent width (integrators (wrap width) stages x) (integrators whole stages y)

abbrev pub WrapsCombs : Type 0
WrapsCombs = (width stages delay : ℕ) (x y : Sequence) → 1 ≤ width → AreCongruent width x y → AreCongruent width (combs (wrap width) stages delay x) (combs whole stages delay y)

abbrev pub WrapsDelays : Type 0
WrapsDelays = (width delay : ℕ) (x y : Sequence) → 1 ≤ width → AreCongruent width x y → AreCongruent width (earlier (wrap width) delay x) (earlier whole delay y)
