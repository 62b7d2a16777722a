-- Euclid's greatest common divisor.
use Rattle.std.proofs.Common.{◌≡◌, ◌∙◌, ℕ, zero, suc, ◌/◌, ◌%◌, ◌<◌, ◌≤◌, refl, sym, ap, arith}
use Rattle.std.specs.Prelude.{◌≢◌}
use Rattle.std.specs.Int.{IsGcd}
use Rattle.std.proofs.lemmas.Nat.{mod_below, le-div}
use Rattle.std.proofs.lemmas.Nat.Gcd.{IsGcd-from_zero, IsGcd-from_mod, le_of_dvd}
use Rattle.plan_check.specs.Costs.{gcd, gcd_to}

-- enough fuel is as good as any
same : (f g a b : ℕ) → b < f → b < g → gcd_to f a b ≡ gcd_to g a b
same zero g a b h k = absurd (omega arith)
same (suc f) zero a b h k = absurd (omega arith)
same (suc f) (suc g) a zero h k = refl
same (suc f) (suc g) a (suc b) h k =
    let below = mod_below a (suc b) (omega arith) in
    same f g (suc b) (a % suc b) (omega (arith, below)) (omega (arith, below))

step : (a b : ℕ) → 0 < b → gcd a b ≡ gcd b (a % b)
step a zero h = absurd (omega arith)
step a (suc b) h =
    let below = mod_below a (suc b) (omega arith) in
    same (suc b) (suc (a % suc b)) (suc b) (a % suc b) (omega (arith, below)) (omega arith)

pub gcd_step : (a b whole : ℕ) → b ≢ 0 → gcd a b ≡ whole → gcd b (a % b) ≡ whole
gcd_step a b whole h e = sym (step a b (omega arith)) ∙ e

pub gcd_end : (a b whole : ℕ) → b ≡ 0 → gcd a b ≡ whole → a ≡ whole
gcd_end a b whole none e = sym (ap (gcd a) none) ∙ e

pub rest_below : (a b : ℕ) → b ≢ 0 → a % b < b
rest_below a b h = mod_below a b (omega arith)

IsGcd-to : (fuel a b : ℕ) → b < fuel → IsGcd a b (gcd_to fuel a b)
IsGcd-to zero a b h = absurd (omega arith)
IsGcd-to (suc fuel) a zero h = IsGcd-from_zero a 0 refl
IsGcd-to (suc fuel) a (suc b) h =
    IsGcd-from_mod a (suc b) _ (IsGcd-to fuel (suc b) (a % suc b) (omega (arith, mod_below a (suc b) (omega arith))))

-- it is the greatest common divisor
pub IsGcd-gcd : (a b : ℕ) → IsGcd a b (gcd a b)
IsGcd-gcd a b = IsGcd-to (suc b) a b (omega arith)

pub some_left : (a b : ℕ) → 1 ≤ a → 1 ≤ gcd a b → 1 ≤ a / gcd a b
some_left a b h k =
    let divides = (IsGcd-gcd a b).0 in
    let least : gcd a b ≤ a = le_of_dvd (omega arith) divides in
    le-div 1 a (gcd a b) (omega arith) (omega (arith, least))
