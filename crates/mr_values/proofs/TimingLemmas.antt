-- Phases, the greatest count of them, and quotients that are rounded up.
use Rattle.std.proofs.Common.{◌≡◌, ◌∙◌, ℕ, zero, suc, ◌+◌, ◌-◌, ◌*◌, ◌%◌, ◌<◌, ◌≤◌, List, [], ◌∷◌, ℤ, arith, refl, sym, ap, subst, inl, inr}
use Rattle.std.specs.Prelude.{slice_get}
use Rattle.std.proofs.lemmas.Bool.{cases_eq, cases_lt}
use Rattle.std.proofs.lemmas.Nat.{div-add-mod', mod_below}
use Rattle.std.proofs.Math.Nat.{mul-le-mul_right}
use Rattle.mr_values.specs.Sequence.{phase}
use Rattle.mr_values.specs.Timing.{ceil_div, greatest_below, greatest}
use Rattle.mr_values.specs.TimingLaws.{IsLeastQuotient, IsGreatestPhase}

-- ---- quotients

pub ceil_div-least : (n d : ℕ) → 1 ≤ d → IsLeastQuotient n d (ceil_div n d)
ceil_div-least n d some = record { holds = omega (arith, split, below); least = most }
  where
    split : ceil_div n d * d + (n + (d - 1)) % d ≡ n + (d - 1)
    split = div-add-mod' (n + (d - 1)) d

    below : (n + (d - 1)) % d < d
    below = mod_below (n + (d - 1)) d some

    most : (k : ℕ) → n ≤ k * d → ceil_div n d ≤ k
    most k h = elim (cases_lt k (ceil_div n d)) [
      | inl more ↦
          let over : (k + 1) * d ≤ ceil_div n d * d = mul-le-mul_right d (omega arith) in
          absurd (omega (arith, split, over, h, some))
      | inr few ↦ few
    ]

-- ---- phases

pub phase-entry : (factor r k : ℕ) (taps : List ℤ) → 1 ≤ factor → slice_get (phase factor r taps) k ≡ slice_get taps (r + k * factor)
phase-entry factor r k [] some = refl
phase-entry factor zero zero (c ∷ cs) some = ap (λ (n : ℕ). slice_get (c ∷ cs) n) {x = 0} {y = 0 + 0 * factor} (omega arith)
phase-entry factor zero (suc k) (c ∷ cs) some =
    let place : zero + suc k * factor ≡ suc (factor - 1 + k * factor) = omega arith in
    phase-entry factor (factor - 1) k cs some ∙ ap (λ (n : ℕ). slice_get (c ∷ cs) n) (sym place)
phase-entry factor (suc r) k (c ∷ cs) some =
    let place : suc r + k * factor ≡ suc (r + k * factor) = omega arith in
    phase-entry factor r k cs some ∙ ap (λ (n : ℕ). slice_get (c ∷ cs) n) (sym place)

-- ---- the greatest

module _ (counted : List ℤ → ℕ) (factor : ℕ) (taps : List ℤ) where
  pub below_greatest : (r below : ℕ) → r < below → counted (phase factor r taps) ≤ greatest_below counted factor below taps
  below_greatest r zero h = absurd (omega arith)
  below_greatest r (suc below) h = elim (cases_eq r below) [
    | inl e ↦ rw e (omega arith)
    | inr ne ↦ let rest = below_greatest r below (omega arith) in omega arith
  ]

  reached : (below : ℕ) → (r : ℕ) × (r < suc below) × (counted (phase factor r taps) ≡ greatest_below counted factor (suc below) taps)
  reached zero = (0, omega arith, omega arith)
  reached (suc below) =
      let rest = reached below in
      elim (cases_lt (greatest_below counted factor (suc below) taps) (counted (phase factor (suc below) taps))) [
        | inl more ↦ (suc below, omega arith, omega arith)
        | inr few ↦ (rest.0, omega (arith, rest.1), rest.2 ∙ omega arith)
      ]

  pub greatest-is : IsGreatestPhase counted factor taps (greatest counted factor taps)
  greatest-is = record { holds = λ r h. below_greatest r factor h; reached = some factor refl }
    where
      some : (n : ℕ) → n ≡ factor → 1 ≤ factor → (r : ℕ) × (r < factor) × (counted (phase factor r taps) ≡ greatest counted factor taps)
      some zero e h = absurd (omega arith)
      some (suc n) e h = subst (λ (m : ℕ). (r : ℕ) × (r < m) × (counted (phase factor r taps) ≡ greatest_below counted factor m taps)) e (reached n)
