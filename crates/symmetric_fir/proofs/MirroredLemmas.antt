-- Taps that pass the test of a plan's symmetric filter are mirrored.
use Rattle.std.proofs.Common.{◌≡◌, ℕ, zero, suc, ◌+◌, ◌-◌, ◌<◌, ◌≤◌, ◌⊎◌, List, length, get_or, ap, subst, arith, inl, inr, true, ℤ, pos, negsuc, neg_ℤ}
use Rattle.std.proofs.lemmas.Bool.{cases_eq}
use Rattle.plan_check.specs.Forms.{is_symmetric, is_antisymmetric}
use Rattle.plan_check.proofs.Mirrors.{SymmetricFrom, AntisymmetricFrom, symmetric_more, symmetric_fails, antisymmetric_more, antisymmetric_fails}
use Rattle.symmetric_fir.specs.Pairs.{IsMirrored}

same_or_not : (a b : ℤ) → (a ≡ b) ⊎ (a ≡ b → ⊥)
same_or_not (pos m) (pos n) = elim (cases_eq m n) [ inl e ↦ inl (ap pos e) | inr ne ↦ inr (λ h. let e : m ≡ n = cc in ne e) ]
same_or_not (pos m) (negsuc n) = inr (λ h. absurd (cc))
same_or_not (negsuc m) (pos n) = inr (λ h. absurd (cc))
same_or_not (negsuc m) (negsuc n) = elim (cases_eq m n) [ inl e ↦ inl (ap negsuc e) | inr ne ↦ inr (λ h. let e : m ≡ n = cc in ne e) ]

pub symmetric_mirrored : (taps : List ℤ) → is_symmetric taps ≡ true → IsMirrored 0 taps
symmetric_mirrored taps test = record { sign = omega arith; same = λ i h. at i h (from_start i (omega arith)) }
  where
    at : (i : ℕ) → i < length taps → SymmetricFrom taps i ≡ true → get_or taps i (pos 0) ≡ get_or taps (length taps - 1 - i) (pos 0)
    at i h so_far = elim (same_or_not (get_or taps i (pos 0)) (get_or taps (length taps - 1 - i) (pos 0))) [
      | inl e ↦ e
      | inr ne ↦ absurd (let wrong = symmetric_fails taps i true h ne so_far in cc)
    ]

    from_start : (i : ℕ) → i ≤ length taps → SymmetricFrom taps i ≡ true
    from_start zero h = test
    from_start (suc i) h =
        let next : i + 1 ≡ suc i = omega arith in
        let so_far = from_start i (omega arith) in
        subst (λ (n : ℕ). SymmetricFrom taps n ≡ true) next (symmetric_more taps i true (omega arith) (at i (omega arith) so_far) so_far)

pub antisymmetric_mirrored : (taps : List ℤ) → is_antisymmetric taps ≡ true → IsMirrored 1 taps
antisymmetric_mirrored taps test = record { sign = omega arith; same = λ i h. at i h (from_start i (omega arith)) }
  where
    at : (i : ℕ) → i < length taps → AntisymmetricFrom taps i ≡ true → get_or taps i (pos 0) ≡ neg_ℤ (get_or taps (length taps - 1 - i) (pos 0))
    at i h so_far = elim (same_or_not (get_or taps i (pos 0)) (neg_ℤ (get_or taps (length taps - 1 - i) (pos 0)))) [
      | inl e ↦ e
      | inr ne ↦ absurd (let wrong = antisymmetric_fails taps i true h ne so_far in cc)
    ]

    from_start : (i : ℕ) → i ≤ length taps → AntisymmetricFrom taps i ≡ true
    from_start zero h = test
    from_start (suc i) h =
        let next : i + 1 ≡ suc i = omega arith in
        let so_far = from_start i (omega arith) in
        subst (λ (n : ℕ). AntisymmetricFrom taps n ≡ true) next (antisymmetric_more taps i true (omega arith) (at i (omega arith) so_far) so_far)
