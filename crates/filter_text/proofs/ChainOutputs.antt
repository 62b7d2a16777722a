-- The outputs of a run, tick by tick.
use Rattle.std.proofs.Common.{◌≡◌, ℕ, zero, suc, ◌+◌, ◌-◌, ◌*◌, ◌/◌, ◌%◌, ◌<◌, ◌≤◌, Bool, true, false, refl, List, ◌∷◌, ◌++◌, sym, ◌∙◌, ap, arith, inl, inr, ℤ}
use Rattle.std.specs.Prelude.{nat_le, ◌==◌}
use Rattle.std.proofs.lemmas.Bool.{cases_lt, cases_eq, and_parts, and_from, leb-true, le-leb, eqb-true, eq-eqb}
use Rattle.std.proofs.lemmas.Nat.{div-mul-add, mod-mul-add, div-add-mod'}
use Rattle.std.proofs.Math.Nat.{add-div_right, div-eq_of_lt}
use Rattle.mr_values.specs.Timing.{ceil_div}
use Rattle.pipeline_balance.specs.Gate.{IsTickOf, HasTaken}
use Rattle.pipeline_balance.proofs.TakenLemmas.{tick_is}
use Rattle.shown_module.specs.Shown.{pair_if, shown_from}
use Rattle.filter_text.specs.Headline.{is_output_tick, outputs_from, outputs_within}

-- ---- how many outputs are left

none_left : (n period : ℕ) → 1 ≤ period → n ≡ 0 → ceil_div n period ≡ 0
none_left n period some e = let small : n + (period - 1) < period = omega arith in div-eq_of_lt small

one_less : (m period : ℕ) → 1 ≤ period → ceil_div (suc m) period ≡ suc (ceil_div (suc m - period) period)
one_less m period some =
    let first : suc m + (period - 1) ≡ m + period = omega arith in
    ap (λ (n : ℕ). n / period) first ∙ add-div_right m some ∙ omega (arith, rest)
  where
    rest : m / period ≡ ceil_div (suc m - period) period
    rest = elim (cases_lt m period) [
      | inl less ↦ div-eq_of_lt less ∙ sym (none_left (suc m - period) period some (omega arith))
      | inr more ↦ ap (λ (n : ℕ). n / period) (omega arith)
    ]

-- ---- from tick to tick

module _ (shown : ℕ → Bool) (at : ℕ → ℤ) (latency period : ℕ) (value : ℕ → ℤ) (some : 1 ≤ period)
    (sets : (t : ℕ) → IsTickOf period latency t → shown t ≡ true) (clears : (t : ℕ) → (IsTickOf period latency t → ⊥) → shown t ≡ false)
    (is : (n : ℕ) → at (latency + n * period) ≡ value n) where
  past : (n t : ℕ) → HasTaken period latency n t → t ≡ latency + n * period → HasTaken period latency (suc n) (suc t)
  past n t h e = (omega arith, omega arith)

  before : (n t : ℕ) → HasTaken period latency n t → (t ≡ latency + n * period → ⊥) → HasTaken period latency n (suc t)
  before zero t h ne = elim (cases_eq t latency) [ inl e ↦ absurd (ne (omega arith)) | inr other ↦ omega arith ]
  before (suc k) t h ne = let after = h.0 in let until = h.1 in elim (cases_eq t (latency + suc k * period)) [ inl e ↦ absurd (ne e) | inr other ↦ (omega arith, omega arith) ]

  until : (n t : ℕ) → HasTaken period latency n t → t ≤ latency + n * period
  until zero t h = omega arith
  until (suc k) t h = h.1

  pub walk : (count n t : ℕ) → HasTaken period latency n t → shown_from shown at t count ≡ outputs_from latency period value n (ceil_div (t + count - (latency + n * period)) period)
  walk zero n t h =
      let u = until n t h in
      ap (outputs_from latency period value n) (sym (none_left (t + 0 - (latency + n * period)) period some (omega arith)))
  walk (suc count) n t h = elim (cases_eq t (latency + n * period)) [
    | inl e ↦
        let rest = walk count (suc n) (suc t) (past n t h e) in
        let less : suc count - period ≡ suc t + count - (latency + suc n * period) = omega arith in
        let many : suc (ceil_div (suc t + count - (latency + suc n * period)) period) ≡ ceil_div (t + suc count - (latency + n * period)) period =
        ap (λ (m : ℕ). suc (ceil_div m period)) (sym less) ∙ sym (one_less count period some) ∙ ap (λ (m : ℕ). ceil_div m period) (omega arith) in
        ap (λ (b : Bool). pair_if b (t, at t) ++ shown_from shown at (suc t) count) (sets t (n, e))
        ∙ ap (λ (s : ℕ). (s, at s) ∷ shown_from shown at (suc t) count) e
        ∙ ap (λ (z : ℤ). (latency + n * period, z) ∷ shown_from shown at (suc t) count) (is n)
        ∙ ap (λ (xs : List (ℕ × ℤ)). (latency + n * period, value n) ∷ xs) rest
        ∙ ap (outputs_from latency period value n) many
    | inr ne ↦
        let rest = walk count n (suc t) (before n t h ne) in
        let same : suc t + count - (latency + n * period) ≡ t + suc count - (latency + n * period) = omega arith in
        ap (λ (b : Bool). pair_if b (t, at t) ++ shown_from shown at (suc t) count) (clears t (λ tick. ne (tick_is period latency n t h tick)))
        ∙ rest
        ∙ ap (λ (m : ℕ). outputs_from latency period value n (ceil_div m period)) same
  ]

  pub all_outputs : (ticks : ℕ) → shown_from shown at 0 ticks ≡ outputs_within latency period value ticks
  all_outputs ticks = walk ticks 0 0 (omega arith) ∙ ap (λ (m : ℕ). outputs_from latency period value 0 (ceil_div m period)) (omega arith)

-- ---- the ticks of outputs

module _ (latency period : ℕ) (some : 1 ≤ period) where
  behind : (n : ℕ) → latency + n * period - latency ≡ n * period + 0
  behind n = omega arith

  pub output_number : (n : ℕ) → (latency + n * period - latency) / period ≡ n
  output_number n = ap (λ (m : ℕ). m / period) (behind n) ∙ div-mul-add n period 0 some

  -- an output's tick is one of these, and its number is found by division
  pub tick_of : (t : ℕ) → is_output_tick latency period t ≡ true → t ≡ latency + (t - latency) / period * period
  tick_of t is =
      let both = and_parts (nat_le latency t) ((t - latency) % period == 0) is in
      omega (arith, leb-true latency t both.0, eqb-true ((t - latency) % period) 0 both.1, div-add-mod' (t - latency) period)

  pub of_tick : (n : ℕ) → is_output_tick latency period (latency + n * period) ≡ true
  of_tick n =
      let rest : (latency + n * period - latency) % period ≡ 0 = ap (λ (m : ℕ). m % period) (behind n) ∙ mod-mul-add n period 0 some in
      and_from (nat_le latency (latency + n * period)) ((latency + n * period - latency) % period == 0) (le-leb latency (latency + n * period) (omega arith)) (eq-eqb ((latency + n * period - latency) % period) 0 rest)

  pub is_set : (t : ℕ) → IsTickOf period latency t → is_output_tick latency period t ≡ true
  is_set t tick = ap (is_output_tick latency period) tick.1 ∙ of_tick tick.0

  pub is_clear : (t : ℕ) → (IsTickOf period latency t → ⊥) → is_output_tick latency period t ≡ false
  is_clear t never = by (is_output_tick latency period t) refl
    where
      by : (b : Bool) → is_output_tick latency period t ≡ b → is_output_tick latency period t ≡ false
      by true e = absurd (never ((t - latency) / period, tick_of t e))
      by false e = e
