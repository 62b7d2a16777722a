-- What registers hold that begin anew at the ticks of a period.
use Rattle.std.proofs.Common.{◌≡◌, ℕ, zero, suc, ◌+◌, ◌*◌, ◌<◌, ◌≤◌, refl, ◌∙◌, ap, arith, ℤ, pos, ◌+ℤ◌, ◌-ℤ◌, ◌*ℤ◌}
use Rattle.mr_values.specs.Width.{set_bit, chosen}
use Rattle.pipeline_balance.specs.Gate.{IsTickOf}
use Rattle.pipeline_balance.proofs.TakenLemmas.{off_tick}
use Rattle.bit_serial.specs.Bits.{shifted}
use Rattle.distributed_table.specs.Serial.{accumulated}

-- a register that takes `source` at the ticks of the period, and what `step` makes of its own value at others
module _ (period first : ℕ) (bit source own : ℕ → ℤ) (step : ℕ → ℤ → ℤ) (steps : (t : ℕ) → own (suc t) ≡ chosen (bit t) (source t) (step t (own t)))
    (sets : (t : ℕ) → IsTickOf period first t → bit t ≡ set_bit) (clears : (t : ℕ) → (IsTickOf period first t → ⊥) → bit t ≡ pos 0) where
  pub begins_anew : (n : ℕ) → own (first + n * period + 1) ≡ source (first + n * period)
  begins_anew n =
      let t : ℕ = first + n * period in
      let next : t + 1 ≡ suc t = omega arith in
      ap own next ∙ steps t ∙ ap (λ (b : ℤ). chosen b (source t) (step t (own t))) (sets t (n, refl))

  pub goes_on : (n j : ℕ) → suc j < period → own (first + n * period + suc (suc j)) ≡ step (first + n * period + suc j) (own (first + n * period + suc j))
  goes_on n j h =
      let t : ℕ = first + n * period + suc j in
      let next : first + n * period + suc (suc j) ≡ suc t = omega arith in
      ap own next ∙ steps t ∙ ap (λ (b : ℤ). chosen b (source t) (step t (own t))) (clears t (off_tick period first n t (omega arith) (omega arith)))

-- a copy that is shifted up
pub copied : (period first : ℕ) (bit source own : ℕ → ℤ) (cut : ℤ → ℤ) → ((t : ℕ) → own (suc t) ≡ chosen (bit t) (source t) (cut (own t *ℤ pos 2)))
    → ((t : ℕ) → IsTickOf period first t → bit t ≡ set_bit) → ((t : ℕ) → (IsTickOf period first t → ⊥) → bit t ≡ pos 0) → (n j : ℕ) → j < period → own (first + n * period + suc j) ≡ shifted cut j (source (first + n * period))
copied period first bit source own cut steps sets clears n zero h = begins_anew period first bit source own (λ t z. cut (z *ℤ pos 2)) steps sets clears n
copied period first bit source own cut steps sets clears n (suc j) h =
    goes_on period first bit source own (λ t z. cut (z *ℤ pos 2)) steps sets clears n j h ∙ ap (λ (z : ℤ). cut (z *ℤ pos 2)) (copied period first bit source own cut steps sets clears n j (omega arith))

-- a sum that is doubled at each tick
pub summed : (period first : ℕ) (bit table own : ℕ → ℤ) (cut : ℤ → ℤ) → ((t : ℕ) → own (suc t) ≡ chosen (bit t) (cut (pos 0 -ℤ table t)) (cut (own t *ℤ pos 2 +ℤ table t)))
    → ((t : ℕ) → IsTickOf period first t → bit t ≡ set_bit) → ((t : ℕ) → (IsTickOf period first t → ⊥) → bit t ≡ pos 0)
    → (n j : ℕ) → j < period → ((i : ℕ) → i ≤ j → cut (accumulated (λ k. table (first + n * period + k)) i) ≡ accumulated (λ k. table (first + n * period + k)) i) → own (first + n * period + suc j) ≡ accumulated (λ k. table (first + n * period + k)) j
summed period first bit table own cut steps sets clears n zero h kept =
    let t : ℕ = first + n * period in
    let here : t ≡ t + 0 = omega arith in
    begins_anew period first bit (λ s. cut (pos 0 -ℤ table s)) own (λ s z. cut (z *ℤ pos 2 +ℤ table s)) steps sets clears n ∙ ap (λ (s : ℕ). cut (pos 0 -ℤ table s)) here ∙ kept 0 (omega arith)
summed period first bit table own cut steps sets clears n (suc j) h kept =
    let t : ℕ = first + n * period in
    goes_on period first bit (λ s. cut (pos 0 -ℤ table s)) own (λ s z. cut (z *ℤ pos 2 +ℤ table s)) steps sets clears n j h
    ∙ ap (λ (z : ℤ). cut (z *ℤ pos 2 +ℤ table (t + suc j))) (summed period first bit table own cut steps sets clears n j (omega arith) (λ i l. kept i (omega arith))) ∙ kept (suc j) (omega arith)
