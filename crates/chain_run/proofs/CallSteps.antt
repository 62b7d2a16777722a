-- What calls one after another leave.
use Rattle.std.proofs.Common.{◌≡◌, ◌∙◌, ℕ, zero, suc, ◌+◌, ◌≤◌, ◌<◌, Bool, false, List, length, Result, Ok, Err, refl, ap, arith, inl, inr}
use Rattle.std.specs.Prelude.{IfOk, OnOk}
use Rattle.std.proofs.lemmas.Bool.{cases_lt}
use Rattle.row_stream.specs.declared.fault.StreamFault.{StreamFault}

-- a number of bytes above 0 isn't 0
pub some-not-none : (r : Result ℕ StreamFault) (P : Type 0) → IfOk r (λ taken. 0 < taken) → IfOk r (λ taken. taken ≡ 0 → P)
some-not-none (Ok taken) P some = λ none. absurd (omega (arith, some, none))
some-not-none (Err fault) P some = tt

-- where the output got full, less is left
pub less-left : (r : Result Bool StreamFault) (a b c d : List ℕ) (left_a left_b left_c left_d : ℕ) → length a ≤ 65000 → left_b ≤ left_a → (left_b ≡ left_a → b ≡ a) → left_c ≤ left_b → (left_c ≡ left_b → c ≡ b)
    → OnOk r (left_d ≤ left_c) → OnOk r (left_d ≡ left_c → d ≡ c) → IfOk r (λ all. all ≡ false → 65000 < length d) → IfOk r (λ all. all ≡ false → left_d < left_a)
less-left (Ok all) a b c d left_a left_b left_c left_d room b_less b_same c_less c_same d_less d_same full = λ none. elim (cases_lt left_d left_a) [
  | inl less ↦ less
  | inr more ↦
      let same : d ≡ a = d_same (omega arith) ∙ c_same (omega arith) ∙ b_same (omega arith) in
      absurd (omega (arith, full none, ap (λ (out : List ℕ). length out) same))
]
less-left (Err fault) a b c d left_a left_b left_c left_d room b_less b_same c_less c_same d_less d_same full = tt
