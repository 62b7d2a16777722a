-- The values of digits.
use Rattle.std.proofs.Common.{◌≡◌, ℕ, suc, ◌+◌, ◌*◌, ◌<◌, ◌≤◌, List, [], ◌∷◌, length, drop, get_or, sym, ap, ◌∙◌, inl, inr, arith, drop-cons, add-one}
use Rattle.std.specs.Prelude.{◌==◌, min}
use Rattle.std.specs.Char.{digit_value}
use Rattle.std.proofs.Math.Nat.{le-mul_of_pos_right}
use Rattle.std.proofs.lemmas.Bool.{cond-true, cond-false, cond_both, cases_Bool, cases_lt}
use Rattle.verilog_text.specs.Lexer.{value_behind}
use Rattle.verilog_lex.specs.Found.{value_with}

value_grows : (base value : ℕ) (xs : List ℕ) → 1 ≤ base → value ≤ value_behind base value xs
value_grows base value [] some = omega arith
value_grows base value (x ∷ xs) some =
    cond_both (x == 95) (value_behind base value xs) (value_behind base (value * base + digit_value x) xs) (λ n. value ≤ n)
    (λ e. value_grows base value xs some)
    (λ e. let h = value_grows base (value * base + digit_value x) xs some in let up = le-mul_of_pos_right {m = base} value (omega arith) in omega (arith, h, up))

-- one digit more
value_next : (base value x : ℕ) (xs : List ℕ) → value_behind base value (x ∷ xs) ≡ value_behind base (value_with base value x) xs
value_next base value x xs = elim (cases_Bool (x == 95)) [
  | inl e ↦ cond-true _ _ _ e ∙ ap (λ v. value_behind base v xs) (sym (cond-true (x == 95) value (value * base + digit_value x) e))
  | inr e ↦ cond-false _ _ _ e ∙ ap (λ v. value_behind base v xs) (sym (cond-false (x == 95) value (value * base + digit_value x) e))
]

value_at : (base value i : ℕ) (xs : List ℕ) → i < length xs → value_behind base value (drop i xs) ≡ value_behind base (value_with base value (get_or xs i 0)) (drop (i + 1) xs)
value_at base value i xs within =
    ap (value_behind base value) (drop-cons xs i 0 within)
    ∙ value_next base value (get_or xs i 0) (drop (suc i) xs)
    ∙ ap (λ k. value_behind base (value_with base value (get_or xs i 0)) (drop k xs)) (sym (add-one i))

pub literal_step : (base value i whole : ℕ) (xs : List ℕ) → i < length xs → value_behind base value (drop i xs) ≡ whole → value_behind base (value_with base value (get_or xs i 0)) (drop (i + 1) xs) ≡ whole
literal_step base value i whole xs within same = sym (value_at base value i xs within) ∙ same

-- once the digits so far are too many, all of them are
pub literal_over : (base value i whole limit : ℕ) (xs : List ℕ) → 1 ≤ base → i < length xs → value_behind base value (drop i xs) ≡ whole → limit ≤ value_with base value (get_or xs i 0) → limit ≤ whole
literal_over base value i whole limit xs some within same over =
    let next = literal_step base value i whole xs within same in
    let grows = value_grows base (value_with base value (get_or xs i 0)) (drop (i + 1) xs) some in
    omega (arith, next, grows)

-- a value is cut at a limit also before the other digits
capped : (value limit : ℕ) (xs : List ℕ) → min (value_behind 10 (min value limit) xs) limit ≡ min (value_behind 10 value xs) limit
capped value limit xs = elim (cases_lt value limit) [
  | inl low ↦ let e : min value limit ≡ value = omega arith in ap (λ v. min (value_behind 10 v xs) limit) e
  | inr high ↦
      let e : min value limit ≡ limit = omega arith in
      let a = value_grows 10 limit xs (omega arith) in
      let b = value_grows 10 value xs (omega arith) in
      ap (λ v. min (value_behind 10 v xs) limit) e ∙ omega (arith, a, b)
]

pub decimal_step : (value next i whole limit : ℕ) (xs : List ℕ) → i < length xs → next ≡ min (value_with 10 value (get_or xs i 0)) limit → min (value_behind 10 value (drop i xs)) limit ≡ whole → min (value_behind 10 next (drop (i + 1) xs)) limit ≡ whole
decimal_step value next i whole limit xs within is same =
    ap (λ v. min (value_behind 10 v (drop (i + 1) xs)) limit) is
    ∙ capped (value_with 10 value (get_or xs i 0)) limit (drop (i + 1) xs)
    ∙ ap (λ v. min v limit) (sym (value_at 10 value i xs within))
    ∙ same
