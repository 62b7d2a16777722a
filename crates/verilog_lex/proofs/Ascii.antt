-- A word is ASCII.
use Rattle.std.proofs.Common.{◌≡◌, ℕ, zero, suc, ◌+◌, ◌<◌, ◌≤◌, true, false, List, [], ◌∷◌, length, take, drop, get_or, subst, arith, inl, inr}
use Rattle.std.specs.Prelude.{nat_le}
use Rattle.std.specs.List.{list_all, prefix_len}
use Rattle.std.specs.Str.{IsAscii}
use Rattle.std.proofs.lemmas.Bool.{and_right, and_parts, or_from, lt-leb, ne_eqb, cases_lt}
use Rattle.verilog_text.specs.Lexer.{is_letter, is_name_byte}
use Rattle.verilog_lex.proofs.Longest.{run_passes}

high_no_letter : (b : ℕ) → 128 ≤ b → is_letter b ≡ false
high_no_letter b high = or_from _ _ (and_right (nat_le 97 b) _ (lt-leb b 122 (omega arith))) (or_from _ _ (and_right (nat_le 65 b) _ (lt-leb b 90 (omega arith))) (ne_eqb b 95 (λ e. omega arith)))

high_no_name : (b : ℕ) → 128 ≤ b → is_name_byte b ≡ false
high_no_name b high = or_from _ _ (high_no_letter b high) (or_from _ _ (and_right (nat_le 48 b) _ (lt-leb b 57 (omega arith))) (ne_eqb b 36 (λ e. omega arith)))

letter_low : (b : ℕ) → is_letter b ≡ true → b < 128
letter_low b e = elim (cases_lt b 128) [ inl low ↦ low | inr high ↦ absurd (let f = high_no_letter b high in cc) ]

name_low : (b : ℕ) → is_name_byte b ≡ true → b < 128
name_low b e = elim (cases_lt b 128) [ inl low ↦ low | inr high ↦ absurd (let f = high_no_name b high in cc) ]

all_low : (xs : List ℕ) → list_all is_name_byte xs ≡ true → (i : ℕ) → get_or xs i 0 < 128
all_low [] e i = omega arith
all_low (x ∷ xs) e zero = name_low x (and_parts _ _ e).0
all_low (x ∷ xs) e (suc i) = all_low xs (and_parts _ _ e).1 i

first_low : (b : ℕ) (xs : List ℕ) → b < 128 → list_all is_name_byte xs ≡ true → (i : ℕ) → get_or (b ∷ xs) i 0 < 128
first_low b xs low e zero = low
first_low b xs low e (suc i) = all_low xs e i

pub word_ascii : (bytes : List ℕ) (n : ℕ) → 1 ≤ length bytes → is_letter (get_or bytes 0 0) ≡ true → n ≡ 1 + prefix_len is_name_byte (drop 1 bytes) → IsAscii (take n bytes)
word_ascii [] n some e f = absurd (omega arith)
word_ascii (b ∷ rest) n some e f =
    let m : suc (prefix_len is_name_byte rest) ≡ n = omega (arith, f) in
    subst (λ k. IsAscii (take k (b ∷ rest))) m (first_low b (take (prefix_len is_name_byte rest) rest) (letter_low b e) (run_passes is_name_byte rest))
