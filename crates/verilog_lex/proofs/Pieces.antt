-- The longest piece, as the code finds it: by the first byte and what stands behind it.
use Rattle.std.proofs.Common.{◌≡◌, ℕ, suc, ◌+◌, ◌≤◌, true, false, List, [], ◌∷◌, length, take, drop, get_or, refl, sym, ap, subst, arith}
use Rattle.std.specs.Prelude.{◌==◌, not}
use Rattle.std.specs.List.{prefix_len}
use Rattle.std.proofs.lemmas.Bool.{ne_eqb}
use Rattle.verilog_text.specs.Lexer.{Piece, Gap, OutsidePiece, UnreadablePiece, is_letter, is_digit, is_name_byte, is_blank, word_piece, is_open, IsLongest}
use Rattle.verilog_lex.specs.Found.{body_len}
use Rattle.verilog_lex.proofs.Longest.{word_longest, blank_longest, line_longest, block_longest, open_longest, slash_longest, last_slash_longest}

long : (bytes : List ℕ) (n m : ℕ) (p q : Piece) → n ≡ m → p ≡ q → IsLongest bytes n p → IsLongest bytes m q
long bytes n m p q e f l = subst (λ k. IsLongest bytes k q) e (subst (IsLongest bytes n) f l)

pub line_found : (rest : List ℕ) (n : ℕ) → 1 ≤ length rest → get_or rest 0 0 ≡ 47 → n ≡ prefix_len (λ b. not (b == 10)) (drop 1 rest) → IsLongest (47 ∷ rest) (2 + n) Gap
line_found [] n some e f = absurd (omega arith)
line_found (b ∷ rest) n some e f = subst (λ x. IsLongest (47 ∷ x ∷ rest) (2 + n) Gap) (sym e) (long _ _ _ _ _ (omega (arith, f)) refl (line_longest rest))

pub block_found : (rest : List ℕ) (n : ℕ) → 1 ≤ length rest → get_or rest 0 0 ≡ 42 → is_open (drop 1 rest) ≡ false → n ≡ body_len (drop 1 rest) → IsLongest (47 ∷ rest) (2 + n) Gap
block_found [] n some e g f = absurd (omega arith)
block_found (b ∷ rest) n some e g f = subst (λ x. IsLongest (47 ∷ x ∷ rest) (2 + n) Gap) (sym e) (long _ _ _ _ _ (omega (arith, f)) refl (block_longest rest g))

pub open_found : (rest : List ℕ) → 1 ≤ length rest → get_or rest 0 0 ≡ 42 → is_open (drop 1 rest) ≡ true → IsLongest (47 ∷ rest) (1 + length rest) UnreadablePiece
open_found [] some e g = absurd (omega arith)
open_found (b ∷ rest) some e g = subst (λ x. IsLongest (47 ∷ x ∷ rest) (1 + length (x ∷ rest)) UnreadablePiece) (sym e) (long _ _ _ _ _ (omega arith) refl (open_longest rest g))

pub slash_found : (rest : List ℕ) → (get_or rest 0 0 ≡ 47 → ⊥) → (get_or rest 0 0 ≡ 42 → ⊥) → IsLongest (47 ∷ rest) 1 OutsidePiece
slash_found [] e f = last_slash_longest
slash_found (b ∷ rest) e f = slash_longest b rest (ne_eqb b 47 e) (ne_eqb b 42 f)

pub word_found : (bytes : List ℕ) (n : ℕ) → 1 ≤ length bytes → is_letter (get_or bytes 0 0) ≡ true → n ≡ 1 + prefix_len is_name_byte (drop 1 bytes) → IsLongest bytes n (word_piece (take n bytes))
word_found [] n some e f = absurd (omega arith)
word_found (b ∷ rest) n some e f =
    let m : suc (prefix_len is_name_byte rest) ≡ n = omega (arith, f) in
    long (b ∷ rest) _ n _ _ m (ap (λ k. word_piece (take k (b ∷ rest))) m) (word_longest b rest e)

pub blank_found : (bytes : List ℕ) → 1 ≤ length bytes → is_letter (get_or bytes 0 0) ≡ false → is_digit (get_or bytes 0 0) ≡ false → is_blank (get_or bytes 0 0) ≡ true → IsLongest bytes 1 Gap
blank_found [] some e f g = absurd (omega arith)
blank_found (b ∷ rest) some e f g = blank_longest b rest e f g

pub ruleset comments = (line_found, block_found, open_found, slash_found)

pub ruleset words = (word_found, blank_found)
