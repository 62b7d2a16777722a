-- The longest piece at a place.
use Rattle.std.proofs.Common.{◌≡◌, ℕ, zero, suc, ◌+◌, ◌<◌, ◌≤◌, Bool, true, false, cond, List, [], ◌∷◌, length, take, Some, None, refl, sym, ap, ◌∙◌, arith, inl, inr, Option}
use Rattle.std.specs.Prelude.{◌==◌, ◌&&◌, not}
use Rattle.std.specs.List.{list_all, prefix_len}
use Rattle.std.proofs.Math.Numerals.{one-add}
use Rattle.std.proofs.lemmas.List.{take_all}
use Rattle.std.proofs.lemmas.List.Sums.{prefix_len-le-length}
use Rattle.std.proofs.lemmas.Bool.{cond-true, cond-false, cond_both, not-true, and_left, and_right, cases_Bool, and_parts}
use Rattle.verilog_text.specs.Lexer.{Piece, Gap, OutsidePiece, UnreadablePiece, is_letter, is_digit, is_name_byte, is_blank, word_piece, is_nil, is_ended, is_open, slashed, piece_of, IsLongest}
use Rattle.verilog_lex.specs.Found.{body_len}
use Rattle.verilog_lex.specs.Best.{IsBest}

-- a run of bytes that pass
run_at : (test : ℕ → Bool) (x : ℕ) (xs : List ℕ) → test x ≡ true → prefix_len test (x ∷ xs) ≡ suc (prefix_len test xs)
run_at test x xs e = cond-true (test x) _ _ e ∙ one-add (prefix_len test xs)

pub run_passes : (test : ℕ → Bool) (xs : List ℕ) → list_all test (take (prefix_len test xs) xs) ≡ true
run_passes test [] = refl
run_passes test (x ∷ xs) = elim (cases_Bool (test x)) [
  | inl e ↦ ap (λ n. list_all test (take n (x ∷ xs))) (run_at test x xs e) ∙ ap (λ b. b && list_all test (take (prefix_len test xs) xs)) e ∙ run_passes test xs
  | inr e ↦ ap (λ n. list_all test (take n (x ∷ xs))) (cond-false (test x) (1 + prefix_len test xs) 0 e)
]

past_run : (test : ℕ → Bool) (xs : List ℕ) (m : ℕ) → prefix_len test xs < m → m ≤ length xs → list_all test (take m xs) ≡ false
past_run test [] m more within = absurd (omega arith)
past_run test (x ∷ xs) zero more within = absurd (omega arith)
past_run test (x ∷ xs) (suc m) more within = elim (cases_Bool (test x)) [
  | inl e ↦
      let n = run_at test x xs e in
      and_right (test x) _ (past_run test xs m (omega (arith, n)) (omega arith))
  | inr e ↦ and_left (test x) _ e
]

-- a reading that takes its first byte and a run
module _ (reading : List ℕ → Option Piece) (test : ℕ → Bool) (b : ℕ) (rest : List ℕ) (make : List ℕ → Piece) (is : (xs : List ℕ) → reading (b ∷ xs) ≡ cond (list_all test xs) (Some (make xs)) None) where
  pub run_best : IsBest reading (b ∷ rest) (suc (prefix_len test rest)) (make (take (prefix_len test rest) rest))
  run_best =
      let low = prefix_len-le-length test rest in
      record {
        within = omega (arith, low);
        is = is (take (prefix_len test rest) rest) ∙ cond-true _ _ _ (run_passes test rest);
        longest = λ m more within. longer m more within;
      }
    where
      longer : (m : ℕ) → suc (prefix_len test rest) < m → m ≤ length (b ∷ rest) → reading (take m (b ∷ rest)) ≡ None
      longer zero more within = absurd (omega arith)
      longer (suc m) more within = is (take m rest) ∙ cond-false _ _ _ (past_run test rest m (omega arith) (omega arith))

pub word_longest : (b : ℕ) (rest : List ℕ) → is_letter b ≡ true → IsLongest (b ∷ rest) (suc (prefix_len is_name_byte rest)) (word_piece (b ∷ take (prefix_len is_name_byte rest) rest))
word_longest b rest e =
    let best = run_best piece_of is_name_byte b rest (λ xs. word_piece (b ∷ xs)) (λ xs. cond-true (is_letter b) _ _ e) in
    record { some = omega arith; within = best.within; is = best.is; longest = best.longest }

-- a byte that is a piece alone, whatever follows
blank_at : (b : ℕ) (xs : List ℕ) → is_letter b ≡ false → is_digit b ≡ false → is_blank b ≡ true → piece_of (b ∷ xs) ≡ cond (is_nil xs) (Some Gap) None
blank_at b xs e f g = cond-false (is_letter b) _ _ e ∙ cond-false (is_digit b) _ _ f ∙ cond-true (is_blank b) _ _ g

blank_longer : (b : ℕ) (rest : List ℕ) → is_letter b ≡ false → is_digit b ≡ false → is_blank b ≡ true → (m : ℕ) → 1 < m → m ≤ length (b ∷ rest) → piece_of (take m (b ∷ rest)) ≡ None
blank_longer b rest e f g zero more within = absurd (omega arith)
blank_longer b rest e f g (suc zero) more within = absurd (omega arith)
blank_longer b [] e f g (suc (suc m)) more within = absurd (omega arith)
blank_longer b (x ∷ xs) e f g (suc (suc m)) more within = blank_at b (x ∷ take m xs) e f g

pub blank_longest : (b : ℕ) (rest : List ℕ) → is_letter b ≡ false → is_digit b ≡ false → is_blank b ≡ true → IsLongest (b ∷ rest) 1 Gap
blank_longest b rest e f g = record { some = omega arith; within = omega arith; is = blank_at b [] e f g; longest = blank_longer b rest e f g }

-- comments to the end of the line
abbrev pub in_line : ℕ → Bool
in_line b = not (b == 10)

line_longer : (rest : List ℕ) (m : ℕ) → suc (suc (prefix_len in_line rest)) < m → m ≤ length (47 ∷ 47 ∷ rest) → piece_of (take m (47 ∷ 47 ∷ rest)) ≡ None
line_longer rest zero more within = absurd (omega arith)
line_longer rest (suc zero) more within = absurd (omega arith)
line_longer rest (suc (suc m)) more within = cond-false _ _ _ (past_run in_line rest m (omega arith) (omega arith))

pub line_longest : (rest : List ℕ) → IsLongest (47 ∷ 47 ∷ rest) (suc (suc (prefix_len in_line rest))) Gap
line_longest rest =
    let low = prefix_len-le-length in_line rest in
    record { some = omega arith; within = omega (arith, low); is = cond-true _ _ _ (run_passes in_line rest); longest = line_longer rest }

body_len-le : (xs : List ℕ) → body_len xs ≤ length xs
body_len-le [] = omega arith
body_len-le (a ∷ []) = omega arith
body_len-le (a ∷ b ∷ rest) = cond_both ((a == 42) && (b == 47)) 2 (suc (body_len (b ∷ rest))) (λ n. n ≤ length (a ∷ b ∷ rest)) (λ e. omega arith) (λ e. let h = body_len-le (b ∷ rest) in omega arith)

-- an open body has no end
open_not_ended : (xs : List ℕ) → is_open xs ≡ true → (is_ended xs ≡ false) × (body_len xs ≡ length xs)
open_not_ended [] e = (refl, refl)
open_not_ended (a ∷ []) e = (refl, refl)
open_not_ended (a ∷ b ∷ rest) e =
    let p = and_parts _ _ e in
    let h = not-true _ p.0 in
    let t = open_not_ended (b ∷ rest) p.1 in
    (cond-false _ _ _ h ∙ t.0, cond-false _ _ _ h ∙ ap suc t.1)

body_len_positive : (b : ℕ) (rest : List ℕ) → 0 < body_len (b ∷ rest)
body_len_positive b [] = omega arith
body_len_positive b (c ∷ rest) = cond_both ((b == 42) && (c == 47)) 2 (suc (body_len (c ∷ rest))) (λ n. 0 < n) (λ e. omega arith) (λ e. omega arith)

-- a byte further in
ended_step : (a b : ℕ) (rest : List ℕ) (n : ℕ) → 0 < n → ((a == 42) && (b == 47)) ≡ false → is_ended (take (suc n) (a ∷ b ∷ rest)) ≡ is_ended (take n (b ∷ rest))
ended_step a b rest zero positive e = absurd (omega arith)
ended_step a b rest (suc n) positive e = cond-false _ _ _ e

open_step : (a b : ℕ) (rest : List ℕ) (n : ℕ) → 0 < n → ((a == 42) && (b == 47)) ≡ false → is_open (take (suc n) (a ∷ b ∷ rest)) ≡ is_open (take n (b ∷ rest))
open_step a b rest zero positive e = absurd (omega arith)
open_step a b rest (suc n) positive e = ap (λ x. not x && is_open (b ∷ take n rest)) e

open_rest : (a b : ℕ) (rest : List ℕ) → ((a == 42) && (b == 47)) ≡ false → is_open (a ∷ b ∷ rest) ≡ false → is_open (b ∷ rest) ≡ false
open_rest a b rest h e = sym (ap (λ x. not x && is_open (b ∷ rest)) h) ∙ e

-- the first end of a body that has one
end_is : (xs : List ℕ) → is_open xs ≡ false → is_ended (take (body_len xs) xs) ≡ true
end_is [] e = absurd (let h : true ≡ false = e in cc)
end_is (a ∷ []) e = absurd (let h : true ≡ false = e in cc)
end_is (a ∷ b ∷ rest) e = elim (cases_Bool ((a == 42) && (b == 47))) [
  | inl h ↦ ap (λ n. is_ended (take n (a ∷ b ∷ rest))) (cond-true _ 2 (suc (body_len (b ∷ rest))) h) ∙ cond-true _ _ _ h
  | inr h ↦ ap (λ n. is_ended (take n (a ∷ b ∷ rest))) (cond-false _ 2 (suc (body_len (b ∷ rest))) h) ∙ ended_step a b rest (body_len (b ∷ rest)) (body_len_positive b rest) h ∙ end_is (b ∷ rest) (open_rest a b rest h e)
]

not_nil : (rest : List ℕ) (n : ℕ) → 0 < n → n ≤ length rest → is_nil (take n rest) ≡ false
not_nil rest zero positive within = absurd (omega arith)
not_nil [] (suc n) positive within = absurd (omega arith)
not_nil (x ∷ rest) (suc n) positive within = refl

-- past the first end
past_end : (xs : List ℕ) (m : ℕ) → is_open xs ≡ false → body_len xs < m → m ≤ length xs → (is_ended (take m xs) ≡ false) × (is_open (take m xs) ≡ false)
past_end [] m e more within = absurd (let h : true ≡ false = e in cc)
past_end (a ∷ []) m e more within = absurd (let h : true ≡ false = e in cc)
past_end (a ∷ b ∷ rest) zero e more within = absurd (omega arith)
past_end (a ∷ b ∷ rest) (suc zero) e more within = absurd (let h = body_len_positive a (b ∷ rest) in omega arith)
past_end (a ∷ b ∷ rest) (suc (suc m)) e more within = elim (cases_Bool ((a == 42) && (b == 47))) [
  | inl h ↦
      let n = cond-true ((a == 42) && (b == 47)) 2 (suc (body_len (b ∷ rest))) h in
      (cond-true _ _ _ h ∙ not_nil rest m (omega (arith, n)) (omega arith), ap (λ x. not x && is_open (b ∷ take m rest)) h)
  | inr h ↦
      let n = cond-false ((a == 42) && (b == 47)) 2 (suc (body_len (b ∷ rest))) h in
      let t = past_end (b ∷ rest) (suc m) (open_rest a b rest h e) (omega (arith, n)) (omega arith) in
      (ended_step a b rest (suc m) (omega arith) h ∙ t.0, open_step a b rest (suc m) (omega arith) h ∙ t.1)
]

block_longer : (rest : List ℕ) → is_open rest ≡ false → (m : ℕ) → suc (suc (body_len rest)) < m → m ≤ length (47 ∷ 42 ∷ rest) → piece_of (take m (47 ∷ 42 ∷ rest)) ≡ None
block_longer rest e zero more within = absurd (omega arith)
block_longer rest e (suc zero) more within = absurd (omega arith)
block_longer rest e (suc (suc m)) more within =
    let t = past_end rest m e (omega arith) (omega arith) in
    cond-false _ _ _ t.0 ∙ cond-false _ _ _ t.1

-- a comment that ends
pub block_longest : (rest : List ℕ) → is_open rest ≡ false → IsLongest (47 ∷ 42 ∷ rest) (suc (suc (body_len rest))) Gap
block_longest rest e =
    let low = body_len-le rest in
    record { some = omega arith; within = omega (arith, low); is = cond-true _ _ _ (end_is rest e); longest = block_longer rest e }

-- a comment without an end
pub open_longest : (rest : List ℕ) → is_open rest ≡ true → IsLongest (47 ∷ 42 ∷ rest) (suc (suc (length rest))) UnreadablePiece
open_longest rest e =
    let whole : take (length rest) rest ≡ rest = take_all (length rest) rest (omega arith) in
    record {
      some = omega arith;
      within = omega arith;
      is = ap (λ xs. slashed (42 ∷ xs)) whole ∙ cond-false _ _ _ (open_not_ended rest e).0 ∙ cond-true _ _ _ e;
      longest = λ m more within. absurd (omega arith);
    }

-- `/` that begins no comment
slash_longer : (c : ℕ) (rest : List ℕ) → (c == 47) ≡ false → (c == 42) ≡ false → (m : ℕ) → 1 < m → m ≤ length (47 ∷ c ∷ rest) → piece_of (take m (47 ∷ c ∷ rest)) ≡ None
slash_longer c rest e f zero more within = absurd (omega arith)
slash_longer c rest e f (suc zero) more within = absurd (omega arith)
slash_longer c rest e f (suc (suc m)) more within = cond-false _ _ _ e ∙ cond-false _ _ _ f

pub slash_longest : (c : ℕ) (rest : List ℕ) → (c == 47) ≡ false → (c == 42) ≡ false → IsLongest (47 ∷ c ∷ rest) 1 OutsidePiece
slash_longest c rest e f = record { some = omega arith; within = omega arith; is = refl; longest = slash_longer c rest e f }

pub last_slash_longest : IsLongest (47 ∷ []) 1 OutsidePiece
last_slash_longest = record { some = omega arith; within = omega arith; is = refl; longest = λ m more within. absurd (omega arith) }
