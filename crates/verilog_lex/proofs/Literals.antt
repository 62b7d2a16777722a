-- The longest literal, as the code finds it.
use Rattle.std.proofs.Common.{◌≡◌, ℕ, zero, suc, ◌+◌, ◌-◌, ◌*◌, ◌<◌, ◌≤◌, ◌^◌, Bool, true, false, cond, List, [], ◌∷◌, length, take, drop, get_or, Option, Some, None, refl, sym, ap, ◌∙◌, subst, arith, inl, inr, length-drop, length-take}
use Rattle.std.specs.Prelude.{◌==◌, ◌&&◌, ◌||◌, ◌/◌, MatchOption, min, nat_le, nat_lt}
use Rattle.std.specs.List.{list_all, list_any, prefix_len}
use Rattle.std.proofs.lemmas.List.{drop-take, take_all}
use Rattle.std.proofs.lemmas.List.Sums.{prefix_len-le-length}
use Rattle.std.proofs.lemmas.Bool.{cond-true, cond-false, and_left, and_right, and_from, ne_eqb, eq-eqb, cases_Bool, cases_lt, le-ltb, lt-leb, le-leb, lt-ltb}
use Rattle.std.proofs.Math.Pow.{pow_mono}
use Rattle.std.proofs.Math.Nat.{div-eq_of_lt, lt-mul-div-succ}
use Rattle.std.proofs.lemmas.Nat.{pow_pos}
use Rattle.verilog_text.specs.declared.token.Token.TheVariants as token
use Rattle.verilog_text.specs.Lexer.{Piece, Fixed, is_one, OutsidePiece, UnreadablePiece, is_unknown, pattern_piece, is_letter, is_digit, is_digit_in, is_more_in, base_of, literal_piece, digits_piece, based_piece, sized_piece, behind_digits, decimal_piece, numeral_piece, value_behind, piece_of, IsLongest}
use Rattle.verilog_lex.specs.Best.{IsBest, IsNever}
use Rattle.verilog_lex.specs.Found.{symbol_view}
use Rattle.verilog_lex.specs.declared.found.Symbol.{Symbol}
use Rattle.verilog_lex.proofs.Readings.{best_behind, never_behind, best_same, never_same, digits_best, digits_never, never_empty}

best_at : (reading : List ℕ → Option Piece) (bytes : List ℕ) (n m : ℕ) (p q : Piece) → n ≡ m → p ≡ q → IsBest reading bytes n p → IsBest reading bytes m q
best_at reading bytes n m p q e f best = subst (λ k. IsBest reading bytes k q) e (subst (IsBest reading bytes n) f best)

-- digits
pub digits_found : (size : ℕ) (signed : Bool) (base : ℕ) (bytes : List ℕ) (n : ℕ) → 1 ≤ length bytes → is_digit_in base (get_or bytes 0 0) ≡ true → n ≡ 1 + prefix_len (is_more_in base) (drop 1 bytes) → IsBest (digits_piece size signed (Some base)) bytes n (literal_piece size signed base (take n bytes))
digits_found size signed base [] n some e f = absurd (omega arith)
digits_found size signed base (d ∷ rest) n some e f =
    let m : suc (prefix_len (is_more_in base) rest) ≡ n = omega (arith, f) in
    best_at (digits_piece size signed (Some base)) (d ∷ rest) _ n _ _ m (ap (λ k. literal_piece size signed base (take k (d ∷ rest))) m) (digits_best size signed base d rest e)

pub digits_missing : (size : ℕ) (signed : Bool) (base : ℕ) (bytes : List ℕ) → 1 ≤ length bytes → is_digit_in base (get_or bytes 0 0) ≡ false → IsNever (digits_piece size signed (Some base)) bytes
digits_missing size signed base [] some e = absurd (omega arith)
digits_missing size signed base (d ∷ rest) some e = digits_never size signed base d rest e

pub digits_empty : (size : ℕ) (signed : Bool) (base : ℕ) (bytes : List ℕ) → length bytes ≡ 0 → IsNever (digits_piece size signed (Some base)) bytes
digits_empty size signed base [] e = never_empty (digits_piece size signed (Some base)) refl
digits_empty size signed base (d ∷ rest) e = absurd (omega arith)

pub ruleset digits = (digits_found, digits_missing, digits_empty)

-- a literal of a size, by the value of its digits
pub literal_known : (size : ℕ) (signed : Bool) (base value : ℕ) (digits : List ℕ) → 1 ≤ size → size ≤ 128 → list_any is_unknown digits ≡ false → value ≡ value_behind base 0 digits → literal_piece size signed base digits ≡ pattern_piece size signed value
literal_known size signed base value digits some low known is = cond-true _ _ _ (and_from _ _ (le-leb 1 size some) (le-leb size 128 low)) ∙ cond-false _ _ _ known ∙ ap (pattern_piece size signed) (sym is)

pub literal_unknown : (size : ℕ) (signed : Bool) (base : ℕ) (digits : List ℕ) → 1 ≤ size → size ≤ 128 → list_any is_unknown digits ≡ true → literal_piece size signed base digits ≡ OutsidePiece
literal_unknown size signed base digits some low unknown = cond-true _ _ _ (and_from _ _ (le-leb 1 size some) (le-leb size 128 low)) ∙ cond-true _ _ _ unknown

pub literal_huge : (size : ℕ) (signed : Bool) (base : ℕ) (digits : List ℕ) → 1 ≤ size → size ≤ 128 → list_any is_unknown digits ≡ false → 2 ^ 128 ≤ value_behind base 0 digits → literal_piece size signed base digits ≡ UnreadablePiece
literal_huge size signed base digits some low known huge =
    let high : 2 ^ size ≤ 2 ^ 128 = pow_mono {i = size} {j = 128} low in
    literal_known size signed base (value_behind base 0 digits) digits some low known refl ∙ cond-false _ _ _ (le-ltb (value_behind base 0 digits) (2 ^ size) (omega (arith, high, huge)))

pub literal_small : (size : ℕ) (signed : Bool) (base : ℕ) (digits : List ℕ) → size < 1 → literal_piece size signed base digits ≡ UnreadablePiece
literal_small size signed base digits low = cond-false _ _ _ (and_left _ _ (lt-leb 1 size low))

pub literal_great : (size : ℕ) (signed : Bool) (base : ℕ) (digits : List ℕ) → 128 < size → literal_piece size signed base digits ≡ UnreadablePiece
literal_great size signed base digits high = cond-false _ _ _ (and_right (nat_le 1 size) _ (lt-leb size 128 high))

pub ruleset literals = (literal_known, literal_unknown, literal_huge, literal_small, literal_great)

-- a value has room
pub room : (value size : ℕ) → (value / 2 ^ size == 0) ≡ nat_lt value (2 ^ size)
room value size = elim (cases_lt value (2 ^ size)) [
  | inl low ↦ eq-eqb (value / 2 ^ size) 0 (div-eq_of_lt low) ∙ sym (lt-ltb value (2 ^ size) low)
  | inr high ↦
      let Above : ℕ → Type 0 = λ q. value < 2 ^ size * (q + 1) in
      ne_eqb (value / 2 ^ size) 0 (λ e. let h : value < 2 ^ size * (0 + 1) = subst Above e (lt-mul-div-succ value (pow_pos size)) in omega arith) ∙ sym (le-ltb value (2 ^ size) high)
]

-- a base and digits
based_is : (size : ℕ) (signed : Bool) (b : ℕ) (base : Option ℕ) → base_of b ≡ base → (xs : List ℕ) → based_piece size signed (b ∷ xs) ≡ digits_piece size signed base xs
based_is size signed b base e xs = ap (λ o. digits_piece size signed o xs) e

none_at : (size : ℕ) (signed : Bool) (rest : List ℕ) → IsNever (digits_piece size signed None) rest
none_at size signed rest = record { none = λ m within. refl }

pub based_found : (size : ℕ) (signed : Bool) (base : ℕ) (bytes : List ℕ) (n : ℕ) (p : Piece) → 1 ≤ length bytes → base_of (get_or bytes 0 0) ≡ Some base → IsBest (digits_piece size signed (Some base)) (drop 1 bytes) n p → IsBest (based_piece size signed) bytes (1 + n) p
based_found size signed base [] n p some e best = absurd (omega arith)
based_found size signed base (b ∷ rest) n p some e best = best_at (based_piece size signed) (b ∷ rest) _ (1 + n) p p (omega arith) refl (best_behind (based_piece size signed) (digits_piece size signed (Some base)) b rest (based_is size signed b (Some base) e) n p best)

pub based_missing : (size : ℕ) (signed : Bool) (base : ℕ) (bytes : List ℕ) → 1 ≤ length bytes → base_of (get_or bytes 0 0) ≡ Some base → IsNever (digits_piece size signed (Some base)) (drop 1 bytes) → IsNever (based_piece size signed) bytes
based_missing size signed base [] some e never = absurd (omega arith)
based_missing size signed base (b ∷ rest) some e never = never_behind (based_piece size signed) (digits_piece size signed (Some base)) b rest (based_is size signed b (Some base) e) refl never

pub baseless : (size : ℕ) (signed : Bool) (bytes : List ℕ) → 1 ≤ length bytes → base_of (get_or bytes 0 0) ≡ None → IsNever (based_piece size signed) bytes
baseless size signed [] some e = absurd (omega arith)
baseless size signed (b ∷ rest) some e = never_behind (based_piece size signed) (digits_piece size signed None) b rest (based_is size signed b None e) refl (none_at size signed rest)

pub based_empty : (size : ℕ) (signed : Bool) (bytes : List ℕ) → length bytes ≡ 0 → IsNever (based_piece size signed) bytes
based_empty size signed [] e = never_empty (based_piece size signed) refl
based_empty size signed (d ∷ rest) e = absurd (omega arith)

-- a sign
signed_is : (size b : ℕ) → ((b == 115) || (b == 83)) ≡ true → (xs : List ℕ) → sized_piece size (b ∷ xs) ≡ based_piece size true xs
signed_is size b e xs = cond-true _ _ _ e

unsigned_is : (size b : ℕ) → ((b == 115) || (b == 83)) ≡ false → (xs : List ℕ) → sized_piece size (b ∷ xs) ≡ based_piece size false (b ∷ xs)
unsigned_is size b e xs = cond-false _ _ _ e

pub signed_found : (size : ℕ) (bytes : List ℕ) (n : ℕ) (p : Piece) → 1 ≤ length bytes → ((get_or bytes 0 0 == 115) || (get_or bytes 0 0 == 83)) ≡ true → IsBest (based_piece size true) (drop 1 bytes) n p → IsBest (sized_piece size) bytes (1 + n) p
signed_found size [] n p some e best = absurd (omega arith)
signed_found size (b ∷ rest) n p some e best = best_at (sized_piece size) (b ∷ rest) _ (1 + n) p p (omega arith) refl (best_behind (sized_piece size) (based_piece size true) b rest (signed_is size b e) n p best)

pub signed_missing : (size : ℕ) (bytes : List ℕ) → 1 ≤ length bytes → ((get_or bytes 0 0 == 115) || (get_or bytes 0 0 == 83)) ≡ true → IsNever (based_piece size true) (drop 1 bytes) → IsNever (sized_piece size) bytes
signed_missing size [] some e never = absurd (omega arith)
signed_missing size (b ∷ rest) some e never = never_behind (sized_piece size) (based_piece size true) b rest (signed_is size b e) refl never

pub unsigned_found : (size : ℕ) (bytes : List ℕ) (n : ℕ) (p : Piece) → 1 ≤ length bytes → ((get_or bytes 0 0 == 115) || (get_or bytes 0 0 == 83)) ≡ false → IsBest (based_piece size false) bytes n p → IsBest (sized_piece size) bytes n p
unsigned_found size [] n p some e best = absurd (omega arith)
unsigned_found size (b ∷ rest) n p some e best = best_same (sized_piece size) (based_piece size false) b rest (unsigned_is size b e) refl n p best

pub unsigned_missing : (size : ℕ) (bytes : List ℕ) → 1 ≤ length bytes → ((get_or bytes 0 0 == 115) || (get_or bytes 0 0 == 83)) ≡ false → IsNever (based_piece size false) bytes → IsNever (sized_piece size) bytes
unsigned_missing size [] some e never = absurd (omega arith)
unsigned_missing size (b ∷ rest) some e never = never_same (sized_piece size) (based_piece size false) b rest (unsigned_is size b e) refl never

pub sized_empty : (size : ℕ) (bytes : List ℕ) → length bytes ≡ 0 → IsNever (sized_piece size) bytes
sized_empty size [] e = never_empty (sized_piece size) refl
sized_empty size (d ∷ rest) e = absurd (omega arith)

-- a size past the limit of numbers is no size, as the limit itself is none
past : (size : ℕ) → 2 ^ 31 ≤ size → 128 < size
past size high = omega arith

literal_capped : (size : ℕ) (signed : Bool) (base : ℕ) (digits : List ℕ) → literal_piece (min size (2 ^ 31)) signed base digits ≡ literal_piece size signed base digits
literal_capped size signed base digits = elim (cases_lt size (2 ^ 31)) [
  | inl low ↦ let e : min size (2 ^ 31) ≡ size = omega arith in ap (λ s. literal_piece s signed base digits) e
  | inr high ↦
      let e : min size (2 ^ 31) ≡ 2 ^ 31 = omega arith in
      ap (λ s. literal_piece s signed base digits) e ∙ sym (cond-false _ _ _ (and_right (nat_le 1 size) _ (lt-leb size 128 (past size high))))
]

digits_capped : (size : ℕ) (signed : Bool) (base : Option ℕ) (digits : List ℕ) → digits_piece (min size (2 ^ 31)) signed base digits ≡ digits_piece size signed base digits
digits_capped size signed None digits = refl
digits_capped size signed (Some base) [] = refl
digits_capped size signed (Some base) (d ∷ ds) = ap (λ p. cond (is_digit_in base d && list_all (is_more_in base) ds) (Some p) None) (literal_capped size signed base (d ∷ ds))

based_capped : (size : ℕ) (signed : Bool) (bytes : List ℕ) → based_piece (min size (2 ^ 31)) signed bytes ≡ based_piece size signed bytes
based_capped size signed [] = refl
based_capped size signed (b ∷ rest) = digits_capped size signed (base_of b) rest

sized_capped : (size : ℕ) (bytes : List ℕ) → sized_piece (min size (2 ^ 31)) bytes ≡ sized_piece size bytes
sized_capped size [] = refl
sized_capped size (b ∷ rest) =
    ap (λ p. cond ((b == 115) || (b == 83)) p (based_piece (min size (2 ^ 31)) false (b ∷ rest))) (based_capped size true rest)
    ∙ ap (λ p. cond ((b == 115) || (b == 83)) (based_piece size true rest) p) (based_capped size false (b ∷ rest))

capped_best : (size : ℕ) (bytes : List ℕ) (n : ℕ) (p : Piece) → IsBest (sized_piece (min size (2 ^ 31))) bytes n p → IsBest (sized_piece size) bytes n p
capped_best size bytes n p best = record { within = best.within; is = sym (sized_capped size (take n bytes)) ∙ best.is; longest = λ m more within. sym (sized_capped size (take m bytes)) ∙ best.longest m more within }

capped_never : (size : ℕ) (bytes : List ℕ) → IsNever (sized_piece (min size (2 ^ 31))) bytes → IsNever (sized_piece size) bytes
capped_never size bytes never = record { none = λ m within. sym (sized_capped size (take m bytes)) ∙ never.none m within }

-- a run, and what stands behind it
take_take : (n m : ℕ) (xs : List ℕ) → n ≤ m → take n (take m xs) ≡ take n xs
take_take zero m xs low = refl
take_take (suc n) zero xs low = absurd (omega arith)
take_take (suc n) (suc m) [] low = refl
take_take (suc n) (suc m) (x ∷ xs) low = ap (λ ys. x ∷ ys) (take_take n m xs (omega arith))

run_kept : (test : ℕ → Bool) (xs : List ℕ) (m : ℕ) → prefix_len test xs ≤ m → prefix_len test (take m xs) ≡ prefix_len test xs
run_kept test [] zero low = refl
run_kept test [] (suc m) low = refl
run_kept test (x ∷ xs) zero low = omega arith
run_kept test (x ∷ xs) (suc m) low = elim (cases_Bool (test x)) [
  | inl e ↦
      let whole : prefix_len test (x ∷ xs) ≡ 1 + prefix_len test xs = cond-true _ _ _ e in
      cond-true _ _ _ e ∙ ap (λ n. 1 + n) (run_kept test xs m (omega arith)) ∙ sym whole
  | inr e ↦ cond-false _ _ _ e ∙ sym (cond-false _ _ _ e)
]

numeral_cut : (bytes : List ℕ) (n k : ℕ) → n ≡ prefix_len is_digit bytes → numeral_piece (take (n + k) bytes) ≡ behind_digits (take n bytes) (take k (drop n bytes))
numeral_cut bytes n k e =
    let front : List ℕ = take (n + k) bytes in
    let run : prefix_len is_digit front ≡ n = run_kept is_digit bytes (n + k) (omega arith) ∙ sym e in
    ap (λ j. behind_digits (take j front) (drop j front)) run
    ∙ ap (λ ds. behind_digits ds (drop n front)) (take_take n (n + k) bytes (omega arith))
    ∙ ap (behind_digits (take n bytes)) (drop-take n k bytes)

module _ (b : ℕ) (rest : List ℕ) (no_letter : is_letter b ≡ false) (a_digit : is_digit b ≡ true) where
  digit_first : (m : ℕ) → 0 < m → piece_of (take m (b ∷ rest)) ≡ numeral_piece (take m (b ∷ rest))
  digit_first zero some = absurd (omega arith)
  digit_first (suc m) some = cond-false _ _ _ no_letter ∙ cond-true _ _ _ a_digit

  number_longest : (n k : ℕ) (p : Piece) → n ≡ prefix_len is_digit (b ∷ rest) → IsBest (behind_digits (take n (b ∷ rest))) (drop n (b ∷ rest)) k p → IsLongest (b ∷ rest) (n + k) p
  number_longest n k p e best =
      let low = prefix_len-le-length is_digit (b ∷ rest) in
      let len = length-drop n (b ∷ rest) in
      let w = best.within in
      let first : prefix_len is_digit (b ∷ rest) ≡ 1 + prefix_len is_digit rest = cond-true _ _ _ a_digit in
      record {
        some = omega arith;
        within = omega (arith, low, len, w);
        is = digit_first (n + k) (omega arith) ∙ numeral_cut (b ∷ rest) n k e ∙ best.is;
        longest = λ m more within.
            let split : m ≡ n + (m - n) = omega arith in
            ap (λ j. piece_of (take j (b ∷ rest))) split
            ∙ digit_first (n + (m - n)) (omega arith)
            ∙ numeral_cut (b ∷ rest) n (m - n) e
            ∙ best.longest (m - n) (omega arith) (omega (arith, low, len, w));
      }

-- a number without a size, by what stands behind it
alone_best : (digits after : List ℕ) → ((b : ℕ) (xs : List ℕ) (m : ℕ) → after ≡ b ∷ xs → behind_digits digits (b ∷ take m xs) ≡ None) → IsBest (behind_digits digits) after 0 (decimal_piece digits)
alone_best digits [] h = record { within = omega arith; is = refl; longest = λ m more within. absurd (omega arith) }
alone_best digits (b ∷ xs) h = record { within = omega arith; is = refl; longest = λ m more within. longer m more }
  where
    longer : (m : ℕ) → 0 < m → behind_digits digits (take m (b ∷ xs)) ≡ None
    longer zero more = absurd (omega arith)
    longer (suc m) more = h b xs m refl

-- ---- the number at the front of a text

one_long : (digits : List ℕ) (n : ℕ) → n ≡ length digits → (n == 1) ≡ is_one digits
one_long [] n e = ne_eqb n 1 (λ f. omega arith)
one_long (d ∷ []) n e = eq-eqb n 1 (omega arith)
one_long (d ∷ e ∷ rest) n h = ne_eqb n 1 (λ f. omega arith)

abbrev pub decimal_of : ℕ → Bool → Piece
decimal_of value single = cond (nat_lt value (2 ^ 31)) (Fixed (token.Number (record { value = value; is_single = single }))) UnreadablePiece

capped_decimal : (value : ℕ) (single : Bool) → decimal_of (min value (2 ^ 31)) single ≡ decimal_of value single
capped_decimal value single = elim (cases_lt value (2 ^ 31)) [
  | inl low ↦ let e : min value (2 ^ 31) ≡ value = omega arith in ap (λ v. decimal_of v single) e
  | inr high ↦
      let e : min value (2 ^ 31) ≡ 2 ^ 31 = omega arith in
      ap (λ v. decimal_of v single) e ∙ sym (cond-false _ _ _ (le-ltb value (2 ^ 31) high))
]

-- what the code makes of the digits
decimal_is : (digits : List ℕ) (n value : ℕ) → n ≡ length digits → value ≡ min (value_behind 10 0 digits) (2 ^ 31) → decimal_of value (n == 1) ≡ decimal_piece digits
decimal_is digits n value e f =
    ap (λ v. decimal_of v (n == 1)) f ∙ capped_decimal (value_behind 10 0 digits) (n == 1) ∙ ap (decimal_of (value_behind 10 0 digits)) (one_long digits n e)

pub record IsNumber (bytes : List ℕ) (n value : ℕ) : Type 0 where
  pub some : 1 ≤ length bytes
  pub no_letter : is_letter (get_or bytes 0 0) ≡ false
  pub a_digit : is_digit (get_or bytes 0 0) ≡ true
  pub len : n ≡ prefix_len is_digit bytes
  pub value_is : value ≡ min (value_behind 10 0 (take n bytes)) (2 ^ 31)

longest_at : (bytes : List ℕ) (n m k : ℕ) (value : ℕ) (p : Piece) → IsNumber bytes n value → m ≡ n + k → IsBest (behind_digits (take n bytes)) (drop n bytes) k p → IsLongest bytes m p
longest_at [] n m k value p x e best = absurd (let s = x.some in omega arith)
longest_at (b ∷ rest) n m k value p x e best = subst (λ j. IsLongest (b ∷ rest) j p) (sym e) (number_longest b rest x.no_letter x.a_digit n k p x.len best)

decimal_longest : (bytes : List ℕ) (n value : ℕ) (p : Piece) → IsNumber bytes n value → p ≡ decimal_of value (n == 1) → IsBest (behind_digits (take n bytes)) (drop n bytes) 0 (decimal_piece (take n bytes)) → IsLongest bytes n p
decimal_longest bytes n value p x e best =
    let low = prefix_len-le-length is_digit bytes in
    let l = x.len in
    let size : n ≡ length (take n bytes) = sym (length-take n bytes ∙ (omega (arith, low, l))) in
    longest_at bytes n n 0 value p x (omega arith) (best_at (behind_digits (take n bytes)) (drop n bytes) 0 0 _ p refl (sym (e ∙ decimal_is (take n bytes) n value size x.value_is)) best)

-- the text is over behind the digits
pub number_ends : (bytes : List ℕ) (n value : ℕ) (p : Piece) → IsNumber bytes n value → p ≡ decimal_of value (n == 1) → length (drop n bytes) ≡ 0 → IsLongest bytes n p
number_ends bytes n value p x e over = decimal_longest bytes n value p x e (alone_best (take n bytes) (drop n bytes) (λ b xs m is. absurd (let h = ap length is in omega arith)))

-- no `'` stands there
unquoted : (b : ℕ) (digits xs : List ℕ) → (b ≡ 39 → ⊥) → behind_digits digits (b ∷ xs) ≡ None
unquoted b digits xs e = cond-false _ _ _ (ne_eqb b 39 e)

pub number_unquoted : (bytes : List ℕ) (n value : ℕ) (p : Piece) → IsNumber bytes n value → p ≡ decimal_of value (n == 1) → (get_or (drop n bytes) 0 0 ≡ 39 → ⊥) → IsLongest bytes n p
number_unquoted bytes n value p x e other = decimal_longest bytes n value p x e (alone_best (take n bytes) (drop n bytes) (λ b xs m is. unquoted b (take n bytes) (take m xs) (λ f. other (ap (λ ys. get_or ys 0 0) is ∙ f))))

-- behind a `'`
quoted_is : (digits xs : List ℕ) → behind_digits digits (39 ∷ xs) ≡ sized_piece (value_behind 10 0 digits) xs
quoted_is digits xs = refl

sized_rest : (size value : ℕ) (xs : List ℕ) → value ≡ min size (2 ^ 31) → IsNever (sized_piece value) xs → IsNever (sized_piece size) xs
sized_rest size value xs e never = capped_never size xs (subst (λ v. IsNever (sized_piece v) xs) e never)

sized_front : (size value : ℕ) (xs : List ℕ) (n : ℕ) (p : Piece) → value ≡ min size (2 ^ 31) → IsBest (sized_piece value) xs n p → IsBest (sized_piece size) xs n p
sized_front size value xs n p e best = capped_best size xs n p (subst (λ v. IsBest (sized_piece v) xs n p) e best)

never_alone : (digits after : List ℕ) → IsNever (sized_piece (value_behind 10 0 digits)) (drop 1 after) → (b : ℕ) (xs : List ℕ) (m : ℕ) → b ≡ 39 → after ≡ b ∷ xs → m ≤ length xs → behind_digits digits (b ∷ take m xs) ≡ None
never_alone digits after never b xs m q is within =
    let tail : drop 1 after ≡ xs = ap (drop 1) is in
    let never' : IsNever (sized_piece (value_behind 10 0 digits)) xs = subst (IsNever (sized_piece (value_behind 10 0 digits))) tail never in
    ap (λ c. behind_digits digits (c ∷ take m xs)) q ∙ never'.none m within

split_first : (after : List ℕ) → 1 ≤ length after → after ≡ get_or after 0 0 ∷ drop 1 after
split_first [] some = absurd (omega arith)
split_first (b ∷ xs) some = refl

quoted_never : (digits after : List ℕ) → 1 ≤ length after → get_or after 0 0 ≡ 39 → IsNever (sized_piece (value_behind 10 0 digits)) (drop 1 after) → IsBest (behind_digits digits) after 0 (decimal_piece digits)
quoted_never digits [] some q never = absurd (omega arith)
quoted_never digits (b ∷ xs) some q never = record { within = omega arith; is = refl; longest = λ m more within. longer m more within }
  where
    longer : (m : ℕ) → 0 < m → m ≤ length (b ∷ xs) → behind_digits digits (take m (b ∷ xs)) ≡ None
    longer zero more within = absurd (omega arith)
    longer (suc m) more within = never_alone digits (b ∷ xs) never b xs m q refl (omega arith)

pub number_unsized : (bytes : List ℕ) (n value : ℕ) (p : Piece) → IsNumber bytes n value → p ≡ decimal_of value (n == 1) → 1 ≤ length (drop n bytes) → get_or (drop n bytes) 0 0 ≡ 39 → IsNever (sized_piece value) (drop 1 (drop n bytes)) → IsLongest bytes n p
number_unsized bytes n value p x e some q never = decimal_longest bytes n value p x e (quoted_never (take n bytes) (drop n bytes) some q (sized_rest _ value _ x.value_is never))

quoted_best : (digits after : List ℕ) (k : ℕ) (p : Piece) → 1 ≤ length after → get_or after 0 0 ≡ 39 → IsBest (sized_piece (value_behind 10 0 digits)) (drop 1 after) k p → IsBest (behind_digits digits) after (suc k) p
quoted_best digits [] k p some q best = absurd (omega arith)
quoted_best digits (b ∷ xs) k p some q best = best_behind (behind_digits digits) (sized_piece (value_behind 10 0 digits)) b xs (λ ys. ap (λ c. behind_digits digits (c ∷ ys)) q) k p best

pub number_sized : (bytes : List ℕ) (n k value : ℕ) (p : Piece) → IsNumber bytes n value → 1 ≤ length (drop n bytes) → get_or (drop n bytes) 0 0 ≡ 39 → IsBest (sized_piece value) (drop 1 (drop n bytes)) k p → IsLongest bytes (n + 1 + k) p
number_sized bytes n k value p x some q best = longest_at bytes n (n + 1 + k) (suc k) value p x (omega arith) (quoted_best (take n bytes) (drop n bytes) k p some q (sized_front _ value _ k p x.value_is best))

-- what `[b, after @ ..]` calls `after`
pub tail_is : (s : List ℕ) → take (length s - 1) (drop 1 s) ≡ drop 1 s
tail_is s = take_all (length s - 1) (drop 1 s) (omega (arith, length-drop 1 s))

-- what is found behind a `'` with no sign
pub unsigned_result : (size : ℕ) (bytes : List ℕ) (result : Option (ℕ × Symbol)) → 1 ≤ length bytes → ((get_or bytes 0 0 == 115) || (get_or bytes 0 0 == 83)) ≡ false → MatchOption result (IsNever (based_piece size false) bytes) (λ r. IsBest (based_piece size false) bytes r.0 (symbol_view r.1)) → MatchOption result (IsNever (sized_piece size) bytes) (λ r. IsBest (sized_piece size) bytes r.0 (symbol_view r.1))
unsigned_result size bytes None some e never = unsigned_missing size bytes some e never
unsigned_result size bytes (Some r) some e best = unsigned_found size bytes r.0 (symbol_view r.1) some e best

-- what `&s[n..]` is
pub rest_is : (s : List ℕ) (n : ℕ) → take (length s - n) (drop n s) ≡ drop n s
rest_is s n = take_all (length s - n) (drop n s) (omega (arith, length-drop n s))
