-- The table of marks, by the number of bytes.
use Rattle.std.proofs.Common.{◌≡◌, ℕ, zero, suc, ◌<◌, ◌≤◌, Bool, true, false, cond, List, [], ◌∷◌, length, take, get_or, Option, Some, None, refl, sym, ap, ◌∙◌, arith, inl, inr, length-take}
use Rattle.std.specs.Prelude.{◌==◌, ◌&&◌, filter, nat_lt, MatchOption}
use Rattle.std.specs.Str.{bytes_eq}
use Rattle.std.proofs.lemmas.Bool.{cond-true, cond-false, ne_eqb, eq-eqb, cases_Bool, and_parts, ltb-true}
use Rattle.std.proofs.lemmas.Bool.Decides.{Decides-eqb}
use Rattle.std.specs.List.{list_all}
use Rattle.std.proofs.lemmas.Slice.Eq.{bytes_eq-Decides}
use Rattle.verilog_text.specs.Lexer.{Piece, Entry, looked_up, marks, piece_of, is_letter, is_digit, is_blank, IsLongest}
use Rattle.verilog_lex.specs.Best.{IsBest, IsNever, IsNoLonger}
use Rattle.verilog_lex.specs.Found.{symbol_view}
use Rattle.verilog_lex.specs.declared.found.Symbol.{Symbol}
use Rattle.verilog_lex.specs.Marks.{single, double, triple}

-- the entries of so many bytes
abbrev of_length : ℕ → List Entry → List Entry
of_length n table = filter (λ x. length x.text == n) table

apart : (text bytes : List ℕ) → (length text == length bytes) ≡ false → bytes_eq text bytes ≡ false
apart text bytes e = elim (cases_Bool (bytes_eq text bytes)) [
  | inl f ↦ absurd (let g : length text ≡ length bytes = ap length ((bytes_eq-Decides text bytes).0 f) in let h : (length text == length bytes) ≡ true = eq-eqb _ _ g in cc)
  | inr f ↦ f
]

-- only entries of the same length count
by_length : (table : List Entry) (bytes : List ℕ) → looked_up table bytes ≡ looked_up (of_length (length bytes) table) bytes
by_length [] bytes = refl
by_length (x ∷ table) bytes = elim (cases_Bool (length x.text == length bytes)) [
  | inl e ↦ ap (λ r. cond (bytes_eq x.text bytes) (Some x.piece) r) (by_length table bytes) ∙ ap (λ t. looked_up t bytes) (sym (cond-true _ _ _ e))
  | inr e ↦ cond-false _ _ _ (apart x.text bytes e) ∙ by_length table bytes ∙ ap (λ t. looked_up t bytes) (sym (cond-false _ _ _ e))
]

flip : (x a : ℕ) → (x == a) ≡ (a == x)
flip x a = elim (cases_Bool (x == a)) [
  | inl e ↦ e ∙ sym (eq-eqb a x (sym ((Decides-eqb x a).0 e)))
  | inr e ↦ e ∙ sym (ne_eqb a x (λ f. let g : (x == a) ≡ true = eq-eqb x a (sym f) in cc))
]

and_true : (b : Bool) → (b && true) ≡ b
and_true true = refl
and_true false = refl

one_byte : (x a : ℕ) → bytes_eq (x ∷ []) (a ∷ []) ≡ (a == x)
one_byte x a = and_true (x == a) ∙ flip x a

two_bytes : (x y a b : ℕ) → bytes_eq (x ∷ y ∷ []) (a ∷ b ∷ []) ≡ ((a == x) && (b == y))
two_bytes x y a b = ap (λ t. (x == a) && t) (one_byte y b) ∙ ap (λ t. t && (b == y)) (flip x a)

three_bytes : (x y z a b c : ℕ) → bytes_eq (x ∷ y ∷ z ∷ []) (a ∷ b ∷ c ∷ []) ≡ ((a == x) && ((b == y) && (c == z)))
three_bytes x y z a b c = ap (λ t. (x == a) && t) (two_bytes y z b c) ∙ ap (λ t. t && ((b == y) && (c == z))) (flip x a)

-- an entry, and what stands behind it
module _ (p : Piece) (bytes : List ℕ) (rest : List Entry) (next : Option Piece) where
  step : (text : List ℕ) (test : Bool) → bytes_eq text bytes ≡ test → looked_up rest bytes ≡ next → looked_up (record { text = text; piece = p } ∷ rest) bytes ≡ cond test (Some p) next
  step text test e f = ap (λ t. cond t (Some p) (looked_up rest bytes)) e ∙ ap (λ r. cond test (Some p) r) f

pub single_is : (a : ℕ) → looked_up marks (a ∷ []) ≡ single a
unfolding marks
single_is a = by_length marks (a ∷ []) ∙ simp one_byte

pub double_is : (a b : ℕ) → looked_up marks (a ∷ b ∷ []) ≡ double a b
unfolding marks
double_is a b = by_length marks (a ∷ b ∷ []) ∙ simp two_bytes

pub triple_is : (a b c : ℕ) → looked_up marks (a ∷ b ∷ c ∷ []) ≡ triple a b c
unfolding marks
triple_is a b c = by_length marks (a ∷ b ∷ c ∷ []) ∙ simp three_bytes

-- no mark is empty or has four bytes
pub no_empty : looked_up marks [] ≡ None
unfolding marks
no_empty = refl

of_no_length : (table : List Entry) (bytes : List ℕ) → list_all (λ x. nat_lt (length x.text) 4) table ≡ true → 4 ≤ length bytes → looked_up table bytes ≡ None
of_no_length [] bytes short long = refl
of_no_length (x ∷ table) bytes short long =
    let parts = and_parts _ _ short in
    let low : length x.text < 4 = ltb-true (length x.text) 4 parts.0 in
    cond-false _ _ _ (apart x.text bytes (ne_eqb (length x.text) (length bytes) (λ e. omega arith))) ∙ of_no_length table bytes parts.1 long

no_four : (bytes : List ℕ) → 4 ≤ length bytes → looked_up marks bytes ≡ None
unfolding marks
no_four bytes long = of_no_length marks bytes refl long

pub none_longer : (bytes : List ℕ) → IsNoLonger (looked_up marks) bytes 3
none_longer bytes = record { none = λ m more within. no_four (take m bytes) (omega (arith, length-take m bytes)) }

pub longer_than_two : (a b c : ℕ) (rest : List ℕ) → triple a b c ≡ None → IsNoLonger (looked_up marks) (a ∷ b ∷ c ∷ rest) 2
longer_than_two a b c rest e = record { none = λ m more within. each m more within }
  where
    each : (m : ℕ) → 2 < m → m ≤ length (a ∷ b ∷ c ∷ rest) → looked_up marks (take m (a ∷ b ∷ c ∷ rest)) ≡ None
    each zero more within = absurd (omega arith)
    each (suc zero) more within = absurd (omega arith)
    each (suc (suc zero)) more within = absurd (omega arith)
    each (suc (suc (suc zero))) more within = triple_is a b c ∙ e
    each (suc (suc (suc (suc m)))) more within = (none_longer (a ∷ b ∷ c ∷ rest)).none (suc (suc (suc (suc m)))) (omega arith) within

pub longer_than_one : (a b : ℕ) (rest : List ℕ) → double a b ≡ None → IsNoLonger (looked_up marks) (a ∷ b ∷ rest) 2 → IsNoLonger (looked_up marks) (a ∷ b ∷ rest) 1
longer_than_one a b rest e longer = record { none = λ m more within. each m more within }
  where
    each : (m : ℕ) → 1 < m → m ≤ length (a ∷ b ∷ rest) → looked_up marks (take m (a ∷ b ∷ rest)) ≡ None
    each zero more within = absurd (omega arith)
    each (suc zero) more within = absurd (omega arith)
    each (suc (suc zero)) more within = double_is a b ∙ e
    each (suc (suc (suc m))) more within = longer.none (suc (suc (suc m))) (omega arith) within

pub best_single : (a : ℕ) (rest : List ℕ) (p : Piece) → single a ≡ Some p → IsNoLonger (looked_up marks) (a ∷ rest) 1 → IsBest (looked_up marks) (a ∷ rest) 1 p
best_single a rest p e longer = record { within = omega arith; is = single_is a ∙ e; longest = longer.none }

pub never_single : (a : ℕ) (rest : List ℕ) → single a ≡ None → IsNoLonger (looked_up marks) (a ∷ rest) 1 → IsNever (looked_up marks) (a ∷ rest)
never_single a rest e longer = record { none = λ m within. each m within }
  where
    each : (m : ℕ) → m ≤ length (a ∷ rest) → looked_up marks (take m (a ∷ rest)) ≡ None
    each zero within = no_empty
    each (suc zero) within = single_is a ∙ e
    each (suc (suc m)) within = longer.none (suc (suc m)) (omega arith) within

pub best_double : (a b : ℕ) (rest : List ℕ) (p : Piece) → double a b ≡ Some p → IsNoLonger (looked_up marks) (a ∷ b ∷ rest) 2 → IsBest (looked_up marks) (a ∷ b ∷ rest) 2 p
best_double a b rest p e longer = record { within = omega arith; is = double_is a b ∙ e; longest = longer.none }

pub best_triple : (a b c : ℕ) (rest : List ℕ) (p : Piece) → triple a b c ≡ Some p → IsBest (looked_up marks) (a ∷ b ∷ c ∷ rest) 3 p
best_triple a b c rest p e = record { within = omega arith; is = triple_is a b c ∙ e; longest = (none_longer (a ∷ b ∷ c ∷ rest)).none }

-- what the code finds
abbrev Finds : List ℕ → Option (ℕ × Symbol) → Type 0
Finds bytes result = MatchOption result (IsNever (looked_up marks) bytes) (λ r. IsBest (looked_up marks) bytes r.0 (symbol_view r.1))

empty_at : (m : ℕ) → looked_up marks (take m []) ≡ None
empty_at zero = no_empty
empty_at (suc m) = no_empty

pub finds_empty : (bytes : List ℕ) → length bytes ≡ 0 → IsNever (looked_up marks) bytes
finds_empty [] e = record { none = λ m within. empty_at m }
finds_empty (b ∷ rest) e = absurd (omega arith)

pub finds_one : (bytes : List ℕ) (result : Option (ℕ × Symbol)) → length bytes ≡ 1 → ((rest : List ℕ) → IsNoLonger (looked_up marks) (get_or bytes 0 0 ∷ rest) 1 → Finds (get_or bytes 0 0 ∷ rest) result) → Finds bytes result
finds_one [] result e h = absurd (omega arith)
finds_one (a ∷ []) result e h = h [] (record { none = λ m more within. absurd (omega arith) })
finds_one (a ∷ b ∷ rest) result e h = absurd (omega arith)

pub finds_two : (bytes : List ℕ) (result : Option (ℕ × Symbol)) → length bytes ≡ 2 → ((rest : List ℕ) → IsNoLonger (looked_up marks) (get_or bytes 0 0 ∷ get_or bytes 1 0 ∷ rest) 2 → Finds (get_or bytes 0 0 ∷ get_or bytes 1 0 ∷ rest) result) → Finds bytes result
finds_two [] result e h = absurd (omega arith)
finds_two (a ∷ []) result e h = absurd (omega arith)
finds_two (a ∷ b ∷ []) result e h = h [] (record { none = λ m more within. absurd (omega arith) })
finds_two (a ∷ b ∷ c ∷ rest) result e h = absurd (omega arith)

pub finds_three : (bytes : List ℕ) (result : Option (ℕ × Symbol)) → 3 ≤ length bytes → ((rest : List ℕ) → Finds (get_or bytes 0 0 ∷ get_or bytes 1 0 ∷ get_or bytes 2 0 ∷ rest) result) → Finds bytes result
finds_three [] result e h = absurd (omega arith)
finds_three (a ∷ []) result e h = absurd (omega arith)
finds_three (a ∷ b ∷ []) result e h = absurd (omega arith)
finds_three (a ∷ b ∷ c ∷ rest) result e h = h rest

-- a byte that begins no word, number, separator or comment
pub record IsOther (b : ℕ) : Type 0 where
  pub no_letter : is_letter b ≡ false
  pub no_digit : is_digit b ≡ false
  pub no_blank : is_blank b ≡ false
  pub no_slash : b ≡ 47 → ⊥

marked : (b : ℕ) (xs : List ℕ) → IsOther b → piece_of (b ∷ xs) ≡ looked_up marks (b ∷ xs)
marked b xs k = cond-false (is_letter b) _ _ k.no_letter ∙ cond-false (is_digit b) _ _ k.no_digit ∙ cond-false (is_blank b) _ _ k.no_blank ∙ cond-false (b == 47) _ _ (ne_eqb b 47 k.no_slash)

marked_at : (b : ℕ) (xs : List ℕ) → IsOther b → (m : ℕ) → piece_of (take m (b ∷ xs)) ≡ looked_up marks (take m (b ∷ xs))
marked_at b xs k zero = sym no_empty
marked_at b xs k (suc m) = marked b (take m xs) k

some_byte : (bytes : List ℕ) (n : ℕ) (p : Piece) → looked_up marks (take n bytes) ≡ Some p → 0 < n
some_byte bytes zero p e = absurd (let f = no_empty in let g : looked_up marks [] ≡ Some p = e in cc)
some_byte bytes (suc n) p e = omega arith

pub mark_found : (bytes : List ℕ) (n : ℕ) (p : Piece) → 1 ≤ length bytes → IsOther (get_or bytes 0 0) → IsBest (looked_up marks) bytes n p → IsLongest bytes n p
mark_found [] n p some k best = absurd (omega arith)
mark_found (b ∷ rest) n p some k best = record {
  some = some_byte (b ∷ rest) n p best.is;
  within = best.within;
  is = marked_at b rest k n ∙ best.is;
  longest = λ m more within. marked_at b rest k m ∙ best.longest m more within;
}

pub no_mark : (bytes : List ℕ) → 1 ≤ length bytes → IsOther (get_or bytes 0 0) → IsNever (looked_up marks) bytes → IsNever piece_of bytes
no_mark [] some k never = absurd (omega arith)
no_mark (b ∷ rest) some k never = record { none = λ m within. marked_at b rest k m ∙ never.none m within }
