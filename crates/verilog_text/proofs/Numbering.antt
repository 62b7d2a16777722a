-- Names and their numbers, as further names are found.
use Rattle.std.proofs.Common.{◌≡◌, ℕ, zero, suc, ◌+◌, ◌<◌, ◌≤◌, List, [], ◌∷◌, length, refl, sym, ap, ◌∙◌, arith, inl, inr}
use Rattle.std.specs.Prelude.{map}
use Rattle.std.specs.Str.{bytes_eq}
use Rattle.std.proofs.lemmas.Bool.{cond-true, cond-false, cond_both, cases_Bool}
use Rattle.std.proofs.lemmas.Slice.Eq.{bytes_eq-Decides}
use Rattle.verilog_tree.specs.Renaming.{name_in, number_in, AreDistinct}
use Rattle.verilog_text.specs.declared.token.Token.{Token}
use Rattle.verilog_text.specs.declared.token.Token.TheVariants as token
use Rattle.verilog_text.specs.Lexer.{Piece, Gap, NameText, Fixed, OutsidePiece, UnreadablePiece, Placed}
use Rattle.verilog_text.specs.Names.{with_name, with_piece, names_behind, Inside, lexeme_in}
use Rattle.verilog_text.specs.Layout.{behind, IsName, AreSpelled, placed}
use Rattle.verilog_text.specs.Renamed.{token_in}

-- a name that was found has its text
pub name_of_number : (names : List (List ℕ)) (text : List ℕ) → number_in names text < length names → name_in names (number_in names text) ≡ text
name_of_number [] text h = absurd (omega arith)
name_of_number (name ∷ names) text h =
    elim (cases_Bool (bytes_eq name text)) [
      | inl e ↦ ap (λ n. name_in (name ∷ names) n) (cond-true _ _ _ e) ∙ (bytes_eq-Decides name text).0 e
      | inr e ↦
          let n = cond-false (bytes_eq name text) 0 (number_in names text + 1) e in
          let next : number_in (name ∷ names) text ≡ suc (number_in names text) = omega (arith, n) in
          ap (λ k. name_in (name ∷ names) k) next ∙ name_of_number names text (omega (arith, n))
    ]

-- among different names each has its place as its number
pub number_of_name : (names : List (List ℕ)) (n : ℕ) → AreDistinct names → n < length names → number_in names (name_in names n) ≡ n
number_of_name [] n distinct h = absurd (omega arith)
number_of_name (name ∷ names) zero distinct h = cond-true _ _ _ ((bytes_eq-Decides name name).1 refl)
number_of_name (name ∷ names) (suc n) distinct h =
    let next = number_of_name names n distinct.1 (omega arith) in
    elim (cases_Bool (bytes_eq name (name_in names n))) [
      | inl e ↦ absurd (let same = ap (number_in names) ((bytes_eq-Decides name (name_in names n)).0 e) in omega (arith, same, next, distinct.0))
      | inr e ↦ cond-false _ _ _ e ∙ ap (λ k. k + 1) next ∙ (omega arith)
    ]

-- a name that is there keeps its number
number_in-with_name : (names : List (List ℕ)) (more text : List ℕ) → number_in names text < length names → number_in (with_name names more) text ≡ number_in names text
number_in-with_name [] more text h = absurd (omega arith)
number_in-with_name (name ∷ names) more text h =
    elim (cases_Bool (bytes_eq name more)) [
      | inl e ↦ ap (λ ns. number_in ns text) (cond-true _ _ _ e)
      | inr e ↦ ap (λ ns. number_in ns text) (cond-false _ _ _ e) ∙ elim (cases_Bool (bytes_eq name text)) [
        | inl f ↦ cond-true _ _ _ f ∙ sym (cond-true _ _ _ f)
        | inr f ↦
            let n = cond-false (bytes_eq name text) 0 (number_in names text + 1) f in
            cond-false _ _ _ f ∙ ap (λ k. k + 1) (number_in-with_name names more text (omega (arith, n))) ∙ sym n
      ]
    ]

length-with_name-le : (names : List (List ℕ)) (more : List ℕ) → length names ≤ length (with_name names more)
length-with_name-le [] more = omega arith
length-with_name-le (name ∷ names) more = cond_both (bytes_eq name more) (name ∷ names) (name ∷ with_name names more) (λ ns. length (name ∷ names) ≤ length ns) (λ e. omega arith) (λ e. let h = length-with_name-le names more in omega arith)

piece_keeps : (p : Piece) (names : List (List ℕ)) (text : List ℕ) → number_in names text < length names → (number_in (with_piece names p) text ≡ number_in names text) × (length names ≤ length (with_piece names p))
piece_keeps Gap names text h = (refl, omega arith)
piece_keeps (NameText more) names text h = (number_in-with_name names more text h, length-with_name-le names more)
piece_keeps (Fixed t) names text h = (refl, omega arith)
piece_keeps OutsidePiece names text h = (refl, omega arith)
piece_keeps UnreadablePiece names text h = (refl, omega arith)

-- so it has the number that it has in the whole text
pub number_in-kept : (pieces : List Placed) (names : List (List ℕ)) (text : List ℕ) → number_in names text < length names → (number_in (names_behind names pieces) text ≡ number_in names text) × (length names ≤ length (names_behind names pieces))
number_in-kept [] names text h = (refl, omega arith)
number_in-kept (x ∷ rest) names text h =
    let k = piece_keeps x.piece names text h in
    let r = number_in-kept rest (with_piece names x.piece) text (omega (arith, k.0, k.1)) in
    (r.0 ∙ k.0, omega (arith, r.1, k.1))

-- a name is there once it was found
number_in-with_name-low : (names : List (List ℕ)) (text : List ℕ) → number_in (with_name names text) text < length (with_name names text)
number_in-with_name-low [] text = let e : number_in (text ∷ []) text ≡ 0 = cond-true _ _ _ ((bytes_eq-Decides text text).1 refl) in omega arith
number_in-with_name-low (name ∷ names) text =
    cond_both (bytes_eq name text) (name ∷ names) (name ∷ with_name names text) (λ ns. number_in ns text < length ns)
    (λ e. let n : number_in (name ∷ names) text ≡ 0 = cond-true _ _ _ e in omega arith)
    (λ e. let n : number_in (name ∷ with_name names text) text ≡ number_in (with_name names text) text + 1 = cond-false _ _ _ e in let h = number_in-with_name-low names text in omega arith)

-- a fact of the number of each name among these tokens
abbrev pub OfName : (ℕ → Type 0) → Token → Type 0
OfName P (token.Name n) = P n
OfName P _ = Unit {0}

abbrev pub OfNames : (ℕ → Type 0) → List Token → Type 0
OfNames P [] = Unit {0}
OfNames P (t ∷ rest) = OfName P t × OfNames P rest

pub each : (P Q : ℕ → Type 0) → ((n : ℕ) → P n → Q n) → (ts : List Token) → OfNames P ts → OfNames Q ts
each P Q f [] h = tt
each P Q f (token.Name n ∷ ts) h = (f n h.0, each P Q f ts h.1)
each P Q f (token.Number d ∷ ts) h = (tt, each P Q f ts h.1)
each P Q f (token.Based l ∷ ts) h = (tt, each P Q f ts h.1)
each P Q f (token.Keyword w ∷ ts) h = (tt, each P Q f ts h.1)
each P Q f (token.Operator o ∷ ts) h = (tt, each P Q f ts h.1)
each P Q f (token.Shift s ∷ ts) h = (tt, each P Q f ts h.1)
each P Q f (token.Punctuation m ∷ ts) h = (tt, each P Q f ts h.1)

-- a name that isn't empty lies in the list
pub name_low : (names : List (List ℕ)) (n : ℕ) → IsName (name_in names n) → n < length names
name_low [] n h = absurd h
name_low (name ∷ names) zero h = omega arith
name_low (name ∷ names) (suc n) h = let r = name_low names n h in omega arith

module _ (names : List (List ℕ)) where
  -- each name of the tokens is among those that are found
  pub found : (before : List (List ℕ)) (place : ℕ) (ts : List Token) → AreSpelled names ts → let all = names_behind before (placed names place ts) in OfNames (λ n. (n < length names) × (number_in all (name_in names n) < length all)) ts
  found before place [] h = tt
  found before place (token.Name n ∷ ts) h =
      let text : List ℕ = name_in names n in
      let next : ℕ = place + length text + length (behind (token.Name n) ts) in
      let low = number_in-with_name-low before text in
      let kept = number_in-kept (placed names next ts) (with_name before text) text low in
      ((name_low names n h.0, omega (arith, kept.0, kept.1)), found (with_name before text) next ts h.1)
  found before place (token.Number d ∷ ts) h = (tt, found before _ ts h.1)
  found before place (token.Based l ∷ ts) h = (tt, found before _ ts h.1)
  found before place (token.Keyword w ∷ ts) h = (tt, found before _ ts h.1)
  found before place (token.Operator o ∷ ts) h = (tt, found before _ ts h.1)
  found before place (token.Shift s ∷ ts) h = (tt, found before _ ts h.1)
  found before place (token.Punctuation m ∷ ts) h = (tt, found before _ ts h.1)

  -- the lexemes of the tokens are these tokens, with the numbers of the names that are found
  pub lexemes_of_placed : (all : List (List ℕ)) (ts : List Token) (place : ℕ) → map (λ x. lexeme_in all x.piece) (placed names place ts) ≡ map Inside (map (token_in (λ n. number_in all (name_in names n))) ts)
  lexemes_of_placed all [] place = refl
  lexemes_of_placed all (token.Name n ∷ ts) place = ap (λ xs. Inside (token.Name (number_in all (name_in names n))) ∷ xs) (lexemes_of_placed all ts _)
  lexemes_of_placed all (token.Number d ∷ ts) place = ap (λ xs. Inside (token.Number d) ∷ xs) (lexemes_of_placed all ts _)
  lexemes_of_placed all (token.Based l ∷ ts) place = ap (λ xs. Inside (token.Based l) ∷ xs) (lexemes_of_placed all ts _)
  lexemes_of_placed all (token.Keyword w ∷ ts) place = ap (λ xs. Inside (token.Keyword w) ∷ xs) (lexemes_of_placed all ts _)
  lexemes_of_placed all (token.Operator o ∷ ts) place = ap (λ xs. Inside (token.Operator o) ∷ xs) (lexemes_of_placed all ts _)
  lexemes_of_placed all (token.Shift s ∷ ts) place = ap (λ xs. Inside (token.Shift s) ∷ xs) (lexemes_of_placed all ts _)
  lexemes_of_placed all (token.Punctuation m ∷ ts) place = ap (λ xs. Inside (token.Punctuation m) ∷ xs) (lexemes_of_placed all ts _)
