-- What is known of words, as further words are found.
use Rattle.std.proofs.Common.{◌≡◌, ℕ, ◌+◌, ◌<◌, true, false, List, [], ◌∷◌, ◌++◌, length, Option, Some, None, refl, sym, ap, ◌∙◌, subst, arith, inl, inr, length-append}
use Rattle.std.specs.Str.{bytes_eq}
use Rattle.std.specs.Map.{update}
use Rattle.std.proofs.lemmas.Bool.{cond-true, cond-false, cases_Bool}
use Rattle.std.proofs.lemmas.Slice.Eq.{bytes_eq-Decides}
use Rattle.verilog_tree.specs.Renaming.{number_in}
use Rattle.verilog_text.specs.declared.token.Token.TheVariants as token
use Rattle.verilog_text.specs.Lexer.{Gap, NameText, name_unless, word_piece, looked_up, words}
use Rattle.verilog_text.specs.Names.{Inside, with_name, with_piece, lexeme_in}
use Rattle.verilog_lex.specs.declared.found.Symbol.{Symbol}
use Rattle.verilog_lex.specs.declared.found.Symbol.TheVariants as symbol
use Rattle.verilog_lex.specs.declared.names.Known.{Known}
use Rattle.verilog_lex.specs.declared.names.Known.TheVariants as known
use Rattle.verilog_lex.specs.Found.{symbol_view}
use Rattle.verilog_lex.specs.Known.{IsKnown, known_lexeme}

number_in-append-old : (names : List (List ℕ)) (more text : List ℕ) → number_in names text < length names → number_in (names ++ more ∷ []) text ≡ number_in names text
number_in-append-old [] more text low = absurd (omega arith)
number_in-append-old (name ∷ names) more text low = elim (cases_Bool (bytes_eq name text)) [
  | inl e ↦ cond-true _ _ _ e ∙ sym (cond-true _ _ _ e)
  | inr e ↦
      let n : number_in (name ∷ names) text ≡ number_in names text + 1 = cond-false _ _ _ e in
      cond-false _ _ _ e ∙ ap (λ k. k + 1) (number_in-append-old names more text (omega arith)) ∙ sym n
]

not_first : (name text : List ℕ) (names : List (List ℕ)) → number_in (name ∷ names) text ≡ length (name ∷ names) → (bytes_eq name text ≡ false) × (number_in names text ≡ length names)
not_first name text names none = elim (cases_Bool (bytes_eq name text)) [
  | inl e ↦ absurd (let n : number_in (name ∷ names) text ≡ 0 = cond-true _ _ _ e in omega arith)
  | inr e ↦ (e, let n : number_in (name ∷ names) text ≡ number_in names text + 1 = cond-false _ _ _ e in omega arith)
]

number_in-append-none : (names : List (List ℕ)) (more text : List ℕ) → number_in names text ≡ length names → bytes_eq more text ≡ false → number_in (names ++ more ∷ []) text ≡ length (names ++ more ∷ [])
number_in-append-none [] more text none other = cond-false _ _ _ other
number_in-append-none (name ∷ names) more text none other =
    let first = not_first name text names none in
    cond-false _ _ _ first.0 ∙ ap (λ k. k + 1) (number_in-append-none names more text first.1 other) ∙ (omega arith)

pub number_in-append-new : (names : List (List ℕ)) (text : List ℕ) → number_in names text ≡ length names → number_in (names ++ text ∷ []) text ≡ length names
number_in-append-new [] text none = cond-true _ _ _ ((bytes_eq-Decides text text).1 refl)
number_in-append-new (name ∷ names) text none =
    let first = not_first name text names none in
    cond-false _ _ _ first.0 ∙ ap (λ k. k + 1) (number_in-append-new names text first.1) ∙ (omega arith)

pub with_name-new : (names : List (List ℕ)) (text : List ℕ) → number_in names text ≡ length names → with_name names text ≡ names ++ text ∷ []
with_name-new [] text none = refl
with_name-new (name ∷ names) text none =
    let first = not_first name text names none in
    cond-false _ _ _ first.0 ∙ ap (λ ns. name ∷ ns) (with_name-new names text first.1)

pub with_name-old : (names : List (List ℕ)) (text : List ℕ) → number_in names text < length names → with_name names text ≡ names
with_name-old [] text low = absurd (omega arith)
with_name-old (name ∷ names) text low = elim (cases_Bool (bytes_eq name text)) [
  | inl e ↦ cond-true _ _ _ e
  | inr e ↦
      let n : number_in (name ∷ names) text ≡ number_in names text + 1 = cond-false _ _ _ e in
      cond-false _ _ _ e ∙ ap (λ ns. name ∷ ns) (with_name-old names text (omega arith))
]

-- a further name changes nothing for other words
kept : (names : List (List ℕ)) (more text : List ℕ) (o : Option Known) → bytes_eq more text ≡ false → IsKnown names text o → IsKnown (names ++ more ∷ []) text o
kept names more text None other h = number_in-append-none names more text h other
kept names more text (Some (known.Reserved s)) other h = h
kept names more text (Some (known.Name n)) other h =
    let len = length-append names (more ∷ []) in
    let low : number_in names text < length names = omega (arith, h.1, h.2) in
    (h.0, h.1 ∙ sym (number_in-append-old names more text low), omega (arith, h.2, len))

-- one word more
module _ (before after : List ℕ → Option Known) (text : List ℕ) (w : Known) (updates : (q : List ℕ) → after q ≡ update bytes_eq before text (Some w) q) where
  at_word : (names : List (List ℕ)) → IsKnown names text (Some w) → (q : List ℕ) → bytes_eq text q ≡ true → IsKnown names q (after q)
  at_word names h q e =
      let here : IsKnown names q (Some w) = subst (λ t. IsKnown names t (Some w)) ((bytes_eq-Decides text q).0 e) h in
      subst (IsKnown names q) (sym (updates q ∙ cond-true _ _ _ e)) here

  pub knows_reserved : (names : List (List ℕ)) → ((q : List ℕ) → IsKnown names q (before q)) → IsKnown names text (Some w) → (q : List ℕ) → IsKnown names q (after q)
  knows_reserved names knows h q = elim (cases_Bool (bytes_eq text q)) [
    | inl e ↦ at_word names h q e
    | inr e ↦ subst (IsKnown names q) (sym (updates q ∙ cond-false _ _ _ e)) (knows q)
  ]

  pub knows_name : (names : List (List ℕ)) → ((q : List ℕ) → IsKnown names q (before q)) → IsKnown (names ++ text ∷ []) text (Some w) → (q : List ℕ) → IsKnown (names ++ text ∷ []) q (after q)
  knows_name names knows h q = elim (cases_Bool (bytes_eq text q)) [
    | inl e ↦ at_word (names ++ text ∷ []) h q e
    | inr e ↦ subst (IsKnown (names ++ text ∷ []) q) (sym (updates q ∙ cond-false _ _ _ e)) (kept names text q (before q) e (knows q))
  ]

-- a new name is known by its number
pub name_known : (names : List (List ℕ)) (text : List ℕ) (n : ℕ) → word_piece text ≡ NameText text → number_in names text ≡ length names → n ≡ length names → IsKnown (names ++ text ∷ []) text (Some (known.Name n))
name_known names text n is new e = let len = length-append names (text ∷ []) in (is, e ∙ sym (number_in-append-new names text new), omega (arith, len))

-- a known word adds no name
pub same_names : (names : List (List ℕ)) (s : Symbol) → with_piece names (symbol_view s) ≡ names
same_names names (symbol.Read t) = refl
same_names names symbol.Outside = refl
same_names names symbol.Unreadable = refl

same_lexeme : (names : List (List ℕ)) (s : Symbol) → known_lexeme (known.Reserved s) ≡ lexeme_in names (symbol_view s)
same_lexeme names (symbol.Read t) = refl
same_lexeme names symbol.Outside = refl
same_lexeme names symbol.Unreadable = refl

pub known_names : (names : List (List ℕ)) (text : List ℕ) (k : Known) → IsKnown names text (Some k) → with_piece names (word_piece text) ≡ names
known_names names text (known.Reserved s) h = ap (with_piece names) h ∙ same_names names s
known_names names text (known.Name n) h = ap (with_piece names) h.0 ∙ with_name-old names text (omega (arith, h.1, h.2))

pub known_lexeme_is : (names : List (List ℕ)) (text : List ℕ) (k : Known) → IsKnown names text (Some k) → known_lexeme k ≡ lexeme_in names (word_piece text)
known_lexeme_is names text (known.Reserved s) h = same_lexeme names s ∙ ap (lexeme_in names) (sym h)
known_lexeme_is names text (known.Name n) h = ap (λ m. Inside (token.Name m)) h.1 ∙ ap (lexeme_in names) (sym h.0)

-- what the tables have
pub table_piece : (text : List ℕ) (s : Symbol) → Some (symbol_view s) ≡ looked_up words text → word_piece text ≡ symbol_view s
table_piece text s e = ap (λ o. name_unless o text) (sym e)

pub name_piece : (text : List ℕ) → None ≡ looked_up words text → word_piece text ≡ NameText text
name_piece text e = ap (λ o. name_unless o text) (sym e)

pub symbol_no_gap : (s : Symbol) → symbol_view s ≡ Gap → ⊥
symbol_no_gap (symbol.Read t) e = cc
symbol_no_gap symbol.Outside e = cc
symbol_no_gap symbol.Unreadable e = cc
