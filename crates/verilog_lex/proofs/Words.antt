-- The table of words.
use Rattle.std.proofs.Common.{◌≡◌, ℕ, true, false, cond, List, [], ◌∷◌, ◌++◌, map, Option, Some, None, refl, sym, ap, ◌∙◌, inl, inr}
use Rattle.std.specs.Prelude.{find, ◌||◌}
use Rattle.std.specs.List.{list_any}
use Rattle.std.specs.Option.{option_map}
use Rattle.std.specs.Str.{bytes_eq}
use Rattle.std.proofs.lemmas.Bool.{cond-true, cond-false, cases_Bool}
use Rattle.verilog_text.specs.declared.token.Word.{Word}
use Rattle.verilog_text.specs.declared.token.Token.TheVariants as token
use Rattle.verilog_text.specs.Spelling.{word_text, all_words}
use Rattle.verilog_text.specs.Lexer.{Piece, Fixed, OutsidePiece, Entry, looked_up, outside, outside_words, words}

abbrev or_else : Option Piece → Option Piece → Option Piece
or_else (Some p) next = Some p
or_else None next = next

abbrev keyword_of : Word → Piece
keyword_of w = Fixed (token.Keyword w)

-- the words of the subset stand first
words_first : (ws : List Word) (rest : List Entry) (text : List ℕ) → looked_up (map (λ w. record { text = word_text w; piece = Fixed (token.Keyword w) }) ws ++ rest) text ≡ or_else (option_map keyword_of (find (λ w. bytes_eq (word_text w) text) ws)) (looked_up rest text)
words_first [] rest text = refl
words_first (w ∷ ws) rest text = elim (cases_Bool (bytes_eq (word_text w) text)) [
  | inl e ↦ cond-true _ _ _ e ∙ ap (λ o. or_else (option_map keyword_of o) (looked_up rest text)) (sym (cond-true _ _ _ e))
  | inr e ↦ cond-false _ _ _ e ∙ words_first ws rest text ∙ ap (λ o. or_else (option_map keyword_of o) (looked_up rest text)) (sym (cond-false _ _ _ e))
]

outside_last : (ws : List (List ℕ)) (text : List ℕ) → looked_up (map outside ws) text ≡ cond (list_any (λ w. bytes_eq w text) ws) (Some OutsidePiece) None
outside_last [] text = refl
outside_last (w ∷ ws) text = elim (cases_Bool (bytes_eq w text)) [
  | inl e ↦ cond-true _ _ _ e ∙ ap (λ b. cond (b || list_any (λ w. bytes_eq w text) ws) (Some OutsidePiece) None) (sym e)
  | inr e ↦ cond-false _ _ _ e ∙ outside_last ws text ∙ ap (λ b. cond (b || list_any (λ w. bytes_eq w text) ws) (Some OutsidePiece) None) (sym e)
]

words_are : (text : List ℕ) → looked_up words text ≡ or_else (option_map keyword_of (find (λ w. bytes_eq (word_text w) text) all_words)) (cond (list_any (λ w. bytes_eq w text) outside_words) (Some OutsidePiece) None)
unfolding words
words_are text = words_first all_words (map outside outside_words) text ∙ ap (or_else (option_map keyword_of (find (λ w. bytes_eq (word_text w) text) all_words))) (outside_last outside_words text)

pub keyword_found : (text : List ℕ) (w : Word) → Some w ≡ find (λ v. bytes_eq (word_text v) text) all_words → Some (Fixed (token.Keyword w)) ≡ looked_up words text
keyword_found text w e = sym (words_are text ∙ ap (λ o. or_else (option_map keyword_of o) (cond (list_any (λ v. bytes_eq v text) outside_words) (Some OutsidePiece) None)) (sym e))

pub outside_found : (text : List ℕ) → None ≡ find (λ v. bytes_eq (word_text v) text) all_words → list_any (λ w. bytes_eq w text) outside_words ≡ true → Some OutsidePiece ≡ looked_up words text
outside_found text e f = sym (words_are text ∙ ap (λ o. or_else (option_map keyword_of o) (cond (list_any (λ v. bytes_eq v text) outside_words) (Some OutsidePiece) None)) (sym e) ∙ cond-true _ _ _ f)

pub no_word : (text : List ℕ) → None ≡ find (λ v. bytes_eq (word_text v) text) all_words → list_any (λ w. bytes_eq w text) outside_words ≡ false → looked_up words text ≡ None
no_word text e f = words_are text ∙ ap (λ o. or_else (option_map keyword_of o) (cond (list_any (λ v. bytes_eq v text) outside_words) (Some OutsidePiece) None)) (sym e) ∙ cond-false _ _ _ f
