-- Words, marks and names in front of what ends them.
use Rattle.std.proofs.Common.{◌≡◌, ℕ, ◌<◌, Bool, true, false, List, [], ◌∷◌, ◌++◌, length, Some, None, refl, ap, ◌∙◌, arith}
use Rattle.std.specs.List.{list_all}
use Rattle.std.proofs.lemmas.List.Folds.{list_all-append}
use Rattle.std.proofs.lemmas.Bool.{cond-true, cond-false, and_left, and_right}
use Rattle.verilog_tree.specs.declared.tree.Op.{Op}
use Rattle.verilog_tree.specs.declared.tree.Op.TheVariants as op
use Rattle.verilog_tree.specs.declared.tree.ShiftOp.{ShiftOp}
use Rattle.verilog_tree.specs.declared.tree.ShiftOp.TheVariants as shift
use Rattle.verilog_text.specs.declared.token.Word.{Word}
use Rattle.verilog_text.specs.declared.token.Word.TheVariants as word
use Rattle.verilog_text.specs.declared.token.Mark.{Mark}
use Rattle.verilog_text.specs.declared.token.Mark.TheVariants as mark
use Rattle.verilog_text.specs.declared.token.Token.TheVariants as token
use Rattle.verilog_text.specs.Spelling.{word_text, mark_text, op_text, shift_text}
use Rattle.verilog_text.specs.Lexer.{Piece, NameText, Fixed, is_letter, is_name_byte, name_unless, word_piece, piece_of, words, marks}
use Rattle.verilog_text.specs.Layout.{IsName}

-- a byte that ends each token but marks
pub data End : Type 0 where
  BySpace : End
  ByLine : End
  ByClose : End
  ByBracket : End
  ByComma : End
  BySemicolon : End

abbrev pub end_byte : End → ℕ
end_byte BySpace = 32
end_byte ByLine = 10
end_byte ByClose = 41
end_byte ByBracket = 93
end_byte ByComma = 44
end_byte BySemicolon = 59

-- these bytes alone are the piece, and no bytes that go on with an end are one
pub record IsSpelling (text : List ℕ) (p : Piece) : Type 0 where
  pub some : 0 < length text
  pub alone : piece_of text ≡ Some p
  pub ended : (g : End) (xs : List ℕ) → piece_of (text ++ (end_byte g ∷ xs)) ≡ None

-- an end stops every run of bytes that it does not pass
pub run_stops : (test : ℕ → Bool) (xs ys : List ℕ) (s : ℕ) → test s ≡ false → list_all test (xs ++ (s ∷ ys)) ≡ false
run_stops test xs ys s e = list_all-append test xs (s ∷ ys) ∙ and_right (list_all test xs) _ (and_left (test s) _ e)

no_name_byte : (g : End) → is_name_byte (end_byte g) ≡ false
no_name_byte BySpace = refl
no_name_byte ByLine = refl
no_name_byte ByClose = refl
no_name_byte ByBracket = refl
no_name_byte ByComma = refl
no_name_byte BySemicolon = refl

word_spelling : (b : ℕ) (rest : List ℕ) (p : Piece) → is_letter b ≡ true → list_all is_name_byte rest ≡ true → word_piece (b ∷ rest) ≡ p → IsSpelling (b ∷ rest) p
word_spelling b rest p first others is = record {
  some = omega arith;
  alone = cond-true _ _ _ first ∙ cond-true _ _ _ others ∙ ap Some is;
  ended = λ g xs. cond-true _ _ _ first ∙ cond-false _ _ _ (run_stops is_name_byte rest xs (end_byte g) (no_name_byte g));
}

pub name_spelling : (text : List ℕ) → IsName text → IsSpelling text (NameText text)
name_spelling [] h = absurd h
name_spelling (b ∷ rest) h = word_spelling b rest (NameText (b ∷ rest)) h.0 h.1 (ap (λ p. name_unless p (b ∷ rest)) h.2)

pub keyword_spelling : (w : Word) → IsSpelling (word_text w) (Fixed (token.Keyword w))
unfolding words
keyword_spelling word.Module = word_spelling _ _ _ refl refl refl
keyword_spelling word.EndModule = word_spelling _ _ _ refl refl refl
keyword_spelling word.Input = word_spelling _ _ _ refl refl refl
keyword_spelling word.Output = word_spelling _ _ _ refl refl refl
keyword_spelling word.Wire = word_spelling _ _ _ refl refl refl
keyword_spelling word.Reg = word_spelling _ _ _ refl refl refl
keyword_spelling word.Signed = word_spelling _ _ _ refl refl refl
keyword_spelling word.Assign = word_spelling _ _ _ refl refl refl
keyword_spelling word.Always = word_spelling _ _ _ refl refl refl
keyword_spelling word.Posedge = word_spelling _ _ _ refl refl refl
keyword_spelling word.Begin = word_spelling _ _ _ refl refl refl
keyword_spelling word.End = word_spelling _ _ _ refl refl refl
keyword_spelling word.If = word_spelling _ _ _ refl refl refl
keyword_spelling word.Else = word_spelling _ _ _ refl refl refl

-- a text of the tables, by each end
by_ends : (text : List ℕ) (p : Piece) → 0 < length text → piece_of text ≡ Some p → ((xs : List ℕ) → piece_of (text ++ (32 ∷ xs)) ≡ None) → ((xs : List ℕ) → piece_of (text ++ (10 ∷ xs)) ≡ None) → ((xs : List ℕ) → piece_of (text ++ (41 ∷ xs)) ≡ None) → ((xs : List ℕ) → piece_of (text ++ (93 ∷ xs)) ≡ None) → ((xs : List ℕ) → piece_of (text ++ (44 ∷ xs)) ≡ None) → ((xs : List ℕ) → piece_of (text ++ (59 ∷ xs)) ≡ None) → IsSpelling text p
by_ends text p some alone space line close bracket comma semicolon = record { some = some; alone = alone; ended = by_end }
  where
    by_end : (g : End) (xs : List ℕ) → piece_of (text ++ (end_byte g ∷ xs)) ≡ None
    by_end BySpace xs = space xs
    by_end ByLine xs = line xs
    by_end ByClose xs = close xs
    by_end ByBracket xs = bracket xs
    by_end ByComma xs = comma xs
    by_end BySemicolon xs = semicolon xs

pub mark_spelling : (m : Mark) → IsSpelling (mark_text m) (Fixed (token.Punctuation m))
unfolding marks
mark_spelling mark.Open = by_ends _ _ (omega arith) refl (λ xs. refl) (λ xs. refl) (λ xs. refl) (λ xs. refl) (λ xs. refl) (λ xs. refl)
mark_spelling mark.Close = by_ends _ _ (omega arith) refl (λ xs. refl) (λ xs. refl) (λ xs. refl) (λ xs. refl) (λ xs. refl) (λ xs. refl)
mark_spelling mark.OpenBracket = by_ends _ _ (omega arith) refl (λ xs. refl) (λ xs. refl) (λ xs. refl) (λ xs. refl) (λ xs. refl) (λ xs. refl)
mark_spelling mark.CloseBracket = by_ends _ _ (omega arith) refl (λ xs. refl) (λ xs. refl) (λ xs. refl) (λ xs. refl) (λ xs. refl) (λ xs. refl)
mark_spelling mark.OpenBrace = by_ends _ _ (omega arith) refl (λ xs. refl) (λ xs. refl) (λ xs. refl) (λ xs. refl) (λ xs. refl) (λ xs. refl)
mark_spelling mark.CloseBrace = by_ends _ _ (omega arith) refl (λ xs. refl) (λ xs. refl) (λ xs. refl) (λ xs. refl) (λ xs. refl) (λ xs. refl)
mark_spelling mark.Comma = by_ends _ _ (omega arith) refl (λ xs. refl) (λ xs. refl) (λ xs. refl) (λ xs. refl) (λ xs. refl) (λ xs. refl)
mark_spelling mark.Semicolon = by_ends _ _ (omega arith) refl (λ xs. refl) (λ xs. refl) (λ xs. refl) (λ xs. refl) (λ xs. refl) (λ xs. refl)
mark_spelling mark.Colon = by_ends _ _ (omega arith) refl (λ xs. refl) (λ xs. refl) (λ xs. refl) (λ xs. refl) (λ xs. refl) (λ xs. refl)
mark_spelling mark.Question = by_ends _ _ (omega arith) refl (λ xs. refl) (λ xs. refl) (λ xs. refl) (λ xs. refl) (λ xs. refl) (λ xs. refl)
mark_spelling mark.At = by_ends _ _ (omega arith) refl (λ xs. refl) (λ xs. refl) (λ xs. refl) (λ xs. refl) (λ xs. refl) (λ xs. refl)
mark_spelling mark.Assigned = by_ends _ _ (omega arith) refl (λ xs. refl) (λ xs. refl) (λ xs. refl) (λ xs. refl) (λ xs. refl) (λ xs. refl)
mark_spelling mark.Inverse = by_ends _ _ (omega arith) refl (λ xs. refl) (λ xs. refl) (λ xs. refl) (λ xs. refl) (λ xs. refl) (λ xs. refl)

pub op_spelling : (o : Op) → IsSpelling (op_text o) (Fixed (token.Operator o))
unfolding marks
op_spelling op.Add = by_ends _ _ (omega arith) refl (λ xs. refl) (λ xs. refl) (λ xs. refl) (λ xs. refl) (λ xs. refl) (λ xs. refl)
op_spelling op.Sub = by_ends _ _ (omega arith) refl (λ xs. refl) (λ xs. refl) (λ xs. refl) (λ xs. refl) (λ xs. refl) (λ xs. refl)
op_spelling op.Less = by_ends _ _ (omega arith) refl (λ xs. refl) (λ xs. refl) (λ xs. refl) (λ xs. refl) (λ xs. refl) (λ xs. refl)
op_spelling op.LessEqual = by_ends _ _ (omega arith) refl (λ xs. refl) (λ xs. refl) (λ xs. refl) (λ xs. refl) (λ xs. refl) (λ xs. refl)
op_spelling op.Greater = by_ends _ _ (omega arith) refl (λ xs. refl) (λ xs. refl) (λ xs. refl) (λ xs. refl) (λ xs. refl) (λ xs. refl)
op_spelling op.GreaterEqual = by_ends _ _ (omega arith) refl (λ xs. refl) (λ xs. refl) (λ xs. refl) (λ xs. refl) (λ xs. refl) (λ xs. refl)
op_spelling op.Equal = by_ends _ _ (omega arith) refl (λ xs. refl) (λ xs. refl) (λ xs. refl) (λ xs. refl) (λ xs. refl) (λ xs. refl)
op_spelling op.NotEqual = by_ends _ _ (omega arith) refl (λ xs. refl) (λ xs. refl) (λ xs. refl) (λ xs. refl) (λ xs. refl) (λ xs. refl)
op_spelling op.And = by_ends _ _ (omega arith) refl (λ xs. refl) (λ xs. refl) (λ xs. refl) (λ xs. refl) (λ xs. refl) (λ xs. refl)
op_spelling op.Xor = by_ends _ _ (omega arith) refl (λ xs. refl) (λ xs. refl) (λ xs. refl) (λ xs. refl) (λ xs. refl) (λ xs. refl)
op_spelling op.Or = by_ends _ _ (omega arith) refl (λ xs. refl) (λ xs. refl) (λ xs. refl) (λ xs. refl) (λ xs. refl) (λ xs. refl)

pub shift_spelling : (s : ShiftOp) → IsSpelling (shift_text s) (Fixed (token.Shift s))
unfolding marks
shift_spelling shift.Left = by_ends _ _ (omega arith) refl (λ xs. refl) (λ xs. refl) (λ xs. refl) (λ xs. refl) (λ xs. refl) (λ xs. refl)
shift_spelling shift.Right = by_ends _ _ (omega arith) refl (λ xs. refl) (λ xs. refl) (λ xs. refl) (λ xs. refl) (λ xs. refl) (λ xs. refl)
shift_spelling shift.ArithLeft = by_ends _ _ (omega arith) refl (λ xs. refl) (λ xs. refl) (λ xs. refl) (λ xs. refl) (λ xs. refl) (λ xs. refl)
shift_spelling shift.ArithRight = by_ends _ _ (omega arith) refl (λ xs. refl) (λ xs. refl) (λ xs. refl) (λ xs. refl) (λ xs. refl) (λ xs. refl)

-- an opening mark is a piece alone, whatever follows
pub opens_alone : (b : ℕ) (xs : List ℕ) → (piece_of (40 ∷ b ∷ xs) ≡ None) × (piece_of (91 ∷ b ∷ xs) ≡ None)
unfolding marks
opens_alone b xs = (refl, refl)
