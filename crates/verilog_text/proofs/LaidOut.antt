-- Tokens that are laid out are read back, each at its place.
use Rattle.std.proofs.Common.{◌≡◌, ℕ, zero, suc, ◌+◌, ◌-◌, ◌<◌, ◌≤◌, Bool, true, false, List, [], ◌∷◌, ◌++◌, length, take, Some, None, refl, sym, ap, ◌∙◌, subst, arith, inl, inr, length-append}
use Rattle.std.specs.Prelude.{◌||◌, codes}
use Rattle.std.proofs.lemmas.Bool.{cases_Bool, cond-true, cond-false}
use Rattle.std.proofs.Math.Seq.{take-append_seam, take-append-add, drop-append_seam}
use Rattle.verilog_text.specs.declared.token.Mark.TheVariants as mark
use Rattle.verilog_text.specs.declared.token.Token.{Token}
use Rattle.verilog_text.specs.declared.token.Token.TheVariants as token
use Rattle.verilog_text.specs.Lexer.{Piece, Gap, piece_of, IsLongest, Placed, Scans, ended, gap, piece}
use Rattle.verilog_text.specs.Layout.{token_text, piece_for, IsSpelled, AreSpelled, is_opening, is_closing, is_last, ends_line, between, behind, laid_out, placed, heading}
use Rattle.verilog_text.proofs.Spelled.{BySpace, ByLine, ByClose, ByBracket, ByComma, BySemicolon, IsSpelling, name_spelling, keyword_spelling, mark_spelling, op_spelling, shift_spelling, opens_alone}
use Rattle.verilog_text.proofs.Numerals.{decimal_spelling, based_spelling}

pub spelling_of : (names : List (List ℕ)) (t : Token) → IsSpelled names t → IsSpelling (token_text names t) (piece_for names t)
spelling_of names (token.Name n) h = name_spelling _ h
spelling_of names (token.Number d) h = decimal_spelling d h.0 h.1
spelling_of names (token.Based l) h = based_spelling l h.0 h.1 h.2
spelling_of names (token.Keyword w) h = keyword_spelling w
spelling_of names (token.Operator o) h = op_spelling o
spelling_of names (token.Shift s) h = shift_spelling s
spelling_of names (token.Punctuation m) h = mark_spelling m

no_gap : (names : List (List ℕ)) (t : Token) → piece_for names t ≡ Gap → ⊥
no_gap names (token.Name n) e = cc
no_gap names (token.Number d) e = cc
no_gap names (token.Based l) e = cc
no_gap names (token.Keyword w) e = cc
no_gap names (token.Operator o) e = cc
no_gap names (token.Shift s) e = cc
no_gap names (token.Punctuation m) e = cc

-- what begins so ends the text before it
pub data Ends (text : List ℕ) : List ℕ → Type 0 where
  nothing : Ends text []
  byte : {b : ℕ} {rest : List ℕ} → ((xs : List ℕ) → piece_of (text ++ (b ∷ xs)) ≡ None) → Ends text (b ∷ rest)

longer : (text rest : List ℕ) → Ends text rest → (m : ℕ) → length text < m → m ≤ length (text ++ rest) → piece_of (take m (text ++ rest)) ≡ None
longer text [] nothing m more within = absurd (omega (arith, length-append {A = ℕ} text []))
longer text (b ∷ rest) (byte none) m more within =
    let k : ℕ = m - suc (length text) in
    let e : m ≡ length text + suc k = omega arith in
    ap (λ n. piece_of (take n (text ++ (b ∷ rest)))) e ∙ ap piece_of (take-append-add text (b ∷ rest) (suc k)) ∙ none (take k rest)

longest : (text rest : List ℕ) (p : Piece) → 0 < length text → piece_of text ≡ Some p → Ends text rest → IsLongest (text ++ rest) (length text) p
longest text rest p some alone ends = record {
  some = some;
  within = omega (arith, length-append text rest);
  is = ap piece_of (take-append_seam text rest) ∙ alone;
  longest = λ m more within. longer text rest ends m more within;
}

-- a blank is a gap, whatever follows
blank_longest : (b : ℕ) (rest : List ℕ) → (piece_of (b ∷ []) ≡ Some Gap) → ((x : ℕ) (xs : List ℕ) → piece_of (b ∷ x ∷ xs) ≡ None) → IsLongest (b ∷ rest) 1 Gap
blank_longest b rest alone none = record { some = omega arith; within = omega arith; is = alone; longest = λ m more within. beyond m rest more within }
  where
    beyond : (m : ℕ) (rest : List ℕ) → 1 < m → m ≤ length (b ∷ rest) → piece_of (take m (b ∷ rest)) ≡ None
    beyond zero rest more within = absurd (omega arith)
    beyond (suc zero) rest more within = absurd (omega arith)
    beyond (suc (suc m)) [] more within = absurd (omega arith)
    beyond (suc (suc m)) (x ∷ rest) more within = none x (take m rest)

space_gap : (place : ℕ) (rest : List ℕ) (ps : List Placed) → Scans (place + 1) rest ps → Scans place (32 ∷ rest) ps
space_gap place rest ps s = gap 1 (blank_longest 32 rest refl (λ x xs. refl)) s

line_gap : (place : ℕ) (rest : List ℕ) (ps : List Placed) → Scans (place + 1) rest ps → Scans place (10 ∷ rest) ps
line_gap place rest ps s = gap 1 (blank_longest 10 rest refl (λ x xs. refl)) s

at : (rest : List ℕ) (ps : List Placed) (p q : ℕ) → p ≡ q → Scans p rest ps → Scans q rest ps
at rest ps p q e s = subst (λ n. Scans n rest ps) e s

-- what stands between two tokens: it is a gap, and it ends the token before it
record Parts (text gap rest : List ℕ) : Type 0 where
  ends : Ends text (gap ++ rest)
  skips : (place : ℕ) (ps : List Placed) → Scans (place + length gap) rest ps → Scans place (gap ++ rest) ps

by_line : (text rest : List ℕ) (p : Piece) → IsSpelling text p → Parts text (10 ∷ []) rest
by_line text rest p s = record { ends = byte (s.ended ByLine); skips = λ place ps h. line_gap place rest ps h }

by_indent : (text rest : List ℕ) (p : Piece) → IsSpelling text p → Parts text (10 ∷ 32 ∷ 32 ∷ []) rest
by_indent text rest p s = record {
  ends = byte (s.ended ByLine);
  skips = λ place ps h. line_gap place (32 ∷ 32 ∷ rest) ps (space_gap (place + 1) (32 ∷ rest) ps (space_gap (place + 1 + 1) rest ps (at rest ps (place + 3) (place + 1 + 1 + 1) (omega arith) h)));
}

by_space : (text rest : List ℕ) (p : Piece) → IsSpelling text p → Parts text (32 ∷ []) rest
by_space text rest p s = record { ends = byte (s.ended BySpace); skips = λ place ps h. space_gap place rest ps h }

by_nothing : (text rest : List ℕ) → Ends text rest → Parts text [] rest
by_nothing text rest e = record { ends = e; skips = λ place ps h. at rest ps (place + 0) place (omega arith) h }

-- a closing mark ends each token
closes : (names : List (List ℕ)) (t u : Token) (rest : List ℕ) → is_closing u ≡ true → IsSpelled names t → Ends (token_text names t) (token_text names u ++ rest)
closes names t (token.Punctuation mark.Close) rest e h = byte ((spelling_of names t h).ended ByClose)
closes names t (token.Punctuation mark.CloseBracket) rest e h = byte ((spelling_of names t h).ended ByBracket)
closes names t (token.Punctuation mark.Comma) rest e h = byte ((spelling_of names t h).ended ByComma)
closes names t (token.Punctuation mark.Semicolon) rest e h = byte ((spelling_of names t h).ended BySemicolon)
closes names t _ rest e h = cc

opens_any : (text rest : List ℕ) → ((b : ℕ) (xs : List ℕ) → piece_of (text ++ (b ∷ xs)) ≡ None) → Ends text rest
opens_any text [] none = nothing
opens_any text (b ∷ rest) none = byte (λ xs. none b xs)

-- an opening mark ends itself
opens : (names : List (List ℕ)) (t : Token) (rest : List ℕ) → is_opening t ≡ true → Ends (token_text names t) rest
opens names (token.Punctuation mark.Open) rest e = opens_any _ rest (λ b xs. (opens_alone b xs).0)
opens names (token.Punctuation mark.OpenBracket) rest e = opens_any _ rest (λ b xs. (opens_alone b xs).1)
opens names _ rest e = cc

touching : (names : List (List ℕ)) (t u : Token) (rest : List ℕ) (o c : Bool) → is_opening t ≡ o → is_closing u ≡ c → (o || c) ≡ true → IsSpelled names t → Ends (token_text names t) (token_text names u ++ rest)
touching names t u rest true c eo ec e h = opens names t (token_text names u ++ rest) eo
touching names t u rest false true eo ec e h = closes names t u rest ec h
touching names t u rest false false eo ec e h = cc

parts_between : (names : List (List ℕ)) (t u : Token) (rest : List ℕ) → IsSpelled names t → Parts (token_text names t) (between t u) (token_text names u ++ rest)
parts_between names t u rest h =
    let text : List ℕ = token_text names t in
    let tail : List ℕ = token_text names u ++ rest in
    let s = spelling_of names t h in
    elim (cases_Bool (is_last u)) [
      | inl a ↦ subst (λ g. Parts text g tail) (sym (cond-true (is_last u) _ _ a)) (by_line text tail _ s)
      | inr a ↦ subst (λ g. Parts text g tail) (sym (cond-false (is_last u) _ _ a))
          (elim (cases_Bool (ends_line t u)) [
            | inl b ↦ subst (λ g. Parts text g tail) (sym (cond-true (ends_line t u) _ _ b)) (by_indent text tail _ s)
            | inr b ↦ subst (λ g. Parts text g tail) (sym (cond-false (ends_line t u) _ _ b))
                (elim (cases_Bool (is_opening t || is_closing u)) [
                  | inl c ↦ subst (λ g. Parts text g tail) (sym (cond-true (is_opening t || is_closing u) _ _ c)) (by_nothing text tail (touching names t u rest (is_opening t) (is_closing u) refl refl c h))
                  | inr c ↦ subst (λ g. Parts text g tail) (sym (cond-false (is_opening t || is_closing u) _ _ c)) (by_space text tail _ s)
                ])
          ])
    ]

parts_behind : (names : List (List ℕ)) (t : Token) (rest : List Token) → IsSpelled names t → Parts (token_text names t) (behind t rest) (laid_out names rest)
parts_behind names t [] h = by_line (token_text names t) [] _ (spelling_of names t h)
parts_behind names t (u ∷ rest) h = parts_between names t u (behind u rest ++ laid_out names rest) h

-- the pieces of tokens that are laid out are these tokens, each at its place
pub reads_back : (names : List (List ℕ)) (place : ℕ) (tokens : List Token) → AreSpelled names tokens → Scans place (laid_out names tokens) (placed names place tokens)
reads_back names place [] h = ended
reads_back names place (t ∷ rest) h =
    let text : List ℕ = token_text names t in
    let gap : List ℕ = behind t rest in
    let tail : List ℕ = laid_out names rest in
    let s = spelling_of names t h.0 in
    let parts = parts_behind names t rest h.0 in
    let next = parts.skips (place + length text) _ (reads_back names (place + length text + length gap) rest h.1) in
    piece (length text) (piece_for names t) (no_gap names t) (longest text (gap ++ tail) _ s.some s.alone parts.ends)
    (subst (λ bytes. Scans (place + length text) bytes (placed names (place + length text + length gap) rest)) (sym (drop-append_seam text (gap ++ tail))) next)

-- the heading is gaps
heading_skips : (place : ℕ) (rest : List ℕ) (ps : List Placed) → Scans (place + length heading) rest ps → Scans place (heading ++ rest) ps
heading_skips place rest ps h =
    let first : List ℕ = codes "/* verilator lint_off WIDTH */" in
    let second : List ℕ = codes "// Wadrelion" in
    let n : ℕ = length first in
    let k : ℕ = length second in
    let after_second = line_gap (place + n + 1 + k) rest ps (at rest ps (place + length heading) (place + n + 1 + k + 1) (omega arith) h) in
    let from_second = gap {place = place + n + 1} {bytes = second ++ (10 ∷ rest)} k (longest second (10 ∷ rest) Gap (omega arith) refl (byte (λ xs. refl))) after_second in
    let after_first = line_gap (place + n) (second ++ (10 ∷ rest)) ps from_second in
    gap {place = place} {bytes = first ++ (10 ∷ (second ++ (10 ∷ rest)))} n (longest first (10 ∷ (second ++ (10 ∷ rest))) Gap (omega arith) refl (byte (λ xs. refl))) after_first

-- and so are the pieces of a whole text
pub text_reads_back : (names : List (List ℕ)) (tokens : List Token) → AreSpelled names tokens → Scans 0 (heading ++ laid_out names tokens) (placed names (0 + length heading) tokens)
text_reads_back names tokens h = heading_skips 0 (laid_out names tokens) _ (reads_back names (0 + length heading) tokens h)
