-- The tokens of a text: its names are different names of the grammar, and each token's name is among them.
use Rattle.std.proofs.Common.{◌≡◌, ℕ, ◌+◌, ◌<◌, ◌≤◌, ◌^◌, false, List, [], ◌∷◌, length, map, refl, sym, ap, ◌∙◌, subst, arith, inl, inr}
use Rattle.std.specs.Str.{bytes_eq}
use Rattle.std.proofs.lemmas.Bool.{cond-true, cond-false, cond_both, cases_Bool}
use Rattle.std.proofs.lemmas.Slice.Eq.{bytes_eq-Decides}
use Rattle.verilog_tree.specs.Renaming.{number_in, AreDistinct}
use Rattle.verilog_text.specs.declared.token.Token.{Token}
use Rattle.verilog_text.specs.declared.token.Token.TheVariants as token
use Rattle.verilog_text.specs.Lexer.{Piece, Gap, NameText, Fixed, OutsidePiece, UnreadablePiece, Placed}
use Rattle.verilog_text.specs.Names.{with_name, with_piece, names_behind, Lexeme, Inside, Outside, Unreadable, lexeme_in}
use Rattle.verilog_text.specs.Layout.{IsName}
use Rattle.verilog_text.specs.Shortest.{AllFormed}
use Rattle.verilog_text.proofs.Numbering.{number_in-kept}
use Rattle.reading_laws.proofs.Pieces.{IsGoodPiece, AreGoodPieces}

-- ---- the names

-- a further name takes no number
not_with_name : (names : List (List ℕ)) (name text : List ℕ) → number_in names name ≡ length names → bytes_eq name text ≡ false → number_in (with_name names text) name ≡ length (with_name names text)
not_with_name [] name text is other =
    cond-false (bytes_eq text name) 0 (0 + 1) (elim (cases_Bool (bytes_eq text name)) [
      | inl e ↦ absurd (let f = (bytes_eq-Decides name text).1 (sym ((bytes_eq-Decides text name).0 e)) in cc)
      | inr e ↦ e
    ])
not_with_name (x ∷ names) name text is other =
    elim (cases_Bool (bytes_eq x name)) [
      | inl e ↦ absurd (let h : number_in (x ∷ names) name ≡ 0 = cond-true _ _ _ e in omega (arith, h, is))
      | inr e ↦
          let tail : number_in names name ≡ length names = (let h : number_in (x ∷ names) name ≡ number_in names name + 1 = cond-false _ _ _ e in omega (arith, h, is)) in
          cond_both (bytes_eq x text) (x ∷ names) (x ∷ with_name names text) (λ ns. number_in ns name ≡ length ns) (λ f. is)
          (λ f. cond-false _ _ _ e ∙ ap (λ k. k + 1) (not_with_name names name text tail other) ∙ (omega arith))
    ]

distinct_with_name : (names : List (List ℕ)) (text : List ℕ) → AreDistinct names → AreDistinct (with_name names text)
distinct_with_name [] text distinct = (refl, tt)
distinct_with_name (x ∷ names) text distinct =
    cond_both (bytes_eq x text) (x ∷ names) (x ∷ with_name names text) AreDistinct (λ e. distinct)
    (λ e. (not_with_name names x text distinct.0 e, distinct_with_name names text distinct.1))

named_with_name : (names : List (List ℕ)) (text : List ℕ) → AllFormed IsName names → IsName text → AllFormed IsName (with_name names text)
named_with_name [] text all is = (is, tt)
named_with_name (x ∷ names) text all is = cond_both (bytes_eq x text) (x ∷ names) (x ∷ with_name names text) (AllFormed IsName) (λ e. all) (λ e. (all.0, named_with_name names text all.1 is))

-- different names of the grammar
pub record AreNames (names : List (List ℕ)) : Type 0 where
  pub distinct : AreDistinct names
  pub named : AllFormed IsName names

with_good : (p : Piece) (names : List (List ℕ)) → IsGoodPiece p → AreNames names → AreNames (with_piece names p)
with_good Gap names good are = are
with_good (NameText text) names good are = record { distinct = distinct_with_name names text are.distinct; named = named_with_name names text are.named good }
with_good (Fixed t) names good are = are
with_good OutsidePiece names good are = are
with_good UnreadablePiece names good are = are

pub names_found : (pieces : List Placed) (names : List (List ℕ)) → AreGoodPieces pieces → AreNames names → AreNames (names_behind names pieces)
names_found [] names good are = are
names_found (x ∷ rest) names good are = names_found rest (with_piece names x.piece) good.1 (with_good x.piece names good.0 are)

-- ---- the tokens

-- a token whose name is among so many, and whose numbers are small
abbrev pub IsKnown : ℕ → Token → Type 0
IsKnown count (token.Name n) = n < count
IsKnown count (token.Number d) = d.value < 2 ^ 31
IsKnown count (token.Based l) = (1 ≤ l.width) × (l.width ≤ 128) × (l.bits < 2 ^ l.width)
IsKnown count (token.Keyword w) = Unit {0}
IsKnown count (token.Operator o) = Unit {0}
IsKnown count (token.Shift s) = Unit {0}
IsKnown count (token.Punctuation m) = Unit {0}

abbrev pub AreKnown : ℕ → List Token → Type 0
AreKnown count [] = Unit {0}
AreKnown count (t ∷ rest) = IsKnown count t × AreKnown count rest

abbrev IsKnownLexeme : ℕ → Lexeme → Type 0
IsKnownLexeme count (Inside t) = IsKnown count t
IsKnownLexeme count Outside = Unit {0}
IsKnownLexeme count Unreadable = Unit {0}

abbrev AreKnownLexemes : ℕ → List Lexeme → Type 0
AreKnownLexemes count [] = Unit {0}
AreKnownLexemes count (x ∷ rest) = IsKnownLexeme count x × AreKnownLexemes count rest

known_piece : (all : List (List ℕ)) (p : Piece) → IsGoodPiece p → ((text : List ℕ) → p ≡ NameText text → number_in all text < length all) → IsKnownLexeme (length all) (lexeme_in all p)
known_piece all Gap good low = tt
known_piece all (NameText text) good low = low text refl
known_piece all (Fixed (token.Name n)) good low = absurd good
known_piece all (Fixed (token.Number d)) good low = good
known_piece all (Fixed (token.Based l)) good low = good
known_piece all (Fixed (token.Keyword w)) good low = tt
known_piece all (Fixed (token.Operator o)) good low = tt
known_piece all (Fixed (token.Shift s)) good low = tt
known_piece all (Fixed (token.Punctuation m)) good low = tt
known_piece all OutsidePiece good low = tt
known_piece all UnreadablePiece good low = tt

-- a name is among the names with it
low_with_name : (names : List (List ℕ)) (text : List ℕ) → number_in (with_name names text) text < length (with_name names text)
low_with_name [] text = let e : number_in (text ∷ []) text ≡ 0 = cond-true _ _ _ ((bytes_eq-Decides text text).1 refl) in omega (arith, e)
low_with_name (x ∷ names) text =
    cond_both (bytes_eq x text) (x ∷ names) (x ∷ with_name names text) (λ ns. number_in ns text < length ns)
    (λ e. let n : number_in (x ∷ names) text ≡ 0 = cond-true _ _ _ e in omega (arith, n))
    (λ e. let n : number_in (x ∷ with_name names text) text ≡ number_in (with_name names text) text + 1 = cond-false _ _ _ e in omega (arith, n, low_with_name names text))

-- a name is among the names behind it
name_behind : (before : List (List ℕ)) (p : Piece) (rest : List Placed) (text : List ℕ) → p ≡ NameText text → number_in (names_behind (with_piece before p) rest) text < length (names_behind (with_piece before p) rest)
name_behind before p rest text is =
    let low : number_in (with_piece before p) text < length (with_piece before p) = subst (λ (q : Piece). number_in (with_piece before q) text < length (with_piece before q)) (sym is) (low_with_name before text) in
    let kept = number_in-kept rest (with_piece before p) text low in
    omega (arith, low, kept.0, kept.1)

known_lexemes : (all before : List (List ℕ)) (pieces : List Placed) → names_behind before pieces ≡ all → AreGoodPieces pieces → AreKnownLexemes (length all) (map (λ (x : Placed). lexeme_in all x.piece) pieces)
known_lexemes all before [] is good = tt
known_lexemes all before (x ∷ rest) is good = (
  known_piece all x.piece good.0 (λ text e. subst (λ (ns : List (List ℕ)). number_in ns text < length ns) is (name_behind before x.piece rest text e)),
  known_lexemes all (with_piece before x.piece) rest is good.1,
)

inside_known : (count : ℕ) (ts : List Token) → AreKnownLexemes count (map Inside ts) → AreKnown count ts
inside_known count [] known = tt
inside_known count (t ∷ ts) known = (known.0, inside_known count ts known.1)

-- the tokens that are the lexemes of a text
pub known_tokens : (pieces : List Placed) (ts : List Token) → AreGoodPieces pieces → map (λ (x : Placed). lexeme_in (names_behind [] pieces) x.piece) pieces ≡ map Inside ts → AreKnown (length (names_behind [] pieces)) ts
known_tokens pieces ts good are =
    inside_known (length (names_behind [] pieces)) ts (subst (AreKnownLexemes (length (names_behind [] pieces))) are (known_lexemes (names_behind [] pieces) [] pieces refl good))
