-- The machine's reading of what stands in a text, and the texts of the grammar.
use Rattle.std.proofs.Common.{◌≡◌, ℕ, ◌^◌, Bool, true, false, List, [], ◌∷◌, ◌++◌, map, Result, Ok, Err, refl, sym, ap, ◌∙◌, subst, inl, inr}
use Rattle.std.proofs.lemmas.Bool.{cond-true, cond-false, cases_Bool, ltb-true}
use Rattle.verilog_tree.specs.Tree.{Design}
use Rattle.verilog_tree.specs.Renaming.{number_in}
use Rattle.verilog_text.specs.declared.token.Token.{Token}
use Rattle.verilog_text.specs.declared.token.Token.TheVariants as token
use Rattle.verilog_text.specs.declared.token.Why.{Why}
use Rattle.verilog_text.specs.declared.token.Why.TheVariants as why
use Rattle.verilog_text.specs.Grammar.{limits}
use Rattle.verilog_text.specs.Text.{tokens_of, clock_text}
use Rattle.verilog_text.specs.Lexer.{Piece, Gap, NameText, Fixed, OutsidePiece, UnreadablePiece, Placed}
use Rattle.verilog_text.specs.Names.{Lexeme, Inside, Outside, Unreadable, names_behind, lexeme_in}
use Rattle.verilog_text.specs.TextMachine.{Phase, Start, Naming, Opening, FirstPort, Heading, Listed, NextPort, PortsClosed, AtItem, Targeting, Assigning, Valued, AtEvent, InEvent, OnEdge, AtClock, EventClosed, Running, Done, Draft, State, at, drafted, start, step, run, and_then}
use Rattle.verilog_text.specs.Reading.{place_of, declares_after, declared_places, Reads}
use Rattle.verilog_text.proofs.TextSteps.{accepts}
use Rattle.verilog_text.proofs.TextSound.{reads_only}
use Rattle.verilog_text.proofs.Unique.{scans_unique}
use Rattle.verilog_lex.specs.declared.lexeme.PlacedLexeme.{PlacedLexeme}
use Rattle.verilog_lex.specs.Lexed.{Standing, standing_view, standing_in, IsLexed}
use Rattle.verilog_lex.proofs.Plain.{is_solid, AllSolid, scans_solid}
use Rattle.verilog_read.specs.Reader.{Refusal, is_done, lexeme_step, ended, go_on, read_from, IsSmallLexeme, AreSmall}
use Rattle.verilog_read.specs.Places.{is_name, place_in, declares_past, declared_in, design_from}

-- ---- the machine

done_is : (p : Phase) → is_done p ≡ true → p ≡ Done
done_is Start e = absurd (let f : false ≡ true = e in cc)
done_is Naming e = absurd (let f : false ≡ true = e in cc)
done_is Opening e = absurd (let f : false ≡ true = e in cc)
done_is FirstPort e = absurd (let f : false ≡ true = e in cc)
done_is (Heading k spot) e = absurd (let f : false ≡ true = e in cc)
done_is (Listed k shape) e = absurd (let f : false ≡ true = e in cc)
done_is (NextPort k shape) e = absurd (let f : false ≡ true = e in cc)
done_is PortsClosed e = absurd (let f : false ≡ true = e in cc)
done_is AtItem e = absurd (let f : false ≡ true = e in cc)
done_is Targeting e = absurd (let f : false ≡ true = e in cc)
done_is (Assigning target) e = absurd (let f : false ≡ true = e in cc)
done_is (Valued target s) e = absurd (let f : false ≡ true = e in cc)
done_is AtEvent e = absurd (let f : false ≡ true = e in cc)
done_is InEvent e = absurd (let f : false ≡ true = e in cc)
done_is OnEdge e = absurd (let f : false ≡ true = e in cc)
done_is AtClock e = absurd (let f : false ≡ true = e in cc)
done_is EventClosed e = absurd (let f : false ≡ true = e in cc)
done_is (Running s) e = absurd (let f : false ≡ true = e in cc)
done_is Done e = refl

abbrev Read : ℕ → State → List Standing → Draft → Type 0
Read clock s xs d = (tokens : List Token) × (map (λ x. x.lexeme) xs ≡ map Inside tokens) × (run limits clock s tokens ≡ Ok (at d Done))

ended_read : (clock end : ℕ) (s : State) (d : Draft) → ended s end ≡ Ok d → Read clock s [] d
ended_read clock end s d e = elim (cases_Bool (is_done s.phase)) [
  | inl f ↦
      let same : ◌≡◌ {A = Result Draft Refusal} (Ok s.draft) (Ok d) = sym (cond-true _ _ _ f) ∙ e in
      let draft : s.draft ≡ d = cc in
      ([], refl, ap (λ x. Ok (at x s.phase)) draft ∙ ap (λ p. Ok (at d p)) (done_is s.phase f))
  | inr f ↦
      let other : ◌≡◌ {A = Result Draft Refusal} (Err (record { place = end; reason = why.Syntax })) (Ok d) = sym (cond-false _ _ _ f) ∙ e in
      absurd (let h = other in cc)
]

-- one token more
read_one : (clock end : ℕ) (s : State) (t : Token) (place : ℕ) (rest : List Standing) (d : Draft) (r : Result State Why) → step limits clock s t ≡ r → go_on r place (λ next. read_from clock end next rest) ≡ Ok d → ((next : State) → read_from clock end next rest ≡ Ok d → Read clock next rest d) → Read clock s (record { place = place; lexeme = Inside t } ∷ rest) d
read_one clock end s t place rest d (Ok next) is e more =
    let r = more next e in
    (t ∷ r.0, ap (λ xs. Inside t ∷ xs) r.1, ap (λ o. and_then o (λ n. run limits clock n r.0)) is ∙ r.2)
read_one clock end s t place rest d (Err reason) is e more = absurd (let f : ◌≡◌ {A = Result Draft Refusal} (Err (record { place = place; reason = reason })) (Ok d) = e in cc)

by_lexeme : (clock end : ℕ) (xs : List Standing) (s : State) (d : Draft) → ((next : State) → read_from clock end next xs ≡ Ok d → Read clock next xs d) → (place : ℕ) (l : Lexeme) → go_on (lexeme_step clock s l) place (λ next. read_from clock end next xs) ≡ Ok d → Read clock s (record { place = place; lexeme = l } ∷ xs) d
by_lexeme clock end xs s d more place (Inside t) f = read_one clock end s t place xs d (step limits clock s t) refl f more
by_lexeme clock end xs s d more place Outside f = absurd (let g : ◌≡◌ {A = Result Draft Refusal} (Err (record { place = place; reason = why.OutsideSubset })) (Ok d) = f in cc)
by_lexeme clock end xs s d more place Unreadable f = absurd (let g : ◌≡◌ {A = Result Draft Refusal} (Err (record { place = place; reason = why.Lexical })) (Ok d) = f in cc)

pub read_ok : (clock end : ℕ) (xs : List Standing) (s : State) (d : Draft) → read_from clock end s xs ≡ Ok d → Read clock s xs d
read_ok clock end [] s d e = ended_read clock end s d e
read_ok clock end (x ∷ xs) s d e = by_lexeme clock end xs s d (λ next f. read_ok clock end xs next d f) x.place x.lexeme e

-- what the machine takes is read
taken : (clock end : ℕ) (t : Token) (ts : List Token) (place : ℕ) (xs : List Standing) (s : State) (d : Draft) (r : Result State Why) → step limits clock s t ≡ r → and_then r (λ next. run limits clock next ts) ≡ Ok (at d Done) → ((next : State) → run limits clock next ts ≡ Ok (at d Done) → read_from clock end next xs ≡ Ok d) → go_on r place (λ next. read_from clock end next xs) ≡ Ok d
taken clock end t ts place xs s d (Ok next) is e more = more next e
taken clock end t ts place xs s d (Err reason) is e more = absurd (let f : ◌≡◌ {A = Result State Why} (Err reason) (Ok (at d Done)) = e in cc)

pub read_back : (clock end : ℕ) (ts : List Token) (xs : List Standing) (s : State) (d : Draft) → map (λ x. x.lexeme) xs ≡ map Inside ts → run limits clock s ts ≡ Ok (at d Done) → read_from clock end s xs ≡ Ok d
read_back clock end [] [] s d e f = let g : s ≡ at d Done = cc in ap (λ x. ended x end) g
read_back clock end (t ∷ ts) [] s d e f = absurd (cc)
read_back clock end [] (x ∷ xs) s d e f = absurd (cc)
read_back clock end (t ∷ ts) (x ∷ xs) s d e f =
    let head : x.lexeme ≡ Inside t = cc in
    let tail : map (λ y. y.lexeme) xs ≡ map Inside ts = cc in
    ap (λ l. go_on (lexeme_step clock s l) x.place (λ next. read_from clock end next xs)) head
    ∙ taken clock end t ts x.place xs s d (step limits clock s t) refl f (λ next g. read_back clock end ts xs next d tail g)

-- ---- texts

map_lexemes : (names : List (List ℕ)) (pieces : List Placed) → map (λ x. x.lexeme) (map (standing_in names) pieces) ≡ map (λ x. lexeme_in names x.piece) pieces
map_lexemes names [] = refl
map_lexemes names (x ∷ pieces) = ap (λ ys. lexeme_in names x.piece ∷ ys) (map_lexemes names pieces)

-- the places of declared names
places_step : (names : List (List ℕ)) (p : Piece) (place : ℕ) (declares : Bool) (rest : List ℕ) → is_solid p ≡ true → place_in (is_name (lexeme_in names p)) declares place ++ rest ≡ place_of declares place p rest
places_step names Gap place declares rest e = absurd (let f : false ≡ true = e in cc)
places_step names (NameText text) place true rest e = refl
places_step names (NameText text) place false rest e = refl
places_step names (Fixed (token.Name n)) place declares rest e = absurd (let f : false ≡ true = e in cc)
places_step names (Fixed (token.Number d)) place declares rest e = refl
places_step names (Fixed (token.Based l)) place declares rest e = refl
places_step names (Fixed (token.Keyword w)) place declares rest e = refl
places_step names (Fixed (token.Operator o)) place declares rest e = refl
places_step names (Fixed (token.Shift s)) place declares rest e = refl
places_step names (Fixed (token.Punctuation m)) place declares rest e = refl
places_step names OutsidePiece place declares rest e = refl
places_step names UnreadablePiece place declares rest e = refl

past_step : (names : List (List ℕ)) (p : Piece) (declares : Bool) → declares_past (lexeme_in names p) declares ≡ declares_after p declares
past_step names Gap declares = refl
past_step names (NameText text) declares = refl
past_step names (Fixed t) declares = refl
past_step names OutsidePiece declares = refl
past_step names UnreadablePiece declares = refl

places_are : (names : List (List ℕ)) (pieces : List Placed) (declares : Bool) → AllSolid pieces → declared_in declares (map (standing_in names) pieces) ≡ declared_places declares pieces
places_are names [] declares solid = refl
places_are names (x ∷ pieces) declares solid =
    ap (λ d. place_in (is_name (lexeme_in names x.piece)) declares x.place ++ declared_in d (map (standing_in names) pieces)) (past_step names x.piece declares)
    ∙ ap (λ ps. place_in (is_name (lexeme_in names x.piece)) declares x.place ++ ps) (places_are names pieces (declares_after x.piece declares) solid.1)
    ∙ places_step names x.piece x.place declares (declared_places (declares_after x.piece declares) pieces) solid.0

small_lexeme : (names : List (List ℕ)) (p : Piece) → is_solid p ≡ true → IsSmallLexeme (lexeme_in names p)
small_lexeme names Gap e = tt
small_lexeme names (NameText text) e = tt
small_lexeme names (Fixed (token.Name n)) e = tt
small_lexeme names (Fixed (token.Number d)) e = ltb-true d.value (2 ^ 31) e
small_lexeme names (Fixed (token.Based l)) e = tt
small_lexeme names (Fixed (token.Keyword w)) e = tt
small_lexeme names (Fixed (token.Operator o)) e = tt
small_lexeme names (Fixed (token.Shift s)) e = tt
small_lexeme names (Fixed (token.Punctuation m)) e = tt
small_lexeme names OutsidePiece e = tt
small_lexeme names UnreadablePiece e = tt

are_small : (names : List (List ℕ)) (pieces : List Placed) → AllSolid pieces → AreSmall (map (standing_in names) pieces)
are_small names [] solid = tt
are_small names (x ∷ pieces) solid = (small_lexeme names x.piece solid.0, are_small names pieces solid.1)

pub lexed_small : (bytes : List ℕ) (names : List (List ℕ)) (items : List PlacedLexeme) → IsLexed bytes names items → AreSmall (map standing_view items)
lexed_small bytes names items x = subst AreSmall (sym x.items_are) (are_small names x.pieces (scans_solid 0 bytes x.pieces x.scans))

-- the text that was read
pub read_found : (bytes : List ℕ) (names : List (List ℕ)) (items : List PlacedLexeme) (end : ℕ) (d : Draft) → IsLexed bytes names items → read_from (number_in names clock_text) end start (map standing_view items) ≡ Ok d → Reads bytes (design_from names (declared_in false (map standing_view items)) d)
read_found bytes names items end d x e =
    let pieces : List Placed = x.pieces in
    let clock : ℕ = number_in names clock_text in
    let r = read_ok clock end (map standing_view items) start d e in
    let t = reads_only limits clock r.0 d r.2 in
    let same : names ≡ names_behind [] pieces = x.names_are in
    let lexemes : map (λ y. lexeme_in names y.piece) pieces ≡ map Inside (tokens_of clock t.text) = sym (map_lexemes names pieces) ∙ ap (map (λ y. y.lexeme)) (sym x.items_are) ∙ r.1 ∙ ap (map Inside) (sym t.text_is) in
    let places : declared_in false (map standing_view items) ≡ declared_places false pieces = ap (declared_in false) x.items_are ∙ places_are names pieces false (scans_solid 0 bytes pieces x.scans) in
    record {
      pieces = pieces;
      scans = x.scans;
      text = t.text;
      in_limits = t.in_limits;
      tokens_are = subst (λ (ns : List (List ℕ)). map (λ y. lexeme_in ns y.piece) pieces ≡ map Inside (tokens_of (number_in ns clock_text) t.text)) same lexemes;
      design_is = ap (λ ps. design_from names ps d) places ∙ ap (λ ns. design_from ns (declared_places false pieces) d) same ∙ ap (design_from (names_behind [] pieces) (declared_places false pieces)) (sym t.draft_is);
    }

-- a text that reads is read
pub read_only : (bytes : List ℕ) (names : List (List ℕ)) (items : List PlacedLexeme) (end : ℕ) (m : Design) → IsLexed bytes names items → Reads bytes m → (d : Draft) × (read_from (number_in names clock_text) end start (map standing_view items) ≡ Ok d)
read_only bytes names items end m x y =
    let pieces : List Placed = x.pieces in
    let one : y.pieces ≡ pieces = scans_unique 0 bytes y.pieces pieces y.scans x.scans in
    let same : names_behind [] y.pieces ≡ names = ap (names_behind []) one ∙ sym x.names_are in
    let tokens : map (λ z. lexeme_in names z.piece) pieces ≡ map Inside (tokens_of (number_in names clock_text) y.text) =
    subst (λ (ns : List (List ℕ)). map (λ z. lexeme_in ns z.piece) pieces ≡ map Inside (tokens_of (number_in ns clock_text) y.text)) same
    (subst (λ (ps : List Placed). map (λ z. lexeme_in (names_behind [] y.pieces) z.piece) ps ≡ map Inside (tokens_of (number_in (names_behind [] y.pieces) clock_text) y.text)) one y.tokens_are) in
    (drafted y.text, read_back (number_in names clock_text) end (tokens_of (number_in names clock_text) y.text) (map standing_view items) start (drafted y.text) (ap (map (λ z. z.lexeme)) x.items_are ∙ map_lexemes names pieces ∙ tokens) (accepts limits (number_in names clock_text) y.text y.in_limits))
