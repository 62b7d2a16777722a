-- What the reader does with a text that has a stop is told by the stop, so that there is one.
use Rattle.std.proofs.Common.{◌≡◌, ℕ, true, false, List, [], ◌∷◌, ◌++◌, map, length, Result, Ok, Err, refl, sym, ap, ◌∙◌, inl, inr}
use Rattle.std.proofs.lemmas.Bool.{cond-false, cases_Bool}
use Rattle.verilog_tree.specs.Tree.{Design}
use Rattle.verilog_tree.specs.Renaming.{number_in}
use Rattle.verilog_text.specs.declared.token.Token.{Token}
use Rattle.verilog_text.specs.declared.token.Why.{Why}
use Rattle.verilog_text.specs.declared.token.Why.TheVariants as why
use Rattle.verilog_text.specs.Grammar.{limits}
use Rattle.verilog_text.specs.Text.{clock_text, tokens_of}
use Rattle.verilog_text.specs.Lexer.{Placed}
use Rattle.verilog_text.specs.Names.{Inside, names_behind, lexeme_in}
use Rattle.verilog_text.specs.Reading.{Reads}
use Rattle.verilog_text.specs.TextMachine.{Phase, Start, Naming, Opening, FirstPort, Heading, Listed, NextPort, PortsClosed, AtItem, Targeting, Assigning, Valued, AtEvent, InEvent, OnEdge, AtClock, EventClosed, Running, Done, Draft, State, at, drafted, start, step, run, and_then}
use Rattle.verilog_text.proofs.TextSteps.{accepts}
use Rattle.verilog_text.proofs.TextSound.{reads_only}
use Rattle.verilog_text.proofs.Unique.{scans_unique}
use Rattle.verilog_lex.specs.Lexed.{Standing, standing_in}
use Rattle.verilog_read.specs.Reader.{Refusal, is_done, lexeme_step, go_on, read_from}
use Rattle.verilog_read.specs.Answer.{IsRefused, StopsAt}
use Rattle.verilog_read.proofs.Reading.{read_back}
use Rattle.refusal_laws.specs.Laws.{IsSameStop}

-- ---- what the machine takes, the reader passes

front_step : (clock end : ℕ) (before : List Token) (place : ℕ) (xs : List Standing) (rest : List Standing) (state : State) (r : Result State Why) → and_then r (λ next. run limits clock next before) ≡ Ok state → ((next : State) → run limits clock next before ≡ Ok state → read_from clock end next xs ≡ read_from clock end state rest) → go_on r place (λ next. read_from clock end next xs) ≡ read_from clock end state rest
front_step clock end before place xs rest state (Ok next) f more = more next f
front_step clock end before place xs rest state (Err reason) f more = absurd (let g : ◌≡◌ {A = Result State Why} (Err reason) (Ok state) = f in cc)

read_front : (clock end : ℕ) (front rest : List Standing) (before : List Token) (s state : State) → map (λ x. x.lexeme) front ≡ map Inside before → run limits clock s before ≡ Ok state → read_from clock end s (front ++ rest) ≡ read_from clock end state rest
read_front clock end [] rest [] s state e f = let g : s ≡ state = cc in ap (λ x. read_from clock end x rest) g
read_front clock end (x ∷ front) rest [] s state e f = absurd (cc)
read_front clock end [] rest (t ∷ before) s state e f = absurd (cc)
read_front clock end (x ∷ front) rest (t ∷ before) s state e f =
    let head : x.lexeme ≡ Inside t = cc in
    let tail : map (λ y. y.lexeme) front ≡ map Inside before = cc in
    ap (λ l. go_on (lexeme_step clock s l) x.place (λ next. read_from clock end next (front ++ rest))) head
    ∙ front_step clock end before x.place (front ++ rest) rest state (step limits clock s t) f (λ next g. read_front clock end front rest before next state tail g)

-- ---- where it stops, the reader answers so

done_phase : (p : Phase) → is_done p ≡ true → p ≡ Done
done_phase Start e = absurd (let f : false ≡ true = e in cc)
done_phase Naming e = absurd (let f : false ≡ true = e in cc)
done_phase Opening e = absurd (let f : false ≡ true = e in cc)
done_phase FirstPort e = absurd (let f : false ≡ true = e in cc)
done_phase (Heading k spot) e = absurd (let f : false ≡ true = e in cc)
done_phase (Listed k shape) e = absurd (let f : false ≡ true = e in cc)
done_phase (NextPort k shape) e = absurd (let f : false ≡ true = e in cc)
done_phase PortsClosed e = absurd (let f : false ≡ true = e in cc)
done_phase AtItem e = absurd (let f : false ≡ true = e in cc)
done_phase Targeting e = absurd (let f : false ≡ true = e in cc)
done_phase (Assigning target) e = absurd (let f : false ≡ true = e in cc)
done_phase (Valued target s) e = absurd (let f : false ≡ true = e in cc)
done_phase AtEvent e = absurd (let f : false ≡ true = e in cc)
done_phase InEvent e = absurd (let f : false ≡ true = e in cc)
done_phase OnEdge e = absurd (let f : false ≡ true = e in cc)
done_phase AtClock e = absurd (let f : false ≡ true = e in cc)
done_phase EventClosed e = absurd (let f : false ≡ true = e in cc)
done_phase (Running s) e = absurd (let f : false ≡ true = e in cc)
done_phase Done e = refl

abbrev refused_at : ℕ → Why → Result Draft Refusal
refused_at place reason = Err (record { place = place; reason = reason })

read_refused : (clock end : ℕ) (before : List Token) (s : State) (rest : List Standing) (place : ℕ) (reason : Why) → run limits clock start before ≡ Ok s → IsRefused clock end before s rest place reason → read_from clock end s rest ≡ refused_at place reason
read_refused clock end before s [] place reason takes x = elim (cases_Bool (is_done s.phase)) [
  | inl f ↦ absurd (
      let phase : s.phase ≡ Done = done_phase s.phase f in
      let same : s ≡ at s.draft Done = ap (at s.draft) phase in
      let t = reads_only limits clock before s.draft (takes ∙ ap Ok same) in
      x.2 t.text t.in_limits t.text_is)
  | inr f ↦ cond-false _ _ _ f ∙ ap (λ p. refused_at p why.Syntax) (sym x.0) ∙ ap (refused_at place) (sym x.1)
]
read_refused clock end before s (y ∷ rest) place reason takes x =
    ap (λ r. go_on r y.place (λ next. read_from clock end next rest)) x.1
    ∙ ap (λ p. refused_at p reason) (sym x.0)

-- ---- texts

-- what the reader answers to a text of these pieces
abbrev read_of : List ℕ → List Placed → Result Draft Refusal
read_of bytes pieces = read_from (number_in (names_behind [] pieces) clock_text) (length bytes) start (map (standing_in (names_behind [] pieces)) pieces)

stop_read : (bytes : List ℕ) (place : ℕ) (reason : Why) (x : StopsAt bytes place reason) → read_of bytes x.pieces ≡ refused_at place reason
stop_read bytes place reason x =
    let clock : ℕ = number_in (names_behind [] x.pieces) clock_text in
    ap (read_from clock (length bytes) start) x.parts
    ∙ read_front clock (length bytes) x.front x.rest x.before start x.state x.are_tokens x.takes
    ∙ read_refused clock (length bytes) x.before x.state x.rest place reason x.takes x.refused

pub one_stop : (bytes : List ℕ) (place other : ℕ) (reason reason' : Why) → StopsAt bytes place reason → StopsAt bytes other reason' → IsSameStop place reason other reason'
one_stop bytes place other reason reason' x y =
    let pieces : x.pieces ≡ y.pieces = scans_unique 0 bytes x.pieces y.pieces x.scans y.scans in
    let both : refused_at place reason ≡ refused_at other reason' = sym (stop_read bytes place reason x) ∙ ap (read_of bytes) pieces ∙ stop_read bytes other reason' y in
    let a : Refusal = record { place = place; reason = reason } in
    let b : Refusal = record { place = other; reason = reason' } in
    let same : a ≡ b = cc in
    record { places = ap (λ r. r.place) same; reasons = ap (λ r. r.reason) same }

map_lexemes : (names : List (List ℕ)) (pieces : List Placed) → map (λ x. x.lexeme) (map (standing_in names) pieces) ≡ map (λ x. lexeme_in names x.piece) pieces
map_lexemes names [] = refl
map_lexemes names (x ∷ pieces) = ap (λ ys. lexeme_in names x.piece ∷ ys) (map_lexemes names pieces)

reads_read : (bytes : List ℕ) (d : Design) (x : Reads bytes d) → read_of bytes x.pieces ≡ Ok (drafted x.text)
reads_read bytes d x =
    let names : List (List ℕ) = names_behind [] x.pieces in
    let clock : ℕ = number_in names clock_text in
    read_back clock (length bytes) (tokens_of clock x.text) (map (standing_in names) x.pieces) start (drafted x.text) (map_lexemes names x.pieces ∙ x.tokens_are) (accepts limits clock x.text x.in_limits)

pub no_stop : (bytes : List ℕ) (d : Design) (place : ℕ) (reason : Why) → Reads bytes d → StopsAt bytes place reason → ⊥
no_stop bytes d place reason x y =
    let pieces : x.pieces ≡ y.pieces = scans_unique 0 bytes x.pieces y.pieces x.scans y.scans in
    let both : ◌≡◌ {A = Result Draft Refusal} (Ok (drafted x.text)) (Err (record { place = place; reason = reason })) = sym (reads_read bytes d x) ∙ ap (read_of bytes) pieces ∙ stop_read bytes place reason y in
    (cc)
