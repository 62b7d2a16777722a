-- Where the reading stops, no text of the grammar goes on.
use Rattle.std.proofs.Common.{◌≡◌, ℕ, true, false, List, [], ◌∷◌, ◌++◌, map, length, Result, Ok, Err, refl, sym, ap, ◌∙◌, inl, inr}
use Rattle.std.proofs.lemmas.Bool.{cond-true, cond-false, cases_Bool}
use Rattle.verilog_tree.specs.Renaming.{number_in}
use Rattle.verilog_text.specs.declared.token.Token.{Token}
use Rattle.verilog_text.specs.declared.token.Why.{Why}
use Rattle.verilog_text.specs.declared.token.Why.TheVariants as why
use Rattle.verilog_text.specs.Grammar.{limits}
use Rattle.verilog_text.specs.Text.{clock_text}
use Rattle.verilog_text.specs.Lexer.{Placed}
use Rattle.verilog_text.specs.Names.{Lexeme, Inside, Outside, Unreadable, names_behind}
use Rattle.verilog_text.specs.TextMachine.{Done, Draft, State, at, drafted, start, step, run, and_then}
use Rattle.verilog_text.proofs.TextSteps.{accepts}
use Rattle.verilog_text.proofs.TextViable.{goes_on}
use Rattle.verilog_lex.specs.declared.lexeme.PlacedLexeme.{PlacedLexeme}
use Rattle.verilog_lex.specs.Lexed.{Standing, standing_view, standing_in, IsLexed}
use Rattle.verilog_read.specs.declared.fault.ReadFault.{ReadFault}
use Rattle.verilog_read.specs.declared.fault.ReadFault.TheVariants as fault
use Rattle.verilog_read.specs.Reader.{Refusal, is_done, lexeme_step, ended, go_on, read_from}
use Rattle.verilog_read.specs.Answer.{FailsAt, Begins, CannotGoOn, CannotEnd, CannotStand, IsRefused, StopsAt, IsStop}

abbrev Stop : ℕ → ℕ → State → List Standing → ℕ → Why → Type 0
Stop clock end s [] place reason = (place ≡ end) × (reason ≡ why.Syntax) × (is_done s.phase ≡ false)
Stop clock end s (x ∷ rest) place reason = (place ≡ x.place) × (lexeme_step clock s x.lexeme ≡ Err reason)

-- the machine takes what stands in front, and stops at what stands behind it
record Halts (clock end : ℕ) (s : State) (xs : List Standing) (place : ℕ) (reason : Why) : Type 0 where
  front : List Standing
  rest : List Standing
  parts : xs ≡ front ++ rest
  before : List Token
  are_tokens : map (λ x. x.lexeme) front ≡ map Inside before
  state : State
  takes : run limits clock s before ≡ Ok state
  stop : Stop clock end state rest place reason

same_refusal : (a b : Refusal) → ◌≡◌ {A = Result Draft Refusal} (Err a) (Err b) → (b.place ≡ a.place) × (b.reason ≡ a.reason)
same_refusal a b e = let f : a ≡ b = cc in (ap (λ r. r.place) (sym f), ap (λ r. r.reason) (sym f))

ends_here : (clock end : ℕ) (s : State) (place : ℕ) (reason : Why) → ended s end ≡ Err (record { place = place; reason = reason }) → Halts clock end s [] place reason
ends_here clock end s place reason e = elim (cases_Bool (is_done s.phase)) [
  | inl f ↦ absurd (let g : ◌≡◌ {A = Result Draft Refusal} (Ok s.draft) (Err (record { place = place; reason = reason })) = sym (cond-true _ _ _ f) ∙ e in cc)
  | inr f ↦
      let g : ◌≡◌ {A = Result Draft Refusal} (Err (record { place = end; reason = why.Syntax })) (Err (record { place = place; reason = reason })) = sym (cond-false _ _ _ f) ∙ e in
      let h = same_refusal (record { place = end; reason = why.Syntax }) (record { place = place; reason = reason }) g in
      record { front = []; rest = []; parts = refl; before = []; are_tokens = refl; state = s; takes = refl; stop = (h.0, h.1, f) }
]

stops_here : (clock end : ℕ) (s : State) (x : Standing) (xs : List Standing) (place : ℕ) (reason why' : Why) → lexeme_step clock s x.lexeme ≡ Err why' → ◌≡◌ {A = Result Draft Refusal} (Err (record { place = x.place; reason = why' })) (Err (record { place = place; reason = reason })) → Halts clock end s (x ∷ xs) place reason
stops_here clock end s x xs place reason why' is e =
    let h = same_refusal (record { place = x.place; reason = why' }) (record { place = place; reason = reason }) e in
    record { front = []; rest = x ∷ xs; parts = refl; before = []; are_tokens = refl; state = s; takes = refl; stop = (h.0, is ∙ ap Err (sym h.1)) }

passes_on : (clock end : ℕ) (s next : State) (t : Token) (at_place : ℕ) (xs : List Standing) (place : ℕ) (reason : Why) → step limits clock s t ≡ Ok next → Halts clock end next xs place reason → Halts clock end s (record { place = at_place; lexeme = Inside t } ∷ xs) place reason
passes_on clock end s next t at_place xs place reason is h = record {
  front = record { place = at_place; lexeme = Inside t } ∷ h.front;
  rest = h.rest;
  parts = ap (λ ys. record { place = at_place; lexeme = Inside t } ∷ ys) h.parts;
  before = t ∷ h.before;
  are_tokens = ap (λ ys. Inside t ∷ ys) h.are_tokens;
  state = h.state;
  takes = ap (λ r. and_then r (λ n. run limits clock n h.before)) is ∙ h.takes;
  stop = h.stop;
}

by_step : (clock end : ℕ) (s : State) (t : Token) (at_place : ℕ) (xs : List Standing) (place : ℕ) (reason : Why) (r : Result State Why) → step limits clock s t ≡ r → go_on r at_place (λ next. read_from clock end next xs) ≡ Err (record { place = place; reason = reason }) → ((next : State) → read_from clock end next xs ≡ Err (record { place = place; reason = reason }) → Halts clock end next xs place reason) → Halts clock end s (record { place = at_place; lexeme = Inside t } ∷ xs) place reason
by_step clock end s t at_place xs place reason (Ok next) is e more = passes_on clock end s next t at_place xs place reason is (more next e)
by_step clock end s t at_place xs place reason (Err w) is e more = stops_here clock end s (record { place = at_place; lexeme = Inside t }) xs place reason w is e

by_lexeme : (clock end : ℕ) (xs : List Standing) (s : State) (place : ℕ) (reason : Why) → ((next : State) → read_from clock end next xs ≡ Err (record { place = place; reason = reason }) → Halts clock end next xs place reason) → (at_place : ℕ) (l : Lexeme) → go_on (lexeme_step clock s l) at_place (λ next. read_from clock end next xs) ≡ Err (record { place = place; reason = reason }) → Halts clock end s (record { place = at_place; lexeme = l } ∷ xs) place reason
by_lexeme clock end xs s place reason more at_place (Inside t) f = by_step clock end s t at_place xs place reason (step limits clock s t) refl f more
by_lexeme clock end xs s place reason more at_place Outside f = stops_here clock end s (record { place = at_place; lexeme = Outside }) xs place reason why.OutsideSubset refl f
by_lexeme clock end xs s place reason more at_place Unreadable f = stops_here clock end s (record { place = at_place; lexeme = Unreadable }) xs place reason why.Lexical refl f

halts : (clock end : ℕ) (xs : List Standing) (s : State) (place : ℕ) (reason : Why) → read_from clock end s xs ≡ Err (record { place = place; reason = reason }) → Halts clock end s xs place reason
halts clock end [] s place reason e = ends_here clock end s place reason e
halts clock end (x ∷ xs) s place reason e = by_lexeme clock end xs s place reason (λ next f. halts clock end xs next place reason f) x.place x.lexeme e

-- ---- no text goes on

run_rest : (clock : ℕ) (r : Result State Why) (ts us : List Token) → ((next : State) → run limits clock next (ts ++ us) ≡ and_then (run limits clock next ts) (λ n. run limits clock n us)) → and_then r (λ n. run limits clock n (ts ++ us)) ≡ and_then (and_then r (λ n. run limits clock n ts)) (λ n. run limits clock n us)
run_rest clock (Ok next) ts us h = h next
run_rest clock (Err w) ts us h = refl

run_append : (clock : ℕ) (ts us : List Token) (s : State) → run limits clock s (ts ++ us) ≡ and_then (run limits clock s ts) (λ n. run limits clock n us)
run_append clock [] us s = refl
run_append clock (t ∷ ts) us s = run_rest clock (step limits clock s t) ts us (λ next. run_append clock ts us next)

never_ends : (clock : ℕ) (before : List Token) (s : State) → run limits clock start before ≡ Ok s → is_done s.phase ≡ false → CannotEnd clock before
never_ends clock before s takes unfinished = λ text good e.
    let all : run limits clock start before ≡ Ok (at (drafted text) Done) = ap (run limits clock start) (sym e) ∙ accepts limits clock text good in
    let both : ◌≡◌ {A = Result State Why} (Ok s) (Ok (at (drafted text) Done)) = sym takes ∙ all in
    let same : s ≡ at (drafted text) Done = cc in
    let f : is_done s.phase ≡ true = ap (λ x. is_done x.phase) same in
    let g : true ≡ false = sym f ∙ unfinished in
    (cc)

never_goes_on : (clock : ℕ) (before : List Token) (s : State) (t : Token) (reason : Why) → run limits clock start before ≡ Ok s → step limits clock s t ≡ Err reason → CannotGoOn clock before t
never_goes_on clock before s t reason takes stops = λ text after good e.
    let whole : run limits clock start (before ++ t ∷ after) ≡ Ok (at (drafted text) Done) = ap (run limits clock start) (sym e) ∙ accepts limits clock text good in
    let here : run limits clock start (before ++ t ∷ after) ≡ Err reason =
    run_append clock before (t ∷ after) start
    ∙ ap (λ r. and_then r (λ n. run limits clock n (t ∷ after))) takes
    ∙ ap (λ r. and_then r (λ n. run limits clock n after)) stops in
    let both : ◌≡◌ {A = Result State Why} (Err reason) (Ok (at (drafted text) Done)) = sym here ∙ whole in
    (cc)

cannot_stand : (clock : ℕ) (before : List Token) (s : State) (l : Lexeme) (reason : Why) → run limits clock start before ≡ Ok s → lexeme_step clock s l ≡ Err reason → CannotStand clock before l
cannot_stand clock before s (Inside t) reason takes stops = never_goes_on clock before s t reason takes stops
cannot_stand clock before s Outside reason takes stops = tt
cannot_stand clock before s Unreadable reason takes stops = tt

is_refused : (clock end : ℕ) (before : List Token) (s : State) (rest : List Standing) (place : ℕ) (reason : Why) → run limits clock start before ≡ Ok s → Stop clock end s rest place reason → IsRefused clock end before s rest place reason
is_refused clock end before s [] place reason takes stop = (stop.0, stop.1, never_ends clock before s takes stop.2)
is_refused clock end before s (x ∷ rest) place reason takes stop = (stop.0, stop.1, cannot_stand clock before s x.lexeme reason takes stop.1)

begins_of : (clock : ℕ) (before : List Token) (s : State) → run limits clock start before ≡ Ok s → Begins clock before
begins_of clock before s takes = let r = goes_on limits clock before s takes in record { text = r.0; in_limits = r.2; after = r.1; text_is = r.3 }

stops_at : (bytes : List ℕ) (names : List (List ℕ)) (items : List PlacedLexeme) (place : ℕ) (reason : Why) → IsLexed bytes names items → read_from (number_in names clock_text) (length bytes) start (map standing_view items) ≡ Err (record { place = place; reason = reason }) → StopsAt bytes place reason
stops_at bytes names items place reason x e =
    let pieces : List Placed = x.pieces in
    let all : List (List ℕ) = names_behind [] pieces in
    let same : names ≡ all = x.names_are in
    let standing : map standing_view items ≡ map (standing_in all) pieces = x.items_are ∙ ap (λ (ns : List (List ℕ)). map (standing_in ns) pieces) same in
    let e' : read_from (number_in all clock_text) (length bytes) start (map (standing_in all) pieces) ≡ Err (record { place = place; reason = reason }) =
    ap (read_from (number_in all clock_text) (length bytes) start) (sym standing)
    ∙ ap (λ (ns : List (List ℕ)). read_from (number_in ns clock_text) (length bytes) start (map standing_view items)) (sym same)
    ∙ e in
    let h = halts (number_in all clock_text) (length bytes) (map (standing_in all) pieces) start place reason e' in
    record {
      pieces = pieces;
      scans = x.scans;
      front = h.front;
      rest = h.rest;
      parts = h.parts;
      before = h.before;
      are_tokens = h.are_tokens;
      begins = begins_of (number_in all clock_text) h.before h.state h.takes;
      state = h.state;
      takes = h.takes;
      refused = is_refused (number_in all clock_text) (length bytes) h.before h.state h.rest place reason h.takes h.stop;
    }

pub stop_of : (bytes : List ℕ) (names : List (List ℕ)) (items : List PlacedLexeme) (e : ReadFault) → IsLexed bytes names items → FailsAt e (read_from (number_in names clock_text) (length bytes) start (map standing_view items)) → IsStop bytes e
stop_of bytes names items (fault.Lexical place) x h = stops_at bytes names items place why.Lexical x h
stop_of bytes names items (fault.Syntax place) x h = stops_at bytes names items place why.Syntax x h
stop_of bytes names items (fault.OutsideSubset place) x h = stops_at bytes names items place why.OutsideSubset x h
stop_of bytes names items (fault.TooDeep place) x h = stops_at bytes names items place why.TooDeep x h
stop_of bytes names items (fault.Module f) x h = h
stop_of bytes names items fault.Memory x h = tt

-- where the text is read, only memory can have run out
pub only_memory : (e : ReadFault) (given : Result Draft Refusal) (d : Draft) → FailsAt e given → given ≡ Ok d → e ≡ fault.Memory
only_memory (fault.Lexical place) given d h e = absurd (let f : ◌≡◌ {A = Result Draft Refusal} (Err (record { place = place; reason = why.Lexical })) (Ok d) = sym h ∙ e in cc)
only_memory (fault.Syntax place) given d h e = absurd (let f : ◌≡◌ {A = Result Draft Refusal} (Err (record { place = place; reason = why.Syntax })) (Ok d) = sym h ∙ e in cc)
only_memory (fault.OutsideSubset place) given d h e = absurd (let f : ◌≡◌ {A = Result Draft Refusal} (Err (record { place = place; reason = why.OutsideSubset })) (Ok d) = sym h ∙ e in cc)
only_memory (fault.TooDeep place) given d h e = absurd (let f : ◌≡◌ {A = Result Draft Refusal} (Err (record { place = place; reason = why.TooDeep })) (Ok d) = sym h ∙ e in cc)
only_memory (fault.Module f) given d h e = absurd h
only_memory fault.Memory given d h e = refl
