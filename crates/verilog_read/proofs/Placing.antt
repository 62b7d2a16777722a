-- The steps of the loops over what stands in a text.
use Rattle.std.proofs.Common.{◌≡◌, ℕ, zero, suc, ◌+◌, ◌<◌, ◌≤◌, Bool, List, [], ◌∷◌, ◌++◌, map, length, drop, get_or, Result, Ok, Err, refl, sym, ap, ◌∙◌, subst, arith, add-one, append_assoc}
use Rattle.std.proofs.lemmas.List.{append-nil}
use Rattle.verilog_tree.specs.declared.tree.Signal.{Signal}
use Rattle.verilog_text.specs.declared.token.Why.{Why}
use Rattle.verilog_text.specs.TextMachine.{Draft, State}
use Rattle.verilog_text.specs.Reading.{with_places}
use Rattle.verilog_lex.specs.declared.lexeme.PlacedLexeme.{PlacedLexeme}
use Rattle.verilog_lex.specs.Known.{lexeme_view}
use Rattle.verilog_lex.specs.Lexed.{standing_view}
use Rattle.verilog_read.specs.Reader.{Refusal, lexeme_step, go_on, read_from, IsSmallLexeme, AreSmall}
use Rattle.verilog_read.specs.Places.{is_name, place_in, declares_past, declared_in, signal_at}

-- what is left, with its first element
cons_at : {X : Type 0} (xs : List X) (k : ℕ) (x d : X) → k < length xs → x ≡ get_or xs k d → drop k xs ≡ x ∷ drop (suc k) xs
cons_at [] k x d low is = absurd (omega arith)
cons_at (y ∷ xs) zero x d low is = ap (λ z. z ∷ xs) (sym is)
cons_at (y ∷ xs) (suc k) x d low is = cons_at xs k x d (omega arith) is

items_left : (items : List PlacedLexeme) (k : ℕ) (x : PlacedLexeme) → k < length items → x ≡ get_or items k x → map standing_view (drop k items) ≡ standing_view x ∷ map standing_view (drop (k + 1) items)
items_left items k x low is = ap (map standing_view) (cons_at items k x x low is) ∙ ap (λ n. standing_view x ∷ map standing_view (drop n items)) (sym (add-one k))

-- one place more
pub places_more : (items : List PlacedLexeme) (k : ℕ) (x : PlacedLexeme) (declares declares' : Bool) (before before' whole : List ℕ) → k < length items → x ≡ get_or items k x → before ++ declared_in declares (map standing_view (drop k items)) ≡ whole → before' ≡ before ++ place_in (is_name (lexeme_view x.lexeme)) declares x.place → declares' ≡ declares_past (lexeme_view x.lexeme) declares → before' ++ declared_in declares' (map standing_view (drop (k + 1) items)) ≡ whole
places_more items k x declares declares' before before' whole low is same now past =
    let rest : List ℕ = declared_in (declares_past (lexeme_view x.lexeme) declares) (map standing_view (drop (k + 1) items)) in
    let here : List ℕ = place_in (is_name (lexeme_view x.lexeme)) declares x.place in
    ap (λ d. before' ++ declared_in d (map standing_view (drop (k + 1) items))) past
    ∙ ap (λ ps. ps ++ rest) now
    ∙ append_assoc before here rest
    ∙ ap (λ ys. before ++ declared_in declares ys) (sym (items_left items k x low is))
    ∙ same

-- one token more
pub draft_more : (clock end : ℕ) (items : List PlacedLexeme) (k : ℕ) (x : PlacedLexeme) (s next : State) (whole : Result Draft Refusal) → k < length items → x ≡ get_or items k x → read_from clock end s (map standing_view (drop k items)) ≡ whole → lexeme_step clock s (lexeme_view x.lexeme) ≡ Ok next → read_from clock end next (map standing_view (drop (k + 1) items)) ≡ whole
draft_more clock end items k x s next whole low is same stepped =
    sym (ap (read_from clock end s) (items_left items k x low is) ∙ ap (λ r. go_on r x.place (λ n. read_from clock end n (map standing_view (drop (k + 1) items)))) stepped) ∙ same

pub draft_stops : (clock end : ℕ) (items : List PlacedLexeme) (k : ℕ) (x : PlacedLexeme) (s : State) (reason : Why) (whole : Result Draft Refusal) → k < length items → x ≡ get_or items k x → read_from clock end s (map standing_view (drop k items)) ≡ whole → lexeme_step clock s (lexeme_view x.lexeme) ≡ Err reason → whole ≡ Err (record { place = x.place; reason = reason })
draft_stops clock end items k x s reason whole low is same stepped =
    sym same ∙ ap (read_from clock end s) (items_left items k x low is) ∙ ap (λ r. go_on r x.place (λ n. read_from clock end n (map standing_view (drop (k + 1) items)))) stepped

pub small_next : (items : List PlacedLexeme) (k : ℕ) (x : PlacedLexeme) → k < length items → x ≡ get_or items k x → AreSmall (map standing_view (drop k items)) → IsSmallLexeme (lexeme_view x.lexeme) × AreSmall (map standing_view (drop (k + 1) items))
small_next items k x low is small = subst AreSmall (items_left items k x low is) small

-- one declaration more
next_placed : (places : List ℕ) (signals : List Signal) (k : ℕ) (s d : Signal) → k < length signals → s ≡ get_or signals k d → with_places (drop k places) (drop k signals) ≡ signal_at places k s ∷ with_places (drop (suc k) places) (drop (suc k) signals)
next_placed [] signals zero s d low is = cons_at signals zero s d low is
next_placed [] signals (suc k) s d low is = cons_at signals (suc k) s d low is
next_placed (p ∷ places) [] k s d low is = absurd (omega arith)
next_placed (p ∷ places) (x ∷ signals) zero s d low is = ap (λ (y : Signal). record y { place = p } ∷ with_places places signals) (sym is)
next_placed (p ∷ places) (x ∷ signals) (suc k) s d low is = next_placed places signals k s d (omega arith) is

pub signals_more : (places : List ℕ) (signals : List Signal) (k : ℕ) (s d : Signal) (before before' whole : List Signal) → k < length signals → s ≡ get_or signals k d → before ++ with_places (drop k places) (drop k signals) ≡ whole → before' ≡ before ++ signal_at places k s ∷ [] → before' ++ with_places (drop (k + 1) places) (drop (k + 1) signals) ≡ whole
signals_more places signals k s d before before' whole low is same now =
    let rest : List Signal = with_places (drop (k + 1) places) (drop (k + 1) signals) in
    let step : with_places (drop k places) (drop k signals) ≡ signal_at places k s ∷ rest = next_placed places signals k s d low is ∙ ap (λ n. signal_at places k s ∷ with_places (drop n places) (drop n signals)) (sym (add-one k)) in
    ap (λ ss. ss ++ rest) now ∙ append_assoc before (signal_at places k s ∷ []) rest ∙ ap (λ ss. before ++ ss) (sym step) ∙ same

-- no declaration is left
all_dropped : (signals : List Signal) (k : ℕ) → length signals ≤ k → drop k signals ≡ []
all_dropped [] zero low = refl
all_dropped [] (suc k) low = refl
all_dropped (s ∷ signals) zero low = absurd (omega arith)
all_dropped (s ∷ signals) (suc k) low = all_dropped signals k (omega arith)

no_places : (places : List ℕ) → with_places places [] ≡ []
no_places [] = refl
no_places (p ∷ places) = refl

pub signals_end : (places : List ℕ) (signals : List Signal) (k : ℕ) (before whole : List Signal) → length signals ≤ k → before ++ with_places (drop k places) (drop k signals) ≡ whole → before ≡ whole
signals_end places signals k before whole low same =
    let none : drop k signals ≡ [] = all_dropped signals k low in
    sym (append-nil before) ∙ ap (λ ss. before ++ ss) (sym (ap (with_places (drop k places)) none ∙ no_places (drop k places))) ∙ same
