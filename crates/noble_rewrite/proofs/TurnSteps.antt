-- One turn, and many.
use Rattle.std.proofs.Common.{◌≡◌, ◌∙◌, ℕ, zero, suc, ◌+◌, ◌<◌, ◌≤◌, Bool, cond, List, [], ◌∷◌, ◌++◌, length, take, drop, get_or, set, Option, None, Some, option_map, arith, refl, sym, ap, subst}
use Rattle.std.specs.Prelude.{nat_lt}
use Rattle.std.proofs.lemmas.Bool.{lt-ltb, le-ltb}
use Rattle.mr_values.specs.declared.plan.Element.{Element}
use Rattle.mr_values.specs.Sequence.{Sequence}
use Rattle.mr_values.specs.Value.{chain}
use Rattle.mr_values.proofs.Plain.{chain-append}
use Rattle.noble_rewrite.specs.declared.turn.Applied.{Applied}
use Rattle.noble_rewrite.specs.declared.rules.Pair.{Pair}
use Rattle.noble_rewrite.specs.Views.{as_exchange}
use Rattle.noble_rewrite.specs.Rules.{Exchange, exchange}
use Rattle.noble_rewrite.specs.Turns.{IsSettled, IsTurn, LeadsTo, HaveFactors}
use Rattle.noble_rewrite.proofs.Exchanges.{rank, exchange-keeps}

-- ---- the loop of a turn

-- one more pair to which no rule applies
pub settled-more : (es : List Element) (i : ℕ) (d d' : Element) → suc i < length es → IsSettled (take (suc i) es) → exchange (get_or es i d) (get_or es (suc i) d') ≡ None → IsSettled (take (suc (suc i)) es)
settled-more [] i d d' h before none = absurd (omega arith)
settled-more (e ∷ []) i d d' h before none = absurd (omega arith)
settled-more (e ∷ f ∷ es) zero d d' h before none = (none, tt)
settled-more (e ∷ f ∷ es) (suc i) d d' h before none = (before.0, settled-more (f ∷ es) i d d' (omega arith) before.1 none)

pub settled-one : (es : List Element) → IsSettled (take 1 es)
settled-one [] = tt
settled-one (e ∷ es) = tt

-- a list about two of its neighbours
pub around : (es : List Element) (i : ℕ) (d d' : Element) → suc i < length es → es ≡ take i es ++ get_or es i d ∷ get_or es (suc i) d' ∷ drop (suc (suc i)) es
around [] i d d' h = absurd (omega arith)
around (e ∷ []) i d d' h = absurd (omega arith)
around (e ∷ f ∷ es) zero d d' h = refl
around (e ∷ f ∷ es) (suc i) d d' h = ap (λ (xs : List Element). e ∷ xs) (around (f ∷ es) i d d' (omega arith))

pub around-set : (es : List Element) (i : ℕ) (x y : Element) → suc i < length es → set (set es i x) (suc i) y ≡ take i es ++ x ∷ y ∷ drop (suc (suc i)) es
around-set [] i x y h = absurd (omega arith)
around-set (e ∷ []) i x y h = absurd (omega arith)
around-set (e ∷ f ∷ es) zero x y h = refl
around-set (e ∷ f ∷ es) (suc i) x y h = ap (λ (xs : List Element). e ∷ xs) (around-set (f ∷ es) i x y (omega arith))

up_to : (es : List Element) (i : ℕ) (d : Element) → suc i < length es → take (suc i) es ≡ take i es ++ get_or es i d ∷ []
up_to [] i d h = absurd (omega arith)
up_to (e ∷ es) zero d h = refl
up_to (e ∷ es) (suc i) d h = ap (λ (xs : List Element). e ∷ xs) (up_to es i d (omega arith))

length_before : (es : List Element) (i : ℕ) → suc i < length es → length (take i es) ≡ i
length_before [] i h = absurd (omega arith)
length_before (e ∷ es) zero h = refl
length_before (e ∷ es) (suc i) h = ap suc (length_before es i (omega arith))

-- a pair was rewritten
pub turn-made : (es gs : List Element) (i : ℕ) (d d' : Element) (x : Exchange) (applied : Applied) → suc i < length es → IsSettled (take (suc i) es) → exchange (get_or es i d) (get_or es (suc i) d') ≡ Some x
    → gs ≡ set (set es i x.first) (suc i) x.second → applied.rule ≡ x.rule → applied.place ≡ suc i → IsTurn es gs applied
turn-made es gs i d d' x applied h before applies made rule place = record {
  before = take i es;
  first = get_or es i d;
  second = get_or es (suc i) d';
  after = drop (suc (suc i)) es;
  becomes = x;
  old_is = around es i d d' h;
  leftmost = subst (λ (xs : List Element). IsSettled xs) (up_to es i d h) before;
  applies = applies;
  new_is = made ∙ around-set es i x.first x.second h;
  rule = rule;
  place = place ∙ ap suc (sym (length_before es i h));
}

-- ---- what a turn keeps

factors-append : (es gs : List Element) → HaveFactors (es ++ gs) → HaveFactors es × HaveFactors gs
factors-append [] gs h = (tt, h)
factors-append (e ∷ es) gs h = let parts = factors-append es gs h.1 in ((h.0, parts.0), parts.1)

factors-join : (es gs : List Element) → HaveFactors es → HaveFactors gs → HaveFactors (es ++ gs)
factors-join [] gs h k = k
factors-join (e ∷ es) gs h k = (h.0, factors-join es gs h.1 k)

pub turn-factors : (old new : List Element) (applied : Applied) → IsTurn old new applied → HaveFactors old → HaveFactors new
turn-factors old new applied turn h =
    let parts = factors-append turn.before (turn.first ∷ turn.second ∷ turn.after) (subst (λ (xs : List Element). HaveFactors xs) turn.old_is h) in
    let kept = exchange-keeps turn.first turn.second turn.becomes turn.applies in
    subst (λ (xs : List Element). HaveFactors xs) (sym turn.new_is)
    (factors-join turn.before (turn.becomes.first ∷ turn.becomes.second ∷ turn.after) parts.0 (kept.first_factor parts.1.1.0, (kept.second_factor parts.1.0, parts.1.1.1)))

pub turn-value : (old new : List Element) (applied : Applied) → IsTurn old new applied → HaveFactors old → (s : Sequence) → chain new s ≡ chain old s
turn-value old new applied turn h s =
    let parts = factors-append turn.before (turn.first ∷ turn.second ∷ turn.after) (subst (λ (xs : List Element). HaveFactors xs) turn.old_is h) in
    let kept = exchange-keeps turn.first turn.second turn.becomes turn.applies in
    ap (λ (xs : List Element). chain xs s) turn.new_is
    ∙ chain-append turn.before (turn.becomes.first ∷ turn.becomes.second ∷ turn.after) s
    ∙ ap (chain turn.after) (kept.value parts.1.0 (chain turn.before s))
    ∙ sym (chain-append turn.before (turn.first ∷ turn.second ∷ turn.after) s)
    ∙ ap (λ (xs : List Element). chain xs s) (sym turn.old_is)

-- ---- the turns end

abbrev one_if : Bool → ℕ
one_if b = cond b 1 0

-- how many of these belong left of a rank
abbrev below : ℕ → List Element → ℕ
below r [] = 0
below r (e ∷ es) = one_if (nat_lt (rank e) r) + below r es

-- how many pairs stand in the wrong order
abbrev pub disorder : List Element → ℕ
disorder [] = 0
disorder (e ∷ es) = below (rank e) es + disorder es

below-exchanged : (r : ℕ) (before after : List Element) (e f g h : Element) → rank g ≡ rank f → rank h ≡ rank e
    → below r (before ++ g ∷ h ∷ after) ≡ below r (before ++ e ∷ f ∷ after)
below-exchanged r [] after e f g h left right = rw (left, right) (omega arith)
below-exchanged r (b ∷ before) after e f g h left right = ap (λ (n : ℕ). one_if (nat_lt (rank b) r) + n) (below-exchanged r before after e f g h left right)

less : (m n : ℕ) → m < n → one_if (nat_lt m n) ≡ 1
less m n h = rw (lt-ltb m n h) refl

not_less : (m n : ℕ) → n ≤ m → one_if (nat_lt m n) ≡ 0
not_less m n h = rw (le-ltb m n h) refl

disorder-falls : (before after : List Element) (e f g h : Element) → rank g ≡ rank f → rank h ≡ rank e → rank f < rank e
    → disorder (before ++ g ∷ h ∷ after) < disorder (before ++ e ∷ f ∷ after)
disorder-falls [] after e f g h left right falls =
    let now = less (rank f) (rank e) falls in
    let then_not = not_less (rank h) (rank g) (omega arith) in
    let same_left : below (rank g) after ≡ below (rank f) after = ap (λ (r : ℕ). below r after) left in
    let same_right : below (rank h) after ≡ below (rank e) after = ap (λ (r : ℕ). below r after) right in
    omega (arith, now, then_not, same_left, same_right)
disorder-falls (b ∷ before) after e f g h left right falls =
    let same = below-exchanged (rank b) before after e f g h left right in
    let rest = disorder-falls before after e f g h left right falls in
    omega (arith, same, rest)

pub turn-falls : (old new : List Element) (applied : Applied) → IsTurn old new applied → disorder new < disorder old
turn-falls old new applied turn =
    let kept = exchange-keeps turn.first turn.second turn.becomes turn.applies in
    let falls = disorder-falls turn.before turn.after turn.first turn.second turn.becomes.first turn.becomes.second kept.first_rank kept.second_rank kept.falls in
    subst (λ (xs : List Element). disorder xs < disorder old) (sym turn.new_is) (subst (λ (xs : List Element). disorder (turn.before ++ turn.becomes.first ∷ turn.becomes.second ∷ turn.after) < disorder xs) (sym turn.old_is) falls)

-- ---- turn after turn

pub leads-push : (old : List Element) (turns : List Applied) (middle new : List Element) (turn : Applied) → LeadsTo old turns middle → IsTurn middle new turn → LeadsTo old (turns ++ turn ∷ []) new
leads-push old [] middle new turn leads next = (new, subst (λ (xs : List Element). IsTurn xs new turn) leads next, refl)
leads-push old (t ∷ turns) middle new turn leads next = (leads.0, leads.1, leads-push leads.0 turns middle new turn leads.2 next)

pub leads-value : (old : List Element) (turns : List Applied) (new : List Element) → LeadsTo old turns new → HaveFactors old → (s : Sequence) → chain new s ≡ chain old s
leads-value old [] new leads h s = ap (λ (xs : List Element). chain xs s) leads
leads-value old (t ∷ turns) new leads h s =
    leads-value leads.0 turns new leads.2 (turn-factors old leads.0 t leads.1 h) s ∙ turn-value old leads.0 t leads.1 h s

-- ---- the loop of a turn, as its code says it

-- no rule applies to one more pair
pub settled-next : (es : List Element) (i j : ℕ) (e f : Element) (found : Option Pair) → j ≡ suc i → j < length es → IsSettled (take j es) → e ≡ get_or es i e → f ≡ get_or es j f
    → found ≡ None → option_map as_exchange found ≡ exchange e f → IsSettled (take (j + 1) es)
settled-next es i j e f found at h before first second is gives =
    let none : exchange (get_or es i e) (get_or es (suc i) f) ≡ None =
    ap (λ (x : Element). exchange x (get_or es (suc i) f)) (sym first) ∙ ap (exchange e) (ap (λ (k : ℕ). get_or es k f) (sym at) ∙ sym second) ∙ sym gives ∙ ap (option_map as_exchange) is in
    let so_far : IsSettled (take (suc i) es) = subst (λ (k : ℕ). IsSettled (take k es)) at before in
    let more : IsSettled (take (suc (suc i)) es) = settled-more es i e f (omega (arith, at)) so_far none in
    let next : suc (suc i) ≡ j + 1 = omega (arith, at) in
    subst (λ (k : ℕ). IsSettled (take k es)) next more

-- a rule applies to this pair
pub turn-found : (es es0 gs : List Element) (i j : ℕ) (e f : Element) (pair : Pair) (found : Option Pair) (applied : Applied) → es0 ≡ es → j ≡ suc i → j < length es → IsSettled (take j es) → e ≡ get_or es i e → f ≡ get_or es j f
    → found ≡ Some pair → option_map as_exchange found ≡ exchange e f → gs ≡ set (set es i pair.first) j pair.second → applied.rule ≡ pair.rule → applied.place ≡ j → IsTurn es0 gs applied
turn-found es es0 gs i j e f pair found applied same at h before first second is gives made rule place =
    let some : exchange (get_or es i e) (get_or es (suc i) f) ≡ Some (as_exchange pair) =
    ap (λ (x : Element). exchange x (get_or es (suc i) f)) (sym first) ∙ ap (exchange e) (ap (λ (k : ℕ). get_or es k f) (sym at) ∙ sym second) ∙ sym gives ∙ ap (option_map as_exchange) is in
    let made' : gs ≡ set (set es i pair.first) (suc i) pair.second = made ∙ ap (λ (k : ℕ). set (set es i pair.first) k pair.second) at in
    subst (λ (xs : List Element). IsTurn xs gs applied) (sym same)
    (turn-made es gs i e f (as_exchange pair) applied (omega (arith, at)) (subst (λ (k : ℕ). IsSettled (take k es)) at before) some made' rule (place ∙ at))

same_length : (before after : List Element) (e f g h : Element) → length (before ++ g ∷ h ∷ after) ≡ length (before ++ e ∷ f ∷ after)
same_length [] after e f g h = refl
same_length (b ∷ before) after e f g h = ap suc (same_length before after e f g h)

-- a turn keeps the number of elements
pub turn-few : (old new : List Element) (applied : Applied) (most : ℕ) → IsTurn old new applied → length old < most → length new < most
turn-few old new applied most turn few =
    let same = ap length turn.new_is ∙ same_length turn.before turn.after turn.first turn.second turn.becomes.first turn.becomes.second ∙ sym (ap length turn.old_is) in
    omega (arith, same, few)
