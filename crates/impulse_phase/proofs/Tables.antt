-- Tables of responses: what their rows tell.
use Rattle.std.proofs.Common.{◌≡◌, ◌≢◌, ℕ, zero, suc, ◌+◌, ◌-◌, ◌*◌, ◌/◌, ◌%◌, ◌^◌, ◌<◌, ◌≤◌, List, [], ◌∷◌, ◌++◌, length, map, drop, get_or, ℤ, pos, negsuc, neg_ℤ, ◌+ℤ◌, ◌-ℤ◌, ◌*ℤ◌, Bool, true, false, cond, nat_eq, arith, add-mul, mul_assoc, refl, sym, ◌∙◌, ap, subst}
use Rattle.std.proofs.Math.Path.{fun_ext}
use Rattle.std.proofs.Math.Nat.{mul-le-mul_right, mul_comm, pow-suc, pow-le-pow_right}
use Rattle.std.proofs.lemmas.Bool.{eqb-true}
use Rattle.std.proofs.lemmas.Int.{ints}
use Rattle.std.proofs.lemmas.Nat.{div-add-mod', mod_below}
use Rattle.std.proofs.lemmas.List.{map-append, length-map, length_push, get_or_push, get_or_append_left}
use Rattle.mr_values.specs.Width.{floor_quotient, floor_remainder}
use Rattle.mr_values.specs.Sequence.{Sequence}
use Rattle.mr_values.specs.Value.{size}
use Rattle.mr_values.proofs.Division.{floor_unique, floor_split, floor_remainder_below}
use Rattle.impulse_phase.specs.declared.table.Row.{Row}
use Rattle.impulse_phase.specs.declared.table.Response.{Response as Table}
use Rattle.impulse_phase.specs.Response.{Response, Responses, later, combined, through_up, through_down, through_filter, HasResponses, Cycle}
use Rattle.plan_check.specs.Costs.{gcd}
use Rattle.impulse_phase.specs.Reading.{as_response, silent, rows_of, cycle_of, told, responses_of, IsTable, IsAhead, Passes, IsPlaceBefore}
use Rattle.impulse_phase.proofs.Steps.{recurs-times}
use Rattle.impulse_phase.proofs.Prefix.{common-turns}
use Rattle.impulse_phase.proofs.Sums.{combined-all}

-- the rows so far tell the responses of the indices so far
pub record AreRows (f : Responses) (count : ℕ) (rows : List Response) : Type 0 where
  pub count_is : length rows ≡ count
  pub each : (c : ℕ) → c < count → get_or rows c silent ≡ f (pos c)

pub no_rows : (f : Responses) → AreRows f 0 []
no_rows f = record { count_is = refl; each = λ c h. absurd (omega arith) }

push-rows : (f : Responses) (n : ℕ) (rows : List Response) (r : Response) → AreRows f n rows → r ≡ f (pos n) → AreRows f (n + 1) (rows ++ r ∷ [])
push-rows f n rows r h e = record { count_is = omega (arith, length_push rows r, h.count_is); each = λ c below. by_place c below (n - c) refl }
  where
    by_place : (c : ℕ) → c < n + 1 → (d : ℕ) → n - c ≡ d → get_or (rows ++ r ∷ []) c silent ≡ f (pos c)
    by_place c below zero is =
        let same : n ≡ c = omega arith in
        get_or_push rows r silent c (omega (arith, h.count_is)) ∙ e ∙ ap (λ (m : ℕ). f (pos m)) same
    by_place c below (suc d) is = get_or_append_left rows (r ∷ []) silent c (omega (arith, h.count_is)) ∙ h.each c (omega arith)

pub rows_more : (f : Responses) (n : ℕ) (items : List Row) (row : Row) → AreRows f n (map as_response items) → as_response row ≡ f (pos n)
    → AreRows f (n + 1) (map as_response (items ++ row ∷ []))
rows_more f n items row h e = subst (AreRows f (n + 1)) (sym (map-append as_response items (row ∷ []))) (push-rows f n (map as_response items) (as_response row) h e)

-- the row that is read
pub row_at : (items : List Row) (c : ℕ) (row : Row) → c < length items → row ≡ get_or items c row → get_or (map as_response items) c silent ≡ as_response row
row_at [] c row h e = absurd (omega arith)
row_at (x ∷ items) zero row h e = ap as_response (sym e)
row_at (x ∷ items) (suc c) row h e = row_at items c row (omega arith) e

-- ---- what rows tell

undone : (d e : ℤ) (r s : Response) → d +ℤ e ≡ pos 0 → s ≡ later d r → r ≡ later e s
undone d e r s none is =
    let back : r.newest ≡ r.newest +ℤ d +ℤ e = omega (arith, ints) in
    ap (λ (z : ℤ). record { newest = z; weights = r.weights }) back ∙ ap (later e) (sym is)

-- so many rounds on or back
rounds_on : (transform : Sequence → Sequence) (f : Responses) (classes step : ℕ) → HasResponses transform f classes step
    → (q m : ℤ) → f (m +ℤ q *ℤ pos classes) ≡ later (q *ℤ pos step) (f m)
rounds_on transform f classes step h (pos k) m =
    let at : m +ℤ pos k *ℤ pos classes ≡ m +ℤ pos (k * classes) = omega (arith, ints) in
    let by : pos (k * step) ≡ pos k *ℤ pos step = omega (arith, ints) in
    ap f at ∙ recurs-times transform f classes step h k m ∙ ap (λ (z : ℤ). later z (f m)) by
rounds_on transform f classes step h (negsuc k) m =
    let start = m +ℤ negsuc k *ℤ pos classes in
    let again = recurs-times transform f classes step h (suc k) start in
    let at : start +ℤ pos (suc k * classes) ≡ m = omega (arith, ints) in
    undone (pos (suc k * step)) (negsuc k *ℤ pos step) (f start) (f m) (omega (arith, ints)) (ap f (sym at) ∙ again)

pub told_is : (transform : Sequence → Sequence) (f : Responses) (p : Cycle) → HasResponses transform f p.classes p.step
    → (rows : List Response) (step : ℕ) → AreRows f p.classes rows → step ≡ p.step → told rows step ≡ f
told_is transform f p h rows step are same = fun_ext at
  where
    at : (n : ℤ) → told rows step n ≡ f n
    at n =
        let q = floor_quotient n p.classes in
        let r = floor_remainder n p.classes in
        let split : pos r +ℤ q *ℤ pos p.classes ≡ n = omega (arith, ints, floor_split n p.classes h.has_class) in
        rw (are.count_is, same) (ap (later (q *ℤ pos p.step)) (are.each r (floor_remainder_below n p.classes h.has_class)) ∙ sym (rounds_on transform f p.classes p.step h q (pos r)) ∙ ap f split)

pub passes : (change : Responses → Responses) (turn : Cycle → Cycle) (before after : Table) (transform : Sequence → Sequence)
    → HasResponses transform (change (responses_of before)) (turn (cycle_of before)).classes (turn (cycle_of before)).step
    → AreRows (change (responses_of before)) (turn (cycle_of before)).classes (rows_of after) → after.step ≡ (turn (cycle_of before)).step
    → Passes change turn before after
passes change turn before after transform law are same = record {
  told = told_is transform (change (responses_of before)) (turn (cycle_of before)) law (rows_of after) after.step are same;
  cycle = ap (λ (n : ℕ). record { classes = n; step = after.step }) are.count_is ∙ ap (λ (n : ℕ). record { classes = (turn (cycle_of before)).classes; step = n }) same;
}

pub told_at : (rows : List Response) (step : ℕ) (n q : ℤ) (r : ℕ) → r < length rows → n ≡ q *ℤ pos (length rows) +ℤ pos r
    → told rows step n ≡ later (q *ℤ pos step) (get_or rows r silent)
told_at rows step n q r below is = let parts = floor_unique n q (length rows) r below is in rw (parts.0, parts.1) refl

-- an index of the first round
pub told_here : (rows : List Response) (step c : ℕ) → c < length rows → told rows step (pos c) ≡ get_or rows c silent
told_here rows step c below =
    let row = get_or rows c silent in
    let none : row.newest +ℤ pos 0 *ℤ pos step ≡ row.newest = omega (arith, ints) in
    told_at rows step (pos c) (pos 0) c below (omega (arith, ints)) ∙ ap (λ (z : ℤ). record { newest = z; weights = row.weights }) none

-- ---- through an up

pub up_here : (rows : List Response) (step factor index : ℕ) (r : Response) → index / factor < length rows → get_or rows (index / factor) silent ≡ r → index % factor ≡ 0
    → r ≡ through_up factor (told rows step) (pos index)
up_here rows step factor index r below is none = rw (none, told_here rows step (index / factor) below) (sym is)

pub up_between : (rows : List Response) (step factor index : ℕ) (r : Response) → index / factor < length rows → get_or rows (index / factor) silent ≡ r → index % factor ≢ 0
    → record { newest = r.newest; weights = [] } ≡ through_up factor (told rows step) (pos index)
up_between rows step factor index r below is some =
    let at = told rows step (pos (index / factor)) in
    let here : at ≡ r = told_here rows step (index / factor) below ∙ is in
    ap (λ (z : ℤ). record { newest = z; weights = [] }) (sym (ap (λ (q : Response). q.newest) here))
    ∙ ap (λ (w : List ℤ). record { newest = at.newest; weights = w }) (sym (not_none (index % factor) at.weights some))
  where
    by_test : (m : ℕ) (w : List ℤ) (b : Bool) → m ≢ 0 → nat_eq m 0 ≡ b → cond b w [] ≡ []
    by_test m w true h e = absurd (h (eqb-true m 0 e))
    by_test m w false h e = refl

    not_none : (m : ℕ) (w : List ℤ) → m ≢ 0 → cond (nat_eq m 0) w [] ≡ []
    not_none m w h = by_test m w (nat_eq m 0) h refl

pub quotient_below : (index factor rows : ℕ) → 0 < factor → index < rows * factor → index / factor < rows
quotient_below index factor rows positive below = by_gap (index / factor - rows) (rows - index / factor) refl refl
  where
    by_gap : (d e : ℕ) → index / factor - rows ≡ d → rows - index / factor ≡ e → index / factor < rows
    by_gap d (suc e) is left = omega arith
    by_gap d zero is left =
        let at_least : rows * factor ≤ index / factor * factor = mul-le-mul_right factor (omega arith) in
        absurd (omega (arith, at_least, div-add-mod' index factor, below))

-- ---- through a down

pub down_place : (rows : List Response) (step factor index : ℕ) (r : Response) → 0 < length rows
    → get_or rows (index * factor % length rows) silent ≡ r
    → later (pos (index * factor / length rows * step)) r ≡ through_down factor (told rows step) (pos index)
down_place rows step factor index r some is =
    let place = index * factor in
    let at : pos index *ℤ pos factor ≡ pos (place / length rows) *ℤ pos (length rows) +ℤ pos (place % length rows) = omega (arith, ints, div-add-mod' place (length rows)) in
    let by : pos (place / length rows * step) ≡ pos (place / length rows) *ℤ pos step = omega (arith, ints) in
    ap (λ (z : ℤ). later z r) by ∙ ap (later (pos (place / length rows) *ℤ pos step)) (sym is)
    ∙ sym (told_at rows step (pos index *ℤ pos factor) (pos (place / length rows)) (place % length rows) (mod_below place (length rows) some) at)

-- the rounds before an index after a down are fewer than the samples' rounds
turns_below : (classes factor index : ℕ) → 0 < classes → index < classes / gcd classes factor → 0 < factor → index * factor / classes < factor / gcd classes factor
turns_below classes factor index some below positive = by_gap (factor / gcd classes factor - index * factor / classes) refl
  where
    turns : ℕ
    turns = factor / gcd classes factor

    rounds : ℕ
    rounds = index * factor / classes

    by_gap : (d : ℕ) → turns - rounds ≡ d → rounds < turns
    by_gap (suc d) is = omega arith
    by_gap zero is =
        let most : turns * classes ≤ rounds * classes = mul-le-mul_right classes (omega arith) in
        let last : (index + 1) * factor ≤ classes / gcd classes factor * factor = mul-le-mul_right factor (omega arith) in
        absurd (omega (arith, most, last, add-mul index 1 factor, div-add-mod' (index * factor) classes, common-turns classes factor, positive))

pub down_soon : (classes factor step index newest : ℕ) → 0 < classes → 0 < factor → index < classes / gcd classes factor → newest ≤ step
    → newest + index * factor / classes * step ≤ factor / gcd classes factor * step
down_soon classes factor step index newest some positive below soon =
    let last : (index * factor / classes + 1) * step ≤ factor / gcd classes factor * step = mul-le-mul_right step (omega (arith, turns_below classes factor index some below positive)) in
    omega (arith, last, add-mul (index * factor / classes) 1 step)

-- ---- before an index

gap-size : (z : ℤ) (a b : ℕ) → z ≡ pos a -ℤ pos b → size z ≡ a - b
gap-size (pos n) a b e = omega (arith, ints)
gap-size (negsuc n) a b e = omega (arith, ints)

neg-times : (a b : ℕ) → neg_ℤ (pos a) *ℤ pos b ≡ neg_ℤ (pos (a * b))
neg-times zero b = omega (arith, ints)
neg-times (suc a) b = omega (arith, ints)

pub before_is : (rows : List Response) (step index back class rounds : ℕ) (r : Response) → IsPlaceBefore (length rows) index back class rounds → get_or rows class silent ≡ r
    → told rows step (pos index -ℤ pos back) ≡ later (neg_ℤ (pos rounds) *ℤ pos step) r
before_is rows step index back class rounds r place is =
    let at : pos index -ℤ pos back ≡ neg_ℤ (pos rounds) *ℤ pos (length rows) +ℤ pos class = omega (arith, ints, place.is, neg-times rounds (length rows)) in
    told_at rows step (pos index -ℤ pos back) (neg_ℤ (pos rounds)) class place.below at ∙ ap (later (neg_ℤ (pos rounds) *ℤ pos step)) is

-- how many samples the response lies back
pub delay_is : (rows : List Response) (step index back class rounds : ℕ) (here r : Response) (a b : ℕ) → index < length rows → IsPlaceBefore (length rows) index back class rounds
    → get_or rows index silent ≡ here → get_or rows class silent ≡ r → here.newest ≡ pos a → r.newest ≡ pos b
    → size ((told rows step (pos index)).newest -ℤ (told rows step (pos index -ℤ pos back)).newest) ≡ a + rounds * step - b
delay_is rows step index back class rounds here r a b below place is_here is a_is b_is =
    let first = ap (λ (q : Response). q.newest) (told_here rows step index below ∙ is_here) in
    let second = ap (λ (q : Response). q.newest) (before_is rows step index back class rounds r place is) in
    gap-size ((told rows step (pos index)).newest -ℤ (told rows step (pos index -ℤ pos back)).newest) (a + rounds * step) b (omega (arith, ints, first, second, a_is, b_is, neg-times rounds step))

-- ---- what the code reads

pub row_of : (table : Table) (c : ℕ) (row : Row) → c < length table.rows.items → row ≡ get_or table.rows.items c row → get_or (rows_of table) c silent ≡ as_response row
row_of table c row below is = row_at table.rows.items c row below is

pub count_of : (table : Table) → length (rows_of table) ≡ length table.rows.items
count_of table = length-map table.rows.items as_response

pub ahead_row : (table : Table) (c : ℕ) (row : Row) → IsAhead table → c < length (rows_of table) → get_or (rows_of table) c silent ≡ as_response row → row.newest ≤ table.step
ahead_row table c row ahead below is =
    omega (arith, ints, ahead.each c below, ap (λ (r : Response). r.newest) (told_here (rows_of table) table.step c below ∙ is))

pub filter_row_is : (table : Table) (taps : List ℤ) (index left : ℕ) (row : Row) (weights : List ℤ) → index < length (rows_of table) → get_or (rows_of table) index silent ≡ as_response row → left ≡ 0
    → weights ≡ combined (responses_of table (pos index)).newest (drop left taps) (λ i. responses_of table (pos index -ℤ pos (left + i)))
    → record { newest = pos row.newest; weights = weights } ≡ through_filter taps (responses_of table) (pos index)
filter_row_is table taps index left row weights below is none sum =
    let f : ℕ → Response = λ k. responses_of table (pos index -ℤ pos k) in
    let here = ap (λ (r : Response). r.newest) (told_here (rows_of table) table.step index below ∙ is) in
    let newest = (responses_of table (pos index)).newest in
    ap (λ (z : ℤ). record { newest = z; weights = weights }) (sym here)
    ∙ ap (λ (zs : List ℤ). record { newest = newest; weights = zs }) (sum ∙ ap (λ (n : ℕ). combined newest (drop n taps) (λ i. f (n + i))) none ∙ combined-all newest taps f)

-- what a table becomes has a law of its own
pub table_after : (change : Responses → Responses) (turn : Cycle → Cycle) (before after : Table) (transform : Sequence → Sequence)
    → HasResponses transform (change (responses_of before)) (turn (cycle_of before)).classes (turn (cycle_of before)).step → Passes change turn before after → IsTable after
table_after change turn before after transform law p = record {
  transform = transform;
  law = subst (λ (f : Responses). HasResponses transform f (cycle_of after).classes (cycle_of after).step) (sym p.told)
      (subst (λ (q : Cycle). HasResponses transform (change (responses_of before)) q.classes q.step) (sym p.cycle) law);
}

pub sums_room : (width stages stage gain : ℕ) → 0 < width → stage < stages → width ^ stages * gain ≤ 2 ^ 126 → width * (width ^ stage * gain) ≤ 2 ^ 126
sums_room width stages stage gain some below room =
    let one : width * (width ^ stage * gain) ≡ width ^ suc stage * gain =
    sym (mul_assoc width (width ^ stage) gain) ∙ ap (λ (m : ℕ). m * gain) (mul_comm width (width ^ stage) ∙ sym (pow-suc width stage)) in
    omega (arith, one, mul-le-mul_right gain (pow-le-pow_right some below), room)
