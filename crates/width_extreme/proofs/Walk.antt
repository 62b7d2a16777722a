-- The weights of a sum, place by place, over the rows that reach a place.
use Rattle.std.proofs.Common.{◌≡◌, ℕ, zero, suc, ◌+◌, ◌-◌, ◌*◌, ◌/◌, ◌%◌, ◌^◌, ◌<◌, ◌≤◌, List, [], ◌∷◌, length, drop, get_or, map, ℤ, pos, negsuc, unsigned_abs, ◌+ℤ◌, ◌-ℤ◌, ◌*ℤ◌, ◌≤ℤ◌, arith, refl, sym, ◌∙◌, ap, subst, length-drop}
use Rattle.std.proofs.lemmas.Int.{ints, unsigned_abs-mul}
use Rattle.std.proofs.Math.Nat.{div-le_self, mul-le-mul_left, mul-le-mul_right, mul_comm, mul-add}
use Rattle.std.proofs.lemmas.Nat.{div-add-mod', mod_below}
use Rattle.std.proofs.lemmas.List.{get_or_past, drop_more, drop_all}
use Rattle.mr_values.specs.Sequence.{weighted_sum}
use Rattle.mr_values.specs.Value.{size}
use Rattle.mr_values.proofs.Division.{floor_remainder_below}
use Rattle.mr_values.proofs.Polyphase.{weighted_sum-same}
use Rattle.impulse_phase.specs.declared.table.Row.{Row}
use Rattle.impulse_phase.specs.declared.table.Response.{Response as Table}
use Rattle.impulse_phase.specs.Response.{Response}
use Rattle.impulse_phase.specs.Reading.{as_response, silent, rows_of, responses_of}
use Rattle.impulse_phase.proofs.Gain.{behind_before, behind_after}
use Rattle.impulse_phase.proofs.Places.{combined-place}
use Rattle.impulse_phase.proofs.Tables.{before_is, delay_is}
use Rattle.span_ranges.proofs.SumLemmas.{room_more}
use Rattle.stage_law.specs.Rising.{blank, behind_at, factors_in, AreRising, factors_from}
use Rattle.stage_law.specs.Streams.{magnitudes}
use Rattle.stage_law.specs.declared.weights.Weight.{Weight}
use Rattle.stage_law.proofs.WeightLemmas.{sum-in, count-in}
use Rattle.width_extreme.specs.Walk.{AreSmall, IsLawful, IsLongest, delay_at, weight_back, weights_at, IsEntry}

-- ---- the weight at a place

pub place-weight : (table : Table) (ws : List Weight) (index place : ℕ) → AreRising ws
    → get_or (weights_at table (factors_from 0 ws) index) place (pos 0) ≡ weighted_sum (factors_in ws) (λ k. weight_back table index place (behind_at ws k))
place-weight table ws index place rises =
    combined-place (responses_of table (pos index)).newest (factors_from 0 ws) (λ k. responses_of table (pos index -ℤ pos k)) place
    ∙ sum-in ws (λ k. weight_back table index place k) rises

pub sum-of_zeros : (factors : List ℤ) (f : ℕ → ℤ) → ((k : ℕ) → k < length factors → f k ≡ pos 0) → weighted_sum factors f ≡ pos 0
sum-of_zeros [] f h = refl
sum-of_zeros (c ∷ cs) f h =
    let first = ap (λ (z : ℤ). c *ℤ z) (h zero (omega arith)) in
    omega (arith, ints, first, sum-of_zeros cs (λ k. f (suc k)) (λ k below. h (suc k) (omega arith)))

-- the first factors, whose weights are 0, left out
pub sum-drop : (start : ℕ) (factors : List ℤ) (f : ℕ → ℤ) → ((k : ℕ) → k < start → f k ≡ pos 0) → weighted_sum factors f ≡ weighted_sum (drop start factors) (λ k. f (start + k))
sum-drop zero factors f h = weighted_sum-same factors _ _ (λ k. ap f (omega arith))
sum-drop (suc start) [] f h = refl
sum-drop (suc start) (c ∷ cs) f h =
    let first = ap (λ (z : ℤ). c *ℤ z) (h zero (omega arith)) in
    let rest = sum-drop start cs (λ k. f (suc k)) (λ k below. h (suc k) (omega arith))
    ∙ weighted_sum-same (drop start cs) (λ k. f (suc (start + k))) (λ k. f (suc start + k)) (λ k. ap f (omega arith)) in
    omega (arith, ints, first, rest)

-- ---- which rows reach a place

pub too_early : (table : Table) (index place back : ℕ) → place < delay_at table index back → weight_back table index place back ≡ pos 0
too_early table index place back h = behind_before (delay_at table index back) (responses_of table (pos index -ℤ pos back)).weights place h

pub at_place : (table : Table) (index place back : ℕ) → delay_at table index back ≤ place
    → weight_back table index place back ≡ get_or (responses_of table (pos index -ℤ pos back)).weights (place - delay_at table index back) (pos 0)
at_place table index place back h = behind_after (delay_at table index back) (responses_of table (pos index -ℤ pos back)).weights place h

pub too_late : (table : Table) (longest index place back : ℕ) → ((n : ℤ) → length (responses_of table n).weights ≤ longest) → delay_at table index back + longest ≤ place
    → weight_back table index place back ≡ pos 0
too_late table longest index place back most h =
    at_place table index place back (omega arith)
    ∙ get_or_past (responses_of table (pos index -ℤ pos back)).weights (place - delay_at table index back) (pos 0) (omega (arith, most (pos index -ℤ pos back)))

size-le : (x y : ℤ) → x ≤ℤ y → size x ≤ size y
size-le (pos m) (pos n) h = omega (arith, ints)
size-le (pos m) (negsuc n) h = absurd (omega (arith, ints))
size-le (negsuc m) y h = omega arith

pub delays-rise : (table : Table) (index a b : ℕ) → IsLawful table → a ≤ b → delay_at table index a ≤ delay_at table index b
delays-rise table index a b law h =
    let at : pos index -ℤ pos a -ℤ pos (b - a) ≡ pos index -ℤ pos b = omega (arith, ints) in
    let before = subst (λ (z : ℤ). (responses_of table z).newest ≤ℤ (responses_of table (pos index -ℤ pos a)).newest) at (law.ordered (pos index -ℤ pos a) (b - a)) in
    size-le ((responses_of table (pos index)).newest -ℤ (responses_of table (pos index -ℤ pos a)).newest) ((responses_of table (pos index)).newest -ℤ (responses_of table (pos index -ℤ pos b)).newest)
    (omega (arith, ints, before))

-- ---- an entry

pub entry-delay : (table : Table) (index back class late a b : ℕ) → index < length (rows_of table) → IsEntry table index back class late
    → (get_or (rows_of table) index silent).newest ≡ pos a → (get_or (rows_of table) class silent).newest ≡ pos b → delay_at table index back ≡ late - b
entry-delay table index back class late a b below e here there =
    let rows = rows_of table in
    let sum : a + e.rounds * table.step ≡ late = omega (arith, ints, e.late_is, here) in
    delay_is rows table.step index back class e.rounds (get_or rows index silent) (get_or rows class silent) a b below e.place refl refl here there ∙ ap (λ (n : ℕ). n - b) sum

pub entry-weights : (table : Table) (index back class late : ℕ) → IsEntry table index back class late
    → (responses_of table (pos index -ℤ pos back)).weights ≡ (get_or (rows_of table) class silent).weights
entry-weights table index back class late e =
    ap (λ (r : Response). r.weights) (before_is (rows_of table) table.step index back class e.rounds (get_or (rows_of table) class silent) e.place refl)

pub next_class : (table : Table) (index back class late next : ℕ) → IsEntry table index back class late → suc next ≡ class → IsEntry table index (back + 1) next late
next_class table index back class late next e is = record {
  rounds = e.rounds;
  place = record { below = omega (arith, e.place.below); few = omega (arith, e.place.few); is = omega (arith, e.place.is) };
  late_is = e.late_is;
  most = omega (arith, e.most);
}

pub next_round : (table : Table) (index back class late last : ℕ) → IsEntry table index back class late → class ≡ 0 → suc last ≡ length (rows_of table)
    → IsEntry table index (back + 1) last (late + table.step)
next_round table index back class late last e none is = record {
  rounds = e.rounds + 1;
  place = record { below = omega arith; few = omega (arith, e.place.few); is = omega (arith, e.place.is, more e.rounds (length (rows_of table))) };
  late_is = omega (arith, ints, e.late_is, more e.rounds table.step);
  most = omega (arith, e.most, table.soon);
}
  where
    more : (n m : ℕ) → (n + 1) * m ≡ n * m + m
    more n m = omega arith

-- each response is that of a row, at another time
pub longest-everywhere : (table : Table) (longest : ℕ) → 0 < length (rows_of table) → IsLongest table longest → (n : ℤ) → length (responses_of table n).weights ≤ longest
longest-everywhere table longest some h n = h.each _ (floor_remainder_below n (length (rows_of table)) some)

pub late-room : (table : Table) (index back class late : ℕ) → IsEntry table index back class late → back < 2 ^ 66 → late + table.step < 2 ^ 128
late-room table index back class late e near = omega (arith, e.most, table.soon)

-- ---- the index so many values before

rounds-most : (rounds back step newest : ℕ) → rounds ≤ back + 1 → step < 2 ^ 32 → newest < 2 ^ 32 → newest + rounds * step ≤ (back + 2) * 2 ^ 32
rounds-most rounds back step newest few small early =
    let first : rounds * step ≤ (back + 1) * step = mul-le-mul_right step few in
    let second : (back + 1) * step ≤ (back + 1) * 2 ^ 32 = mul-le-mul_left (back + 1) (omega arith) in
    omega (arith, first, second)

pub first_near : (table : Table) (index back newest classes step : ℕ) → index < length (rows_of table) → classes ≡ length (rows_of table) → step ≡ table.step
    → pos newest ≡ (get_or (rows_of table) index silent).newest → newest < 2 ^ 32 → back % classes ≤ index
    → IsEntry table index back (index - back % classes) (newest + back / classes * step)
first_near table index back newest classes step below many is here early h =
    let split = div-add-mod' back classes in
    let same : back / classes * classes ≡ back / classes * length (rows_of table) = ap (λ (n : ℕ). back / classes * n) many in
    let steps : back / classes * step ≡ back / classes * table.step = ap (λ (n : ℕ). back / classes * n) is in
    record {
      rounds = back / classes;
      place = record { below = omega arith; few = omega (arith, div-le_self back classes); is = omega (arith, split, same) };
      late_is = omega (arith, ints, here, steps);
      most = rounds-most (back / classes) back step newest (omega (arith, div-le_self back classes)) (omega (arith, is, table.soon)) early;
    }

pub first_far : (table : Table) (index back newest classes step : ℕ) → index < length (rows_of table) → classes ≡ length (rows_of table) → step ≡ table.step
    → pos newest ≡ (get_or (rows_of table) index silent).newest → newest < 2 ^ 32 → index < back % classes
    → IsEntry table index back (index + (classes - back % classes)) (newest + (back / classes + 1) * step)
first_far table index back newest classes step below many is here early h =
    let split = div-add-mod' back classes in
    let rest = mod_below back classes (omega (arith, many)) in
    let same : (back / classes + 1) * classes ≡ (back / classes + 1) * length (rows_of table) = ap (λ (n : ℕ). (back / classes + 1) * n) many in
    let one : (back / classes + 1) * classes ≡ back / classes * classes + classes = omega arith in
    let steps : (back / classes + 1) * step ≡ (back / classes + 1) * table.step = ap (λ (n : ℕ). (back / classes + 1) * n) is in
    record {
      rounds = back / classes + 1;
      place = record { below = omega (arith, many, rest); few = omega (arith, div-le_self back classes); is = omega (arith, split, same, one, rest) };
      late_is = omega (arith, ints, here, steps);
      most = rounds-most (back / classes + 1) back step newest (omega (arith, div-le_self back classes)) (omega (arith, is, table.soon)) early;
    }

-- ---- a loop over the factors

pub weight-more : (factors : List ℤ) (i : ℕ) (f : ℕ → ℤ) (c weight term next whole : ℤ) → i < length factors → c ≡ get_or factors i (pos 0) → term ≡ f i → next ≡ weight +ℤ c *ℤ term
    → weight +ℤ weighted_sum (drop i factors) (λ k. f (i + k)) ≡ whole → next +ℤ weighted_sum (drop (i + 1) factors) (λ k. f (i + 1 + k)) ≡ whole
weight-more factors i f c weight term next whole below is t n so_far =
    let head : drop i factors ≡ get_or factors i (pos 0) ∷ drop (i + 1) factors = drop_more factors i (pos 0) below in
    let split : weighted_sum (drop i factors) (λ k. f (i + k)) ≡ get_or factors i (pos 0) *ℤ f (i + 0) +ℤ weighted_sum (drop (i + 1) factors) (λ k. f (i + suc k)) =
    ap (λ (cs : List ℤ). weighted_sum cs (λ k. f (i + k))) head in
    let product : get_or factors i (pos 0) *ℤ f (i + 0) ≡ c *ℤ term = ap (λ (z : ℤ). z *ℤ f (i + 0)) (sym is) ∙ ap (λ (z : ℤ). c *ℤ z) (ap f (omega arith) ∙ sym t) in
    let rest : weighted_sum (drop (i + 1) factors) (λ k. f (i + suc k)) ≡ weighted_sum (drop (i + 1) factors) (λ k. f (i + 1 + k)) =
    weighted_sum-same (drop (i + 1) factors) (λ k. f (i + suc k)) (λ k. f (i + 1 + k)) (λ k. ap f (omega arith)) in
    omega (arith, ints, split, product, rest, n, so_far)

pub weight-all : (factors : List ℤ) (i : ℕ) (f : ℕ → ℤ) (weight whole : ℤ) → length factors ≤ i → weight +ℤ weighted_sum (drop i factors) (λ k. f (i + k)) ≡ whole → weight ≡ whole
weight-all factors i f weight whole past so_far =
    let none : weighted_sum (drop i factors) (λ k. f (i + k)) ≡ pos 0 = ap (λ (cs : List ℤ). weighted_sum cs (λ k. f (i + k))) (drop_all i factors past) in
    omega (arith, ints, none, so_far)

rising-same : (ws : List Weight) (i j d : ℕ) → AreRising ws → j - i ≡ d → i ≤ j → j < length ws → behind_at ws i ≤ behind_at ws j
rising-same ws i j zero h e from below = let same : i ≡ j = omega arith in omega (arith, ap (behind_at ws) same)
rising-same ws i j (suc d) h e from below = omega (arith, h.each i j (omega arith) below)

pub behind-rises : (ws : List Weight) (i j : ℕ) → AreRising ws → i ≤ j → j < length ws → behind_at ws i ≤ behind_at ws j
behind-rises ws i j h from below = rising-same ws i j (j - i) h refl from below

-- no later factor reaches the place
pub weight-stops : (table : Table) (index place i : ℕ) (ws : List Weight) (weight whole : ℤ) → IsLawful table → AreRising ws → place < delay_at table index (behind_at ws i)
    → weight +ℤ weighted_sum (drop i (factors_in ws)) (λ k. weight_back table index place (behind_at ws (i + k))) ≡ whole → weight ≡ whole
weight-stops table index place i ws weight whole law rises early so_far =
    let none : weighted_sum (drop i (factors_in ws)) (λ k. weight_back table index place (behind_at ws (i + k))) ≡ pos 0 =
    sum-of_zeros (drop i (factors_in ws)) (λ k. weight_back table index place (behind_at ws (i + k)))
    (λ k below. too_early table index place (behind_at ws (i + k))
    (omega (arith, early, delays-rise table index (behind_at ws i) (behind_at ws (i + k)) law (behind-rises ws i (i + k) rises (omega arith) (omega (arith, below, length-drop i (factors_in ws), count-in ws)))))) in
    omega (arith, ints, none, so_far)

pub weight_back-small : (table : Table) (most index place back : ℕ) → AreSmall table most → unsigned_abs (weight_back table index place back) ≤ most
weight_back-small table most index place back small = by_gap (suc place - delay_at table index back) refl
  where
    by_gap : (d : ℕ) → suc place - delay_at table index back ≡ d → unsigned_abs (weight_back table index place back) ≤ most
    by_gap zero e = omega (arith, ap unsigned_abs (too_early table index place back (omega arith)))
    by_gap (suc d) e =
        omega (arith, ap unsigned_abs (at_place table index place back (omega arith)), small.each (pos index -ℤ pos back) (place - delay_at table index back))

pub product-room : (factors : List ℤ) (i most : ℕ) (c term weight : ℤ) → i < length factors → c ≡ get_or factors i (pos 0) → unsigned_abs term ≤ most
    → unsigned_abs weight + most * magnitudes (drop i factors) ≤ 2 ^ 126 → unsigned_abs weight + unsigned_abs c * unsigned_abs term ≤ 2 ^ 126
product-room factors i most c term weight below is small room =
    let head = ap magnitudes (drop_more factors i (pos 0) below) in
    let split : most * magnitudes (drop i factors) ≡ most * (unsigned_abs c + magnitudes (drop (i + 1) factors)) =
    ap (λ (n : ℕ). most * n) (head ∙ ap (λ (z : ℤ). unsigned_abs z + magnitudes (drop (i + 1) factors)) (sym is)) in
    let product = mul-le-mul_left (unsigned_abs c) small in
    omega (arith, split, product, mul_comm (unsigned_abs c) most, mul-add most (unsigned_abs c) (magnitudes (drop (i + 1) factors)), room)

pub room-left : (factors : List ℤ) (i most : ℕ) (c term weight next : ℤ) → i < length factors → c ≡ get_or factors i (pos 0) → unsigned_abs term ≤ most → next ≡ weight +ℤ c *ℤ term
    → unsigned_abs weight + most * magnitudes (drop i factors) ≤ 2 ^ 126 → unsigned_abs next + most * magnitudes (drop (i + 1) factors) ≤ 2 ^ 126
room-left factors i most c term weight next below is small n room =
    room_more factors i most c weight (c *ℤ term) next below is (omega (arith, unsigned_abs-mul c term, mul-le-mul_left (unsigned_abs c) small)) n room

pub term-is : (table : Table) (index place back at class late delay : ℕ) (term : ℤ) → IsEntry table index back class late → delay ≡ delay_at table index back → delay ≤ place → back ≡ at
    → term ≡ get_or (get_or (rows_of table) class silent).weights (place - delay) (pos 0) → term ≡ weight_back table index place at
term-is table index place back at class late delay term e is reached same t =
    t
    ∙ ap (λ (n : ℕ). get_or (get_or (rows_of table) class silent).weights (place - n) (pos 0)) is
    ∙ ap (λ (ws : List ℤ). get_or ws (place - delay_at table index back) (pos 0)) (sym (entry-weights table index back class late e))
    ∙ sym (at_place table index place back (omega (arith, is)))
    ∙ ap (weight_back table index place) same

-- the newest sample of a row is one
pub newest-pos : (table : Table) (class : ℕ) → class < length (rows_of table) → (n : ℕ) × ((get_or (rows_of table) class silent).newest ≡ pos n)
newest-pos table class below = at table.rows.items class below
  where
    at : (rows : List Row) (class : ℕ) → class < length (map as_response rows) → (n : ℕ) × ((get_or (map as_response rows) class silent).newest ≡ pos n)
    at [] class h = absurd (omega arith)
    at (row ∷ rows) zero h = (row.newest, refl)
    at (row ∷ rows) (suc class) h = at rows class (omega arith)

-- a weight that was read
pub read-weight : (ws : List Weight) (i : ℕ) (w : Weight) → i < length ws → w ≡ get_or ws i w → w ≡ get_or ws i blank
read-weight [] i w h e = absurd (omega arith)
read-weight (u ∷ ws) zero w h e = e
read-weight (u ∷ ws) (suc i) w h e = read-weight ws i w (omega arith) e
