-- When a tree over nodes may be built.
use Rattle.std.proofs.Common.{◌≡◌, ℕ, ◌+◌, ◌*◌, ◌^◌, ◌<◌, ◌≤◌, List, [], ◌∷◌, length, get_or, refl, sym, ◌∙◌, ap, arith, inl, inr, subst, ℤ, pos, ◌-ℤ◌, ◌+ℤ◌, ◌*ℤ◌, All, unsigned_abs, false, Some, slice_get}
use Rattle.std.proofs.lemmas.Bool.{cases_lt}
use Rattle.std.proofs.lemmas.Int.{ints, unsigned_abs-mul}
use Rattle.std.proofs.lemmas.List.Elements.{All-nil, All-cons, All-head, All-weaker}
use Rattle.std.proofs.lemmas.Option.{slice_get-get_or}
use Rattle.std.proofs.Math.Nat.{mul-le-mul_left, mul-le-mul_right}
use Rattle.mr_values.specs.Digit.{with_sign}
use Rattle.mr_values.specs.Sequence.{Sequence, weighted_sum, filter}
use Rattle.net_graph.specs.declared.cell.Cell.{Cell}
use Rattle.net_graph.specs.declared.cell.Node.{Node}
use Rattle.net_graph.specs.Cells.{cell_at}
use Rattle.signed_digit.specs.declared.term_list.Term.{Term}
use Rattle.signed_digit.specs.Terms.{term_sum}
use Rattle.pipeline_balance.specs.Leaves.{IsLeaf, IsNegatable}
use Rattle.stage_law.specs.Streams.{Streams, HasRoom, magnitudes}
use Rattle.fir_pieces.specs.declared.reading.Reading.{Reading}
use Rattle.fir_pieces.specs.declared.reading.Reading.TheVariants.{One, Sum, Difference}
use Rattle.fir_pieces.specs.Form.{form_of, one_value, reading_form}
use Rattle.stage_law.specs.declared.ranges.Class.{Class}
use Rattle.fir_pieces.specs.Held.{AreSmall, IsClassWidth}
use Rattle.fir_pieces.specs.Listed.{every}
use Rattle.fir_pieces.specs.Placed.{all_minus, leaf_of, powers}
use Rattle.fir_pieces.specs.Reading.{read, reading_at, spread, terms_at}
use Rattle.fir_pieces.specs.Sums.{IsReady}
use Rattle.fir_pieces.proofs.BoundLemmas.{sum_within, place_below, shift_room, width_small}
use Rattle.fir_pieces.proofs.FormLemmas.{abs_signed, abs_with_sign, magnitudes-weights_by}
use Rattle.fir_pieces.proofs.HeldLemmas.{weighted_sum-form, weighted_sum-reading}
use Rattle.fir_pieces.proofs.ReadingLemmas.{shown_by, values_in, powers-terms_at, each_spread}

-- the width of sums that have room when they are shifted
pub reached_room : (streams : Streams) (class : Class) (form : List ℤ) (w place room : ℕ) → IsClassWidth streams class form w → ((v : Sequence) → streams v → (k : ℕ) → unsigned_abs (filter form v (pos k)) * 2 ^ place ≤ 2 ^ room) → place ≤ 90 → 90 ≤ room → w + place ≤ room + 2
reached_room streams class form w place room f each low much =
    let a = f.is_range.low_reached in
    let b = f.is_range.high_reached in
    let first : unsigned_abs f.range.lo * 2 ^ place ≤ 2 ^ room = subst (λ (z : ℤ). unsigned_abs z * 2 ^ place ≤ 2 ^ room) a.is (each a.stream a.is_one a.index) in
    let second : unsigned_abs f.range.hi * 2 ^ place ≤ 2 ^ room = subst (λ (z : ℤ). unsigned_abs z * 2 ^ place ≤ 2 ^ room) b.is (each b.stream b.is_one b.index) in
    elim (cases_lt (unsigned_abs f.range.lo) (unsigned_abs f.range.hi)) [
      | inl less ↦ shift_room w place (unsigned_abs f.range.hi) (2 ^ place) (width_small f.range.lo f.range.hi w (unsigned_abs f.range.hi) f.least (omega arith) (omega arith)) (omega arith) low room second much
      | inr le ↦ shift_room w place (unsigned_abs f.range.lo) (2 ^ place) (width_small f.range.lo f.range.hi w (unsigned_abs f.range.lo) f.least (omega arith) (omega arith)) (omega arith) low room first much
    ]

-- a width is no more than the sums of a form over the streams need
pub record IsNoWider (streams : Streams) (form : List ℤ) (width : ℕ) : Type 0 where
  pub positive : 1 ≤ width
  pub room : (place room : ℕ) → ((v : Sequence) → streams v → (k : ℕ) → unsigned_abs (filter form v (pos k)) * 2 ^ place ≤ 2 ^ room) → place ≤ 90 → 90 ≤ room → width + place ≤ room + 2

-- as the least one
pub IsNoWider-least : (streams : Streams) (class : Class) (form : List ℤ) (width : ℕ) → IsClassWidth streams class form width → IsNoWider streams form width
IsNoWider-least streams class form width f = record { positive = f.least.positive; room = λ place room each low much. reached_room streams class form width place room f each low much }

some_value : (r : Reading) → 1 ≤ values_in r
some_value (One i) = omega arith
some_value (Sum i j) = omega arith
some_value (Difference i j) = omega arith

-- a value that is read of bounded values
read_within : (r : Reading) (f : ℕ → ℤ) (most : ℕ) → ((k : ℕ) → unsigned_abs (f k) ≤ most) → unsigned_abs (read r f) ≤ values_in r * most
read_within r f most h =
    let same : unsigned_abs (read r f) ≡ unsigned_abs (weighted_sum (reading_form r) f) = ap unsigned_abs (sym (weighted_sum-reading r f)) in
    let bound = sum_within (reading_form r) f most h in
    let few = magnitudes-weights_by false (terms_at r one_value) in
    let count = powers-terms_at r one_value in
    let less : magnitudes (reading_form r) ≤ values_in r = omega (arith, few, count) in
    let more : magnitudes (reading_form r) * most ≤ values_in r * most = mul-le-mul_right most less in
    omega (arith, same, bound, more)

-- A tree over these terms of what nodes show, whose sum is at most so many times as great as the values, and so are the powers of its terms.
module _ (streams : Streams) (readings : List Reading) (terms : List Term) (gain : ℕ) (places : All (λ (t : Term). t.index < length readings) terms) (sum : powers (spread readings terms) ≤ 2 * gain) (gain_small : gain ≤ 2 ^ 72) (few : length terms ≤ 2 ^ 18) (room : HasRoom streams gain)
    (within : (f : ℕ → ℤ) (most : ℕ) → ((k : ℕ) → unsigned_abs (f k) ≤ most) → unsigned_abs (term_sum (shown_by readings f) terms) ≤ gain * most) where
  double_room : room.most * (2 * gain) ≤ 2 ^ 126
  double_room =
      let after = room.after in
      let turned : room.most * (2 * gain) ≡ 2 * (gain * room.most) = omega arith in
      omega arith

  counted : All (λ (t : Term). values_in (reading_at readings t.index) * 2 ^ t.place ≤ 2 * gain) terms
  counted = each_spread readings terms (2 * gain) sum

  short_place : (t : Term) → values_in (reading_at readings t.index) * 2 ^ t.place ≤ 2 * gain → t.place ≤ 90
  short_place t h =
      let one : 1 * 2 ^ t.place ≤ values_in (reading_at readings t.index) * 2 ^ t.place = mul-le-mul_right (2 ^ t.place) (some_value (reading_at readings t.index)) in
      place_below t.place 90 (omega (arith, one, h, gain_small))

  short : All (λ (t : Term). t.place ≤ 90) terms
  short = All-weaker (λ (t : Term). values_in (reading_at readings t.index) * 2 ^ t.place ≤ 2 * gain) (λ (t : Term). t.place ≤ 90) short_place terms counted

  pub small_sums : AreSmall streams readings terms
  small_sums = record {
    places = places;
    short = short;
    small = omega (arith, sum, gain_small);
    few = omega (arith, few);
    most = room.most;
    within = room.within;
    room = let more : room.most * powers (spread readings terms) ≤ room.most * (2 * gain) = mul-le-mul_left room.most sum in let whole = double_room in omega (arith, more, whole);
  }

  sum_bound : (v : Sequence) → streams v → (k : ℕ) → unsigned_abs (term_sum (shown_by readings (λ i. v (pos k -ℤ pos i))) terms) ≤ 2 ^ 125
  sum_bound v is k =
      let bound = within (λ i. v (pos k -ℤ pos i)) room.most (λ i. room.within.each v is (pos k -ℤ pos i)) in
      let after = room.after in
      omega (arith, bound, after)

  -- the width of the root's sums at the values of any class has room for a sign
  pub root_room : (class : Class) (width : ℕ) → IsClassWidth streams class (form_of readings terms) width → width ≤ 127
  root_room class width w =
      let each : (v : Sequence) → streams v → (k : ℕ) → unsigned_abs (filter (form_of readings terms) v (pos k)) * 2 ^ 0 ≤ 2 ^ 125 =
      λ v is k.
      let f : ℕ → ℤ = λ i. v (pos k -ℤ pos i) in
      let same : unsigned_abs (filter (form_of readings terms) v (pos k)) ≡ unsigned_abs (term_sum (shown_by readings f) terms) = ap unsigned_abs (weighted_sum-form readings terms f) ∙ abs_signed (all_minus terms) (term_sum (shown_by readings f) terms) in
      let bound = sum_bound v is k in
      omega (arith, same, bound) in
      let narrow = reached_room streams class (form_of readings terms) width 0 125 w each (omega arith) (omega arith) in
      omega (arith, narrow)

  -- a node that is no wider than what it shows has room for the shifts of its terms
  pub leaf_room : (t : Term) → values_in (reading_at readings t.index) * 2 ^ t.place ≤ 2 * gain → (width : ℕ) → IsNoWider streams (reading_form (reading_at readings t.index)) width → width + t.place ≤ 128
  leaf_room t power width narrow =
      let r = reading_at readings t.index in
      let each : (v : Sequence) → streams v → (k : ℕ) → unsigned_abs (filter (reading_form r) v (pos k)) * 2 ^ t.place ≤ 2 ^ 126 =
      λ v is k.
      let f : ℕ → ℤ = λ i. v (pos k -ℤ pos i) in
      let same : unsigned_abs (filter (reading_form r) v (pos k)) ≡ unsigned_abs (read r f) = ap unsigned_abs (weighted_sum-reading r f) in
      let bound = read_within r f room.most (λ i. room.within.each v is (pos k -ℤ pos i)) in
      let scaled : unsigned_abs (filter (reading_form r) v (pos k)) * 2 ^ t.place ≤ values_in r * room.most * 2 ^ t.place = mul-le-mul_right (2 ^ t.place) (omega (arith, same, bound)) in
      let turned : values_in r * room.most * 2 ^ t.place ≡ room.most * (values_in r * 2 ^ t.place) = omega arith in
      let more : room.most * (values_in r * 2 ^ t.place) ≤ room.most * (2 * gain) = mul-le-mul_left room.most power in
      let whole = double_room in
      omega (arith, scaled, turned, more, whole) in
      let much = narrow.room t.place 126 each (short_place t power) (omega arith) in
      omega (arith, much)

  -- and for a sign, where it is the only one
  pub negated_room : (t : Term) → t ∷ [] ≡ terms → t.place ≤ 90 → (width : ℕ) → IsNoWider streams (reading_form (reading_at readings t.index)) width → width + t.place ≤ 127
  negated_room t e is_short width narrow =
      let r = reading_at readings t.index in
      let each : (v : Sequence) → streams v → (k : ℕ) → unsigned_abs (filter (reading_form r) v (pos k)) * 2 ^ t.place ≤ 2 ^ 125 =
      λ v is k.
      let f : ℕ → ℤ = λ i. v (pos k -ℤ pos i) in
      let same : unsigned_abs (filter (reading_form r) v (pos k)) ≡ unsigned_abs (read r f) = ap unsigned_abs (weighted_sum-reading r f) in
      let power = abs_with_sign t.negative (2 ^ t.place) in
      let product : unsigned_abs (with_sign t.negative (2 ^ t.place) *ℤ read r f) ≡ unsigned_abs (with_sign t.negative (2 ^ t.place)) * unsigned_abs (read r f) = unsigned_abs-mul (with_sign t.negative (2 ^ t.place)) (read r f) in
      let sum_is : unsigned_abs (with_sign t.negative (2 ^ t.place) *ℤ read r f) ≡ unsigned_abs (term_sum (shown_by readings f) terms) = ap unsigned_abs (sym (alone (with_sign t.negative (2 ^ t.place) *ℤ read r f))) ∙ ap (λ (us : List Term). unsigned_abs (term_sum (shown_by readings f) us)) e in
      let bound = sum_bound v is k in
      let first : unsigned_abs (filter (reading_form r) v (pos k)) * 2 ^ t.place ≡ unsigned_abs (read r f) * 2 ^ t.place = ap (λ (n : ℕ). n * 2 ^ t.place) same in
      let second : unsigned_abs (with_sign t.negative (2 ^ t.place)) * unsigned_abs (read r f) ≡ 2 ^ t.place * unsigned_abs (read r f) = ap (λ (n : ℕ). n * unsigned_abs (read r f)) power in
      omega (arith, first, second, product, sum_is, bound) in
      let much = narrow.room t.place 125 each is_short (omega arith) in
      omega (arith, much)
    where
      alone : (z : ℤ) → z +ℤ pos 0 ≡ z
      alone z = omega (arith, ints)

  pub term_powers : All (λ (t : Term). values_in (reading_at readings t.index) * 2 ^ t.place ≤ 2 * gain) terms
  term_powers = counted

  pub term_places : All (λ (t : Term). t.place ≤ 90) terms
  term_places = short

  module _ (cells : List Cell) (nodes : List Node) (many : length nodes ≡ length readings)
      (wide : (k : ℕ) (node : Node) → slice_get nodes k ≡ Some node → (node.place < length cells) × IsNoWider streams (reading_form (reading_at readings k)) (cell_at cells node.place).width) where
    node_of : (t : Term) → t.index < length readings → ((leaf_of nodes t).node.place < length cells) × IsNoWider streams (reading_form (reading_at readings t.index)) (cell_at cells (leaf_of nodes t).node.place).width
    node_of t h = wide t.index (leaf_of nodes t).node (slice_get-get_or nodes t.index (record { place = 0 }) (omega (arith, h, many)))

    both : (P Q R : Term → Type 0) → ((t : Term) → P t → Q t → R t) → (ts : List Term) → All P ts → All Q ts → All R ts
    both P Q R f ts p q = λ k d h. f (get_or ts k d) (p k d h) (q k d h)

    -- each term is a leaf
    all_leaves : All (λ (t : Term). IsLeaf cells (leaf_of nodes t)) terms
    all_leaves = both (λ (t : Term). t.index < length readings) (λ (t : Term). values_in (reading_at readings t.index) * 2 ^ t.place ≤ 2 * gain) (λ (t : Term). IsLeaf cells (leaf_of nodes t))
        (λ t h power.
        let node = node_of t h in
        let much = leaf_room t power (cell_at cells (leaf_of nodes t).node.place).width node.1 in
        record { within = node.0; wide = node.1.positive; shifts = omega (arith, much) })
        terms places counted

    -- one negative term has room for a sign
    one_negatable : (ts : List Term) → ts ≡ terms → length ts ≤ 1 → All (λ (t : Term). IsNegatable cells (leaf_of nodes t)) ts
    one_negatable [] e few_ts = All-nil (λ (t : Term). IsNegatable cells (leaf_of nodes t))
    one_negatable (t ∷ u ∷ ts) e few_ts = absurd (omega arith)
    one_negatable (t ∷ []) e few_ts =
        let is_place : t.index < length readings = All-head (λ (u : Term). u.index < length readings) t [] (subst (λ (us : List Term). All (λ (u : Term). u.index < length readings) us) (sym e) places) in
        let is_short : t.place ≤ 90 = All-head (λ (u : Term). u.place ≤ 90) t [] (subst (λ (us : List Term). All (λ (u : Term). u.place ≤ 90) us) (sym e) short) in
        let node = node_of t is_place in
        let much = negated_room t e is_short (cell_at cells (leaf_of nodes t).node.place).width node.1 in
        All-cons (λ (x : Term). IsNegatable cells (leaf_of nodes x)) t [] (record { room = omega (arith, much) }) (All-nil (λ (x : Term). IsNegatable cells (leaf_of nodes x)))

    pub tree_ready : (levels : ℕ) → length terms ≤ 2 ^ levels → levels ≤ 31 → IsReady streams cells nodes readings terms levels
    tree_ready levels deep low = record {
      many = many;
      leaves = all_leaves;
      negatable = λ all none. let one : 2 ^ levels ≡ 1 = ap (λ (n : ℕ). 2 ^ n) none in one_negatable terms refl (omega (arith, deep, one));
      fits = small_sums;
      deep = deep;
      low = low;
      root = λ all. root_room every;
    }
