-- A walk over the places of a sum's weights: what it has summed, and what is left.
use Rattle.std.proofs.Common.{◌≡◌, ℕ, zero, suc, ◌+◌, ◌-◌, ◌*◌, ◌^◌, ◌<◌, ◌≤◌, max, List, [], ◌∷◌, length, take, drop, get_or, ℤ, pos, negsuc, unsigned_abs, ◌+ℤ◌, ◌*ℤ◌, arith, refl, sym, ◌∙◌, ap, subst}
use Rattle.std.proofs.Math.Nat.{mul-le-mul_left}
use Rattle.std.proofs.lemmas.Int.{ints}
use Rattle.mr_values.specs.Width.{FitsWidth}
use Rattle.mr_values.specs.Sequence.{Sequence, filter, weighted_sum}
use Rattle.mr_values.specs.Timing.{least_term, low_end}
use Rattle.stage_law.specs.Streams.{AreWithin, magnitudes}
use Rattle.impulse_phase.specs.declared.table.Response.{Response as Table}
use Rattle.impulse_phase.specs.Response.{Responses, through_filter, HasResponses}
use Rattle.impulse_phase.specs.Reading.{rows_of, responses_of}
use Rattle.impulse_phase.proofs.Steps.{filter-keeps}
use Rattle.width_extreme.specs.Prefix.{IsStream, least_sample, greatest_sample}
use Rattle.width_extreme.specs.Walk.{transform_of, IsLawful, IsLongest, delay_at, weight_back, weights_at, HasRoomLeft, HasFormRoom, HasTermRoom}
use Rattle.width_extreme.proofs.Bounds.{form-within, weights-small, term-within, end-within}
use Rattle.width_extreme.proofs.Lawful.{table-law, rows-some}
use Rattle.width_extreme.proofs.Ranges.{least-fits, greatest-fits}
use Rattle.stage_law.specs.Rising.{behind_at, factors_in, AreRising, factors_from}
use Rattle.stage_law.specs.declared.weights.Weight.{Weight}
use Rattle.stage_law.proofs.WeightLemmas.{magnitudes-in, count-in}
use Rattle.width_extreme.proofs.Walk.{place-weight, sum-of_zeros, sum-drop, behind-rises, too_early, too_late, delays-rise, longest-everywhere}

-- ---- ends, place by place

pub end-next : (cs : List ℤ) (low high : ℤ) (k : ℕ) → low_end (take (suc k) cs) low high ≡ low_end (take k cs) low high +ℤ least_term low high (get_or cs k (pos 0))
end-next [] low high zero = omega (arith, ints)
end-next [] low high (suc k) = omega (arith, ints)
end-next (c ∷ cs) low high zero = omega (arith, ints)
end-next (c ∷ cs) low high (suc k) = omega (arith, ints, end-next cs low high k)

end-still : (cs : List ℤ) (low high : ℤ) (m d : ℕ) → ((k : ℕ) → m ≤ k → k < m + d → get_or cs k (pos 0) ≡ pos 0) → low_end (take (m + d) cs) low high ≡ low_end (take m cs) low high
end-still cs low high m zero h = ap (λ (n : ℕ). low_end (take n cs) low high) (omega arith)
end-still cs low high m (suc d) h =
    let next : m + suc d ≡ suc (m + d) = omega arith in
    let none : least_term low high (get_or cs (m + d) (pos 0)) ≡ pos 0 = ap (least_term low high) (h (m + d) (omega arith) (omega arith)) ∙ omega (arith, ints) in
    ap (λ (n : ℕ). low_end (take n cs) low high) next
    ∙ omega (arith, ints, end-next cs low high (m + d), none, end-still cs low high m d (λ k from below. h k from (omega arith)))

take-past : (cs : List ℤ) (k : ℕ) → length cs ≤ k → take k cs ≡ cs
take-past [] zero h = refl
take-past [] (suc k) h = refl
take-past (c ∷ cs) zero h = absurd (omega arith)
take-past (c ∷ cs) (suc k) h = ap (λ (xs : List ℤ). c ∷ xs) (take-past cs k (omega arith))

end-all : (cs : List ℤ) (low high : ℤ) (m : ℕ) → ((k : ℕ) → m ≤ k → get_or cs k (pos 0) ≡ pos 0) → low_end (take m cs) low high ≡ low_end cs low high
end-all cs low high m h =
    sym (end-still cs low high m (length cs) (λ k from below. h k from)) ∙ ap (λ (xs : List ℤ). low_end xs low high) (take-past cs (m + length cs) (omega arith))

-- ---- the walk

-- The entries before `start` reach no place from `place` on, and the sums are those of the places before it.
pub record IsWalked (table : Table) (width longest index : ℕ) (ws : List Weight) (start place : ℕ) (lo hi : ℤ) : Type 0 where
  pub within : start ≤ length ws
  pub near : place ≤ 2 ^ 101
  pub spent : (k : ℕ) → k < start → delay_at table index (behind_at ws k) + longest ≤ place
  pub low : lo ≡ low_end (take place (weights_at table (factors_from 0 ws) index)) (least_sample width) (greatest_sample width)
  pub high : hi ≡ low_end (take place (weights_at table (factors_from 0 ws) index)) (greatest_sample width) (least_sample width)

module _ (table : Table) (longest index : ℕ) (ws : List Weight) (law : IsLawful table) (long : IsLongest table longest) (rises : AreRising ws) where
  -- no weight stands between the entries that are spent and the next one
  between : (start place next : ℕ) → ((k : ℕ) → k < start → delay_at table index (behind_at ws k) + longest ≤ place) → place ≤ next → next < delay_at table index (behind_at ws start)
      → get_or (weights_at table (factors_from 0 ws) index) next (pos 0) ≡ pos 0
  between start place next spent from early =
      place-weight table ws index next rises ∙ sum-of_zeros (factors_in ws) (λ k. weight_back table index next (behind_at ws k)) (λ k below. at k (start - k) (omega (arith, below, count-in ws)) refl)
    where
      at : (k d : ℕ) → k < length ws → start - k ≡ d → weight_back table index next (behind_at ws k) ≡ pos 0
      at k (suc d) below e = too_late table longest index next (behind_at ws k) (longest-everywhere table longest (rows-some table) long) (omega (arith, spent k (omega arith)))
      at k zero below e = too_early table index next (behind_at ws k) (omega (arith, early, delays-rise table index (behind_at ws start) (behind_at ws k) law (behind-rises ws start k rises (omega arith) below)))

  -- nor after the last one
  beyond : (start place next : ℕ) → ((k : ℕ) → k < start → delay_at table index (behind_at ws k) + longest ≤ place) → place ≤ next → length ws ≤ start
      → get_or (weights_at table (factors_from 0 ws) index) next (pos 0) ≡ pos 0
  beyond start place next spent from past =
      place-weight table ws index next rises
      ∙ sum-of_zeros (factors_in ws) (λ k. weight_back table index next (behind_at ws k))
      (λ k below. too_late table longest index next (behind_at ws k) (longest-everywhere table longest (rows-some table) long) (omega (arith, spent k (omega (arith, below, count-in ws)))))

  -- the weight at the next place, from the entries that reach it
  pub weight-here : (start place next : ℕ) → ((k : ℕ) → k < start → delay_at table index (behind_at ws k) + longest ≤ place) → place ≤ next
      → weighted_sum (drop start (factors_in ws)) (λ k. weight_back table index next (behind_at ws (start + k))) ≡ get_or (weights_at table (factors_from 0 ws) index) next (pos 0)
  weight-here start place next spent from =
      sym (sum-drop start (factors_in ws) (λ k. weight_back table index next (behind_at ws k))
      (λ k below. too_late table longest index next (behind_at ws k) (longest-everywhere table longest (rows-some table) long) (omega (arith, spent k (omega arith)))))
      ∙ sym (place-weight table ws index next rises)

-- the walk at its start
pub walk-starts : (table : Table) (width longest index : ℕ) (ws : List Weight) → IsWalked table width longest index ws 0 0 (pos 0) (pos 0)
walk-starts table width longest index ws = record { within = omega arith; near = omega arith; spent = λ k below. absurd (omega arith); low = refl; high = refl }

-- one entry more is spent
pub walk-passes : (table : Table) (width longest index : ℕ) (ws : List Weight) (start place back delay : ℕ) (lo hi : ℤ) → IsWalked table width longest index ws start place lo hi
    → start < length ws → back ≡ behind_at ws start → delay ≡ delay_at table index back → delay + longest ≤ place → IsWalked table width longest index ws (start + 1) place lo hi
walk-passes table width longest index ws start place back delay lo hi w below below_is at past = record {
  within = omega arith;
  near = w.near;
  spent = λ k less. by k less (start - k) refl;
  low = w.low;
  high = w.high;
}
  where
    by : (k : ℕ) → k < start + 1 → (d : ℕ) → start - k ≡ d → delay_at table index (behind_at ws k) + longest ≤ place
    by k less (suc d) e = w.spent k (omega arith)
    by k less zero e =
        let same : k ≡ start = omega arith in
        let here : behind_at ws k ≡ back = ap (behind_at ws) same ∙ sym below_is in
        omega (arith, at, past, ap (delay_at table index) here)

pub walk-weighs : (table : Table) (width longest index : ℕ) (ws : List Weight) (start place next : ℕ) (weight lo hi : ℤ) → IsLawful table → IsLongest table longest → AreRising ws
    → IsWalked table width longest index ws start place lo hi → place ≤ next
    → weight ≡ weighted_sum (drop start (factors_in ws)) (λ k. weight_back table index next (behind_at ws (start + k))) → weight ≡ get_or (weights_at table (factors_from 0 ws) index) next (pos 0)
walk-weighs table width longest index ws start place next weight lo hi law long rises w from sum =
    sum ∙ weight-here table longest index ws law long rises start place next w.spent from

-- no weight stands before the next place
pub walk-still : (table : Table) (width longest index : ℕ) (ws : List Weight) (start place next back delay : ℕ) (lo hi a b : ℤ) → IsLawful table → IsLongest table longest → AreRising ws
    → IsWalked table width longest index ws start place lo hi → back ≡ behind_at ws start → delay ≡ delay_at table index back → next ≡ max place delay
    → low_end (take next (weights_at table (factors_from 0 ws) index)) a b ≡ low_end (take place (weights_at table (factors_from 0 ws) index)) a b
walk-still table width longest index ws start place next back delay lo hi a b law long rises w is at here =
    let weights = weights_at table (factors_from 0 ws) index in
    let reached : place + (next - place) ≡ next = omega arith in
    ap (λ (n : ℕ). low_end (take n weights) a b) (sym reached)
    ∙ end-still weights a b place (next - place) (λ k from below. between table longest index ws law long rises start place k w.spent from (omega (arith, at, ap (delay_at table index) is)))

-- the walk with the weight at the next place
pub walk-adds : (table : Table) (width longest index : ℕ) (ws : List Weight) (start place next back delay : ℕ) (weight lo hi lo' hi' : ℤ) → IsLawful table → IsLongest table longest → AreRising ws
    → IsWalked table width longest index ws start place lo hi → back ≡ behind_at ws start → delay ≡ delay_at table index back → next ≡ max place delay → next < 2 ^ 101
    → weight ≡ get_or (weights_at table (factors_from 0 ws) index) next (pos 0)
    → lo' ≡ lo +ℤ least_term (least_sample width) (greatest_sample width) weight → hi' ≡ hi +ℤ least_term (greatest_sample width) (least_sample width) weight
    → IsWalked table width longest index ws start (next + 1) lo' hi'
walk-adds table width longest index ws start place next back delay weight lo hi lo' hi' law long rises w is at here near sum low high = record {
  within = w.within;
  near = omega arith;
  spent = λ k less. omega (arith, w.spent k less);
  low = more (least_sample width) (greatest_sample width) lo lo' w.low low;
  high = more (greatest_sample width) (least_sample width) hi hi' w.high high;
}
  where
    weights : List ℤ
    weights = weights_at table (factors_from 0 ws) index

    more : (a b sum sum' : ℤ) → sum ≡ low_end (take place weights) a b → sum' ≡ sum +ℤ least_term a b weight → sum' ≡ low_end (take (next + 1) weights) a b
    more a b sum' sum'' so_far added =
        let same = walk-still table width longest index ws start place next back delay lo hi a b law long rises w is at here in
        let one : next + 1 ≡ suc next = omega arith in
        let step : low_end (take (next + 1) weights) a b ≡ low_end (take next weights) a b +ℤ least_term a b (get_or weights next (pos 0)) =
        ap (λ (n : ℕ). low_end (take n weights) a b) one ∙ end-next weights a b next in
        omega (arith, ints, so_far, added, same, step, ap (least_term a b) sum)

-- the whole walk
pub walk-ends : (table : Table) (width longest index : ℕ) (ws : List Weight) (start place : ℕ) (lo hi : ℤ) → IsLawful table → IsLongest table longest → AreRising ws
    → IsWalked table width longest index ws start place lo hi → length ws ≤ start
    → (lo ≡ low_end (weights_at table (factors_from 0 ws) index) (least_sample width) (greatest_sample width)) × (hi ≡ low_end (weights_at table (factors_from 0 ws) index) (greatest_sample width) (least_sample width))
walk-ends table width longest index ws start place lo hi law long rises w past =
    let none : (k : ℕ) → place ≤ k → get_or (weights_at table (factors_from 0 ws) index) k (pos 0) ≡ pos 0 = λ k from. beyond table longest index ws law long rises start place k w.spent from past in (
      w.low ∙ end-all (weights_at table (factors_from 0 ws) index) (least_sample width) (greatest_sample width) place none,
      w.high ∙ end-all (weights_at table (factors_from 0 ws) index) (greatest_sample width) (least_sample width) place none,
    )

-- ---- room

magnitudes-drop : (start : ℕ) (zs : List ℤ) → magnitudes (drop start zs) ≤ magnitudes zs
magnitudes-drop zero zs = omega arith
magnitudes-drop (suc start) [] = omega arith
magnitudes-drop (suc start) (z ∷ zs) = omega (arith, magnitudes-drop start zs)

pub factors-room : (table : Table) (width : ℕ) (ws : List Weight) (start : ℕ) → IsLawful table → HasFormRoom table width (factors_from 0 ws) → HasRoomLeft table 0 (drop start (factors_in ws))
factors-room table width ws start law h = record {
  most = h.most;
  small = record { each = weights-small (transform_of table) (responses_of table) (length (rows_of table)) table.step width h.most (table-law table law) h.within };
  room =
      let few : magnitudes (drop start (factors_in ws)) ≤ magnitudes (factors_from 0 ws) = omega (arith, magnitudes-drop start (factors_in ws), magnitudes-in 0 ws) in
      omega (arith, mul-le-mul_left h.most few, h.room);
}

least_term-is : (low high c : ℤ) → (P : ℤ → Type 0) → P (c *ℤ low) → P (c *ℤ high) → P (least_term low high c)
least_term-is low high (pos c) P l h = l
least_term-is low high (negsuc c) P l h = h

-- a sum with the next weight's end is small
pub end-room : (table : Table) (width : ℕ) (ws : List Weight) (index next : ℕ) (a b sum weight : ℤ) → IsLawful table → HasFormRoom table width (factors_from 0 ws)
    → FitsWidth width a → FitsWidth width b → weight ≡ get_or (weights_at table (factors_from 0 ws) index) next (pos 0) → sum ≡ low_end (take next (weights_at table (factors_from 0 ws) index)) a b
    → HasTermRoom sum (least_term a b weight)
end-room table width ws index next a b sum weight law h fits_a fits_b is so_far = record {
  term_small = subst (λ (z : ℤ). unsigned_abs (least_term a b z) ≤ 2 ^ 126) (sym is)
      (least_term-is a b (get_or weights next (pos 0)) (λ (z : ℤ). unsigned_abs z ≤ 2 ^ 126)
      (omega (arith, term-within transform f (length (rows_of table)) table.step width most form_law within (pos index) next a fits_a, h.room))
      (omega (arith, term-within transform f (length (rows_of table)) table.step width most form_law within (pos index) next b fits_b, h.room)));
  sum_small =
      let whole : sum +ℤ least_term a b weight ≡ low_end (take (suc next) weights) a b = omega (arith, ints, so_far, ap (least_term a b) is, end-next weights a b next) in
      subst (λ (z : ℤ). unsigned_abs z ≤ 2 ^ 126) (sym whole)
      (omega (arith, end-within transform f (length (rows_of table)) table.step width most form_law within (pos index) (suc next) a b fits_a fits_b, h.room));
}
  where
    form : List ℤ
    form = factors_from 0 ws

    transform : Sequence → Sequence
    transform x = filter form (transform_of table x)

    f : Responses
    f = through_filter form (responses_of table)

    weights : List ℤ
    weights = weights_at table (factors_from 0 ws) index

    most : ℕ
    most = h.most * magnitudes form

    within : AreWithin (IsStream transform width) most
    within = form-within (transform_of table) width h.most form h.within

    form_law : HasResponses transform f (length (rows_of table)) table.step
    form_law = filter-keeps form (transform_of table) (responses_of table) (length (rows_of table)) table.step (table-law table law)

-- both sums with the next weight's ends
pub walk-room : (table : Table) (width longest index : ℕ) (ws : List Weight) (start place next back delay : ℕ) (weight lo hi : ℤ) → IsLawful table → IsLongest table longest → AreRising ws
    → HasFormRoom table width (factors_from 0 ws)
    → IsWalked table width longest index ws start place lo hi → back ≡ behind_at ws start → delay ≡ delay_at table index back → next ≡ max place delay
    → weight ≡ get_or (weights_at table (factors_from 0 ws) index) next (pos 0)
    → HasTermRoom lo (least_term (least_sample width) (greatest_sample width) weight) × HasTermRoom hi (least_term (greatest_sample width) (least_sample width) weight)
walk-room table width longest index ws start place next back delay weight lo hi law long rises room w is at here sum =
    let still : (a b : ℤ) → low_end (take next (weights_at table (factors_from 0 ws) index)) a b ≡ low_end (take place (weights_at table (factors_from 0 ws) index)) a b =
    λ a b. walk-still table width longest index ws start place next back delay lo hi a b law long rises w is at here in (
      end-room table width ws index next (least_sample width) (greatest_sample width) lo weight law room (least-fits width) (greatest-fits width) sum (w.low ∙ sym (still (least_sample width) (greatest_sample width))),
      end-room table width ws index next (greatest_sample width) (least_sample width) hi weight law room (greatest-fits width) (least-fits width) sum (w.high ∙ sym (still (greatest_sample width) (least_sample width))),
    )
