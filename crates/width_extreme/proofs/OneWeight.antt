-- The ends of a sum with one weight.
use Rattle.std.proofs.Common.{◌≡◌, ◌∙◌, ℕ, zero, suc, ◌+◌, ◌*◌, ◌^◌, ◌≤◌, List, [], ◌∷◌, length, take, get_or, ℤ, pos, negsuc, unsigned_abs, ◌+ℤ◌, ◌-ℤ◌, ◌*ℤ◌, ◌≤ℤ◌, ◌<ℤ◌, arith, refl, sym, ap, subst}
use Rattle.std.proofs.lemmas.Int.{ints, unsigned_abs-mul}
use Rattle.std.proofs.lemmas.List.{take_all}
use Rattle.std.proofs.Math.IntN.{pos-*ℤ-pos, pos-*ℤ-negsuc, negsuc-*ℤ-pos, *ℤ-negsuc}
use Rattle.std.proofs.Math.Nat.{mul_comm, mul-le-mul_left, mul-le-mul_right}
use Rattle.mr_values.specs.Timing.{least_term, low_end}
use Rattle.mr_values.specs.Width.{FitsWidth}
use Rattle.mr_values.proofs.Ring.{*ℤ-+ℤ, +ℤ-*ℤ, *ℤ_assoc}
use Rattle.stage_law.specs.Rising.{factors_from}
use Rattle.stage_law.specs.Streams.{magnitudes}
use Rattle.stage_law.specs.declared.weights.Weight.{Weight}
use Rattle.stage_law.proofs.WeightLemmas.{one-rises, magnitudes-in}
use Rattle.span_ranges.proofs.SumLemmas.{term_positive, term_negative}
use Rattle.impulse_phase.specs.declared.table.Response.{Response as Table}
use Rattle.impulse_phase.specs.Response.{scaled, behind}
use Rattle.impulse_phase.specs.Reading.{silent, rows_of, responses_of}
use Rattle.impulse_phase.proofs.Gain.{get_or-scaled}
use Rattle.width_extreme.specs.Walk.{transform_of, IsLawful, IsEntry, delay_at, weights_at, HasFormRoom, HasSmallSums, HasEndRoom}
use Rattle.width_extreme.proofs.Bounds.{end-within, minus_one-fits}
use Rattle.width_extreme.proofs.Lawful.{table-law}
use Rattle.width_extreme.proofs.Ranges.{zero-fits}
use Rattle.width_extreme.proofs.Walk.{place-weight, entry-weights}
use Rattle.width_extreme.proofs.Walked.{end-next}

-- ---- a multiple of weights

-- a term of a multiple, by both signs
times-term : (c z a b : ℤ) → least_term a b (c *ℤ z) ≡ least_term (least_term a b z) (least_term b a z) c
times-term (pos n) (pos m) a b =
    let some : pos 0 ≤ℤ (pos n *ℤ pos m) = omega (arith, ints, pos-*ℤ-pos n m) in
    sym (term_positive a b (pos n *ℤ pos m) some) ∙ *ℤ_assoc (pos n) (pos m) a
times-term (pos zero) (negsuc m) a b =
    let none : pos 0 *ℤ negsuc m ≡ pos 0 = omega (arith, ints) in
    let left : pos 0 *ℤ a ≡ pos 0 = omega (arith, ints) in
    let right : pos 0 *ℤ (negsuc m *ℤ b) ≡ pos 0 = omega (arith, ints) in
    ap (least_term a b) none ∙ left ∙ sym right
times-term (pos (suc n)) (negsuc m) a b =
    let more : 1 * suc m ≤ suc n * suc m = mul-le-mul_right (suc m) (omega arith) in
    let some : (pos (suc n) *ℤ negsuc m) <ℤ pos 0 = omega (arith, ints, pos-*ℤ-negsuc (suc n) m, more) in
    sym (term_negative a b (pos (suc n) *ℤ negsuc m) some) ∙ *ℤ_assoc (pos (suc n)) (negsuc m) b
times-term (negsuc n) (pos zero) a b =
    let none : negsuc n *ℤ pos 0 ≡ pos 0 = omega (arith, ints) in
    let left : pos 0 *ℤ a ≡ pos 0 = omega (arith, ints) in
    let inner : pos 0 *ℤ b ≡ pos 0 = omega (arith, ints) in
    ap (least_term a b) none ∙ left ∙ sym (ap (λ (z : ℤ). negsuc n *ℤ z) inner ∙ none)
times-term (negsuc n) (pos (suc m)) a b =
    let more : 1 * suc m ≤ suc n * suc m = mul-le-mul_right (suc m) (omega arith) in
    let some : (negsuc n *ℤ pos (suc m)) <ℤ pos 0 = omega (arith, ints, negsuc-*ℤ-pos n (suc m), more) in
    sym (term_negative a b (negsuc n *ℤ pos (suc m)) some) ∙ *ℤ_assoc (negsuc n) (pos (suc m)) b
times-term (negsuc n) (negsuc m) a b =
    let some : pos 0 ≤ℤ (negsuc n *ℤ negsuc m) = omega (arith, ints, *ℤ-negsuc (negsuc n) m, negsuc-*ℤ-pos n (suc m)) in
    sym (term_positive a b (negsuc n *ℤ negsuc m) some) ∙ *ℤ_assoc (negsuc n) (negsuc m) a

plus-term : (c x y u v : ℤ) → least_term (x +ℤ y) (u +ℤ v) c ≡ least_term x u c +ℤ least_term y v c
plus-term (pos n) x y u v = *ℤ-+ℤ (pos n) x y
plus-term (negsuc n) x y u v = *ℤ-+ℤ (negsuc n) u v

no-term : (c : ℤ) → least_term (pos 0) (pos 0) c ≡ pos 0
no-term (pos n) = omega (arith, ints)
no-term (negsuc n) = omega (arith, ints)

times-end : (c : ℤ) (xs : List ℤ) (a b : ℤ) → low_end (scaled c xs) a b ≡ least_term (low_end xs a b) (low_end xs b a) c
times-end c [] a b = sym (no-term c)
times-end c (x ∷ xs) a b =
    ap (λ (z : ℤ). z +ℤ low_end (scaled c xs) a b) (times-term c x a b)
    ∙ ap (λ (z : ℤ). least_term (least_term a b x) (least_term b a x) c +ℤ z) (times-end c xs a b)
    ∙ sym (plus-term c (least_term a b x) (low_end xs a b) (least_term b a x) (low_end xs b a))

behind-end : (d : ℕ) (xs : List ℤ) (a b : ℤ) → low_end (behind d xs) a b ≡ low_end xs a b
behind-end d [] a b = refl
behind-end zero (x ∷ xs) a b = refl
behind-end (suc d) (x ∷ xs) a b = let rest = behind-end d (x ∷ xs) a b in omega (arith, ints, rest)

-- ends go by what stands at each place
none-end : (xs : List ℤ) (a b : ℤ) → ((k : ℕ) → get_or xs k (pos 0) ≡ pos 0) → low_end xs a b ≡ pos 0
none-end [] a b h = refl
none-end (x ∷ xs) a b h =
    let first : least_term a b x ≡ pos 0 = ap (least_term a b) (h 0) ∙ omega (arith, ints) in
    omega (arith, ints, first, none-end xs a b (λ k. h (suc k)))

same-end : (xs ys : List ℤ) (a b : ℤ) → ((k : ℕ) → get_or xs k (pos 0) ≡ get_or ys k (pos 0)) → low_end xs a b ≡ low_end ys a b
same-end [] ys a b h = sym (none-end ys a b (λ k. sym (h k)))
same-end (x ∷ xs) [] a b h = none-end (x ∷ xs) a b h
same-end (x ∷ xs) (y ∷ ys) a b h =
    ap (λ (z : ℤ). least_term a b z +ℤ low_end xs a b) (h 0) ∙ ap (λ (z : ℤ). least_term a b y +ℤ z) (same-end xs ys a b (λ k. h (suc k)))

-- the ends of a sum with one weight are those of the row that it reads, times the weight
pub single-end : (table : Table) (index class late : ℕ) (w : Weight) (a b : ℤ) → IsEntry table index w.behind class late
    → low_end (weights_at table (factors_from 0 (w ∷ [])) index) a b
    ≡ least_term (low_end (get_or (rows_of table) class silent).weights a b) (low_end (get_or (rows_of table) class silent).weights b a) w.factor
single-end table index class late w a b e =
    same-end (weights_at table (factors_from 0 (w ∷ [])) index) (scaled w.factor (behind (delay_at table index w.behind) row)) a b at_place
    ∙ times-end w.factor (behind (delay_at table index w.behind) row) a b
    ∙ ap (λ (z : ℤ). least_term z (low_end (behind (delay_at table index w.behind) row) b a) w.factor) (behind-end (delay_at table index w.behind) row a b)
    ∙ ap (λ (z : ℤ). least_term (low_end row a b) z w.factor) (behind-end (delay_at table index w.behind) row b a)
    ∙ ap (λ (ws : List ℤ). least_term (low_end ws a b) (low_end ws b a) w.factor) (entry-weights table index w.behind class late e)
  where
    row : List ℤ
    row = (responses_of table (pos index -ℤ pos w.behind)).weights

    at_place : (k : ℕ) → get_or (weights_at table (factors_from 0 (w ∷ [])) index) k (pos 0) ≡ get_or (scaled w.factor (behind (delay_at table index w.behind) row)) k (pos 0)
    at_place k =
        let one : w.factor *ℤ get_or (behind (delay_at table index w.behind) row) k (pos 0) +ℤ pos 0 ≡ w.factor *ℤ get_or (behind (delay_at table index w.behind) row) k (pos 0) = omega (arith, ints) in
        place-weight table (w ∷ []) index k (one-rises w) ∙ one ∙ sym (get_or-scaled w.factor (behind (delay_at table index w.behind) row) k)

-- ---- the sums of the weights above and below 0

times_one : (c a : ℤ) → c *ℤ pos 1 *ℤ a ≡ c *ℤ a
times_one c a = let one : c *ℤ pos 1 ≡ c = omega (arith, ints) in ap (λ (z : ℤ). z *ℤ a) one

times_none : (c a : ℤ) → c *ℤ pos 0 *ℤ a ≡ pos 0
times_none c a =
    let none : c *ℤ pos 0 ≡ pos 0 = omega (arith, ints) in
    let gone : pos 0 *ℤ a ≡ pos 0 = omega (arith, ints) in
    ap (λ (z : ℤ). z *ℤ a) none ∙ gone

pub end-split : (xs : List ℤ) (a b : ℤ) → low_end xs a b ≡ low_end xs (pos 1) (pos 0) *ℤ a +ℤ low_end xs (pos 0) (pos 1) *ℤ b
end-split [] a b = omega (arith, ints)
end-split (pos c ∷ xs) a b =
    let above = +ℤ-*ℤ (pos c *ℤ pos 1) (low_end xs (pos 1) (pos 0)) a in
    let below = +ℤ-*ℤ (pos c *ℤ pos 0) (low_end xs (pos 0) (pos 1)) b in
    omega (arith, ints, above, below, times_one (pos c) a, times_none (pos c) b, end-split xs a b)
end-split (negsuc c ∷ xs) a b =
    let above = +ℤ-*ℤ (negsuc c *ℤ pos 0) (low_end xs (pos 1) (pos 0)) a in
    let below = +ℤ-*ℤ (negsuc c *ℤ pos 1) (low_end xs (pos 0) (pos 1)) b in
    omega (arith, ints, above, below, times_one (negsuc c) b, times_none (negsuc c) a, end-split xs a b)

-- ---- room

-- the row's values, and their multiple, are small
pub record HasRowRoom (width : ℕ) (row : List ℤ) (c : ℤ) : Type 0 where
  pub most : ℕ
  pub small : most ≤ 2 ^ 126
  pub times : most * unsigned_abs c ≤ 2 ^ 126
  pub ends : (k : ℕ) (a b : ℤ) → FitsWidth width a → FitsWidth width b → unsigned_abs (low_end (take k row) a b) ≤ most
  pub whole : (a b : ℤ) → FitsWidth width a → FitsWidth width b → unsigned_abs (low_end row a b) ≤ most

some-size : (c : ℤ) → (c ≡ pos 0 → ⊥) → 1 ≤ unsigned_abs c
some-size (pos zero) h = absurd (h refl)
some-size (pos (suc n)) h = omega arith
some-size (negsuc n) h = omega arith

pub row-room : (table : Table) (width index class late : ℕ) (w : Weight) → IsLawful table → IsEntry table index w.behind class late → (w.factor ≡ pos 0 → ⊥)
    → HasFormRoom table width (factors_from 0 (w ∷ [])) → HasRowRoom width (get_or (rows_of table) class silent).weights w.factor
row-room table width index class late w law e some h = record {
  most = h.most;
  small = let one : h.most * 1 ≤ h.most * unsigned_abs w.factor = mul-le-mul_left h.most (some-size w.factor some) in omega (arith, one, times);
  times = times;
  ends = ends;
  whole = λ a b l u. subst (λ (ws : List ℤ). unsigned_abs (low_end ws a b) ≤ h.most) (take_all (length row) row (omega arith)) (ends (length row) a b l u);
}
  where
    row : List ℤ
    row = (get_or (rows_of table) class silent).weights

    times : h.most * unsigned_abs w.factor ≤ 2 ^ 126
    times = let own = magnitudes-in 0 (w ∷ []) in let same : h.most * magnitudes (factors_from 0 (w ∷ [])) ≡ h.most * unsigned_abs w.factor = ap (λ (n : ℕ). h.most * n) (omega (arith, own)) in omega (arith, same, h.room)

    ends : (k : ℕ) (a b : ℤ) → FitsWidth width a → FitsWidth width b → unsigned_abs (low_end (take k row) a b) ≤ h.most
    ends k a b l u =
        subst (λ (ws : List ℤ). unsigned_abs (low_end (take k ws) a b) ≤ h.most) (entry-weights table index w.behind class late e)
        (end-within (transform_of table) (responses_of table) (length (rows_of table)) table.step width h.most (table-law table law) h.within (pos index -ℤ pos w.behind) k a b l u)

pub small-sums : (width : ℕ) (row : List ℤ) (c : ℤ) → HasRowRoom width row c → HasSmallSums row
small-sums width row c h = record {
  above = λ k.
      let own = h.ends k (negsuc 0) (pos 0) (minus_one-fits width) (zero-fits width) in
      let split = end-split (take k row) (negsuc 0) (pos 0) in
      omega (arith, ints, own, h.small, split);
  below = λ k.
      let own = h.ends k (pos 0) (negsuc 0) (zero-fits width) (minus_one-fits width) in
      let split = end-split (take k row) (pos 0) (negsuc 0) in
      omega (arith, ints, own, h.small, split);
}

pub end-room_of : (width : ℕ) (row : List ℤ) (c near far : ℤ) → HasRowRoom width row c → FitsWidth width near → FitsWidth width far
    → HasEndRoom (low_end row (pos 1) (pos 0)) (low_end row (pos 0) (pos 1)) near far
end-room_of width row c near far h l u = record {
  near_small =
      let none : low_end row (pos 0) (pos 1) *ℤ pos 0 ≡ pos 0 = omega (arith, ints) in
      let is : low_end row near (pos 0) ≡ low_end row (pos 1) (pos 0) *ℤ near = omega (arith, ints, end-split row near (pos 0), none) in
      subst (λ (z : ℤ). unsigned_abs z ≤ 2 ^ 126) is (omega (arith, h.whole near (pos 0) l (zero-fits width), h.small));
  far_small =
      let none : low_end row (pos 1) (pos 0) *ℤ pos 0 ≡ pos 0 = omega (arith, ints) in
      let is : low_end row (pos 0) far ≡ low_end row (pos 0) (pos 1) *ℤ far = omega (arith, ints, end-split row (pos 0) far, none) in
      subst (λ (z : ℤ). unsigned_abs z ≤ 2 ^ 126) is (omega (arith, h.whole (pos 0) far (zero-fits width) u, h.small));
  sum_small = subst (λ (z : ℤ). unsigned_abs z ≤ 2 ^ 126) (end-split row near far) (omega (arith, h.whole near far l u, h.small));
}

-- the multiple of an end
pub times-room : (width : ℕ) (row : List ℤ) (c a b : ℤ) → HasRowRoom width row c → FitsWidth width a → FitsWidth width b
    → unsigned_abs (least_term (low_end row a b) (low_end row b a) c) ≤ 2 ^ 126
times-room width row (pos n) a b h l u =
    let more : n * unsigned_abs (low_end row a b) ≤ n * h.most = mul-le-mul_left n (h.whole a b l u) in
    omega (arith, unsigned_abs-mul (pos n) (low_end row a b), more, mul_comm n h.most, h.times)
times-room width row (negsuc n) a b h l u =
    let more : suc n * unsigned_abs (low_end row b a) ≤ suc n * h.most = mul-le-mul_left (suc n) (h.whole b a u l) in
    omega (arith, unsigned_abs-mul (negsuc n) (low_end row b a), more, mul_comm (suc n) h.most, h.times)

-- ---- the loop over a row

pub one-of : (ws : List Weight) (w : Weight) → length ws ≡ 1 → w ≡ get_or ws 0 w → ws ≡ w ∷ []
one-of [] w h e = absurd (omega (arith, h))
one-of (u ∷ []) w h e = ap (λ (v : Weight). v ∷ []) (sym e)
one-of (u ∷ v ∷ ws) w h e = absurd (omega (arith, h))

-- one weight more
pub sum-next : (row : List ℤ) (i : ℕ) (a b sum next : ℤ) → sum ≡ low_end (take i row) a b → next ≡ sum +ℤ least_term a b (get_or row i (pos 0)) → next ≡ low_end (take (i + 1) row) a b
sum-next row i a b sum next e n =
    let one : i + 1 ≡ suc i = omega arith in
    n ∙ ap (λ (z : ℤ). z +ℤ least_term a b (get_or row i (pos 0))) e ∙ sym (end-next row a b i) ∙ ap (λ (k : ℕ). low_end (take k row) a b) (sym one)

pub sum-small : (row : List ℤ) (i : ℕ) (a b sum : ℤ) → ((k : ℕ) → unsigned_abs (low_end (take k row) a b) ≤ 2 ^ 126) → sum ≡ low_end (take i row) a b
    → unsigned_abs (sum +ℤ least_term a b (get_or row i (pos 0))) ≤ 2 ^ 126
sum-small row i a b sum small e = subst (λ (z : ℤ). unsigned_abs z ≤ 2 ^ 126) (sym (sum-next row i a b sum (sum +ℤ least_term a b (get_or row i (pos 0))) e refl)) (small (i + 1))

-- ---- the same of numbers that were computed

pub end-room_at : (width : ℕ) (row : List ℤ) (c above below near far : ℤ) → HasRowRoom width row c → above ≡ low_end row (pos 1) (pos 0) → below ≡ low_end row (pos 0) (pos 1)
    → FitsWidth width near → FitsWidth width far → HasEndRoom above below near far
end-room_at width row c above below near far h a b l u =
    subst (λ (z : ℤ). HasEndRoom z below near far) (sym a) (subst (λ (z : ℤ). HasEndRoom (low_end row (pos 1) (pos 0)) z near far) (sym b) (end-room_of width row c near far h l u))

pub end_at : (row : List ℤ) (sum above below near far a b : ℤ) → sum ≡ above *ℤ near +ℤ below *ℤ far → above ≡ low_end row (pos 1) (pos 0) → below ≡ low_end row (pos 0) (pos 1)
    → near ≡ a → far ≡ b → sum ≡ low_end row a b
end_at row sum above below near far a b e first second n f =
    e ∙ ap (λ (z : ℤ). z *ℤ near +ℤ below *ℤ far) first ∙ ap (λ (z : ℤ). low_end row (pos 1) (pos 0) *ℤ near +ℤ z *ℤ far) second
    ∙ ap (λ (z : ℤ). low_end row (pos 1) (pos 0) *ℤ z +ℤ low_end row (pos 0) (pos 1) *ℤ far) n
    ∙ ap (λ (z : ℤ). low_end row (pos 1) (pos 0) *ℤ a +ℤ low_end row (pos 0) (pos 1) *ℤ z) f ∙ sym (end-split row a b)

pub times-room_at : (width : ℕ) (row : List ℤ) (c a b first second : ℤ) → HasRowRoom width row c → FitsWidth width a → FitsWidth width b → first ≡ low_end row a b → second ≡ low_end row b a
    → unsigned_abs (least_term first second c) ≤ 2 ^ 126
times-room_at width row c a b first second h l u e f =
    subst (λ (z : ℤ). unsigned_abs (least_term z second c) ≤ 2 ^ 126) (sym e) (subst (λ (z : ℤ). unsigned_abs (least_term (low_end row a b) z c) ≤ 2 ^ 126) (sym f) (times-room width row c a b h l u))

pub single_at : (table : Table) (index class late : ℕ) (w : Weight) (a b end first second : ℤ) → IsEntry table index w.behind class late → end ≡ least_term first second w.factor
    → first ≡ low_end (get_or (rows_of table) class silent).weights a b → second ≡ low_end (get_or (rows_of table) class silent).weights b a
    → end ≡ low_end (weights_at table (factors_from 0 (w ∷ [])) index) a b
single_at table index class late w a b end first second e is f s =
    is ∙ ap (λ (z : ℤ). least_term z second w.factor) f ∙ ap (λ (z : ℤ). least_term (low_end (get_or (rows_of table) class silent).weights a b) z w.factor) s
    ∙ sym (single-end table index class late w a b e)
