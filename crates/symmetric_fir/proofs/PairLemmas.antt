-- What the pairs of mirrored taps sum to, and how great they are.
use Rattle.std.proofs.Common.{◌≡◌, ℕ, zero, suc, ◌+◌, ◌-◌, ◌*◌, ◌/◌, ◌%◌, ◌<◌, ◌≤◌, List, [], ◌∷◌, ◌++◌, length, length-append, map, take, get_or, refl, sym, ◌∙◌, ap, arith, subst, Bool, true, false, cond, sum_by, ℤ, pos, negsuc, neg_ℤ, ◌+ℤ◌, ◌-ℤ◌, ◌*ℤ◌, All, unsigned_abs}
use Rattle.std.proofs.lemmas.Int.{ints}
use Rattle.std.proofs.lemmas.List.{length-map, map-append}
use Rattle.std.proofs.lemmas.List.Elements.{All-nil, All-cons, All-append, All-map, All-weaker}
use Rattle.std.proofs.lemmas.List.Sums.{sum_by-append, sum_by-cons, sum_by_push}
use Rattle.std.proofs.Math.Seq.{take-suc}
use Rattle.mr_values.specs.Digit.{digit_count}
use Rattle.mr_values.specs.Sequence.{weighted_sum}
use Rattle.mr_values.specs.Timing.{ceil_div, terms}
use Rattle.mr_values.proofs.Ring.{*ℤ-+ℤ}
use Rattle.signed_digit.specs.declared.term_list.Term.{Term}
use Rattle.signed_digit.specs.Terms.{term_sum}
use Rattle.stage_law.specs.Streams.{magnitudes}
use Rattle.fir_pieces.specs.declared.reading.Reading.{Reading}
use Rattle.fir_pieces.specs.declared.reading.Reading.TheVariants.{One}
use Rattle.fir_pieces.specs.Placed.{powers}
use Rattle.fir_pieces.specs.Reading.{read, ReadsWithin, reading_at, reading_adders, all_adders, spread}
use Rattle.fir_pieces.proofs.FormLemmas.{neg_times, abs_signed}
use Rattle.fir_pieces.proofs.ReadingLemmas.{shown_by, values_in, counted_magnitudes, powers-spread_from}
use Rattle.fir_pieces.proofs.TermLemmas.{term_sum-taps, length-terms_of, terms_below}
use Rattle.symmetric_fir.specs.Pairs.{tap, opposite, IsMirrored, is_zero, place_if, places_below, pair_places, centre_if, centre_places, pair_at, pairs, centres, readings, firsts, mirror_terms}
use Rattle.symmetric_fir.proofs.SumLemmas.{sum_to, sum_to-same, sum_to-front, sum_to-even, sum_to-odd, weighted_sum-sum_to}

-- ---- tests

pub is_zero-true : (z : ℤ) → is_zero z ≡ true → z ≡ pos 0
is_zero-true (pos zero) e = refl
is_zero-true (pos (suc n)) e = absurd (cc)
is_zero-true (negsuc n) e = absurd (cc)

pub zero_is : (z : ℤ) → z ≡ pos 0 → is_zero z ≡ true
zero_is z e = ap is_zero e

pub other_is : (z : ℤ) → (z ≡ pos 0 → ⊥) → is_zero z ≡ false
other_is (pos zero) ne = absurd (ne refl)
other_is (pos (suc n)) ne = refl
other_is (negsuc n) ne = refl

-- ---- sums over places

abbrev pub list_sum : (ℕ → ℤ) → List ℕ → ℤ
list_sum g [] = pos 0
list_sum g (p ∷ ps) = g p +ℤ list_sum g ps

list_sum-append : (g : ℕ → ℤ) (ps qs : List ℕ) → list_sum g (ps ++ qs) ≡ list_sum g ps +ℤ list_sum g qs
list_sum-append g [] qs = omega (arith, ints)
list_sum-append g (p ∷ ps) qs = let rest = list_sum-append g ps qs in omega (arith, ints, rest)

-- where what belongs to taps of 0 is 0
record Vanishes (taps : List ℤ) (g : ℕ → ℤ) : Type 0 where
  none : (p : ℕ) → tap taps p ≡ pos 0 → g p ≡ pos 0

place_sum : (taps : List ℤ) (g : ℕ → ℤ) (i : ℕ) → Vanishes taps g → list_sum g (place_if taps i) ≡ g i
place_sum taps g i v = by_test (is_zero (tap taps i)) refl
  where
    by_test : (b : Bool) → is_zero (tap taps i) ≡ b → list_sum g (cond b [] (i ∷ [])) ≡ g i
    by_test true e = sym (v.none i (is_zero-true (tap taps i) e))
    by_test false e = omega (arith, ints)

places_sum : (taps : List ℤ) (g : ℕ → ℤ) (i : ℕ) → Vanishes taps g → list_sum g (places_below taps i) ≡ sum_to g i
places_sum taps g zero v = refl
places_sum taps g (suc i) v = list_sum-append g (places_below taps i) (place_if taps i) ∙ ap (λ (z : ℤ). z +ℤ list_sum g (place_if taps i)) (places_sum taps g i v) ∙ ap (λ (z : ℤ). sum_to g i +ℤ z) (place_sum taps g i v)

-- ---- halves

even_half : (n : ℕ) → n % 2 ≡ 0 → n ≡ n / 2 + n / 2
even_half n e = omega (arith, e)

odd_half : (n r : ℕ) → n % 2 ≡ suc r → n ≡ n / 2 + suc (n / 2)
odd_half n r e = omega (arith, e)

-- a sum over all taps, from both ends: over the pairs, and over the centre
folded : (taps : List ℤ) (g pair centre : ℕ → ℤ) → Vanishes taps pair → Vanishes taps centre → ((p : ℕ) → p < length taps / 2 → pair p ≡ g p +ℤ g (length taps - 1 - p)) → ((p : ℕ) → centre p ≡ g p) → list_sum pair (pair_places taps) +ℤ list_sum centre (centre_places taps) ≡ sum_to g (length taps)
folded taps g pair centre pair_none centre_none e f = by_rest (length taps % 2) refl
  where
    half : ℕ
    half = length taps / 2

    first : list_sum pair (places_below taps (length taps / 2)) ≡ sum_to (λ p. g p +ℤ g (length taps - 1 - p)) (length taps / 2)
    first = places_sum taps pair (length taps / 2) pair_none ∙ sum_to-same (length taps / 2) pair (λ p. g p +ℤ g (length taps - 1 - p)) e

    no_more : (z : ℤ) → z +ℤ pos 0 ≡ z
    no_more z = omega (arith, ints)

    by_rest : (r : ℕ) → length taps % 2 ≡ r → list_sum pair (places_below taps (length taps / 2)) +ℤ list_sum centre (centre_if r taps) ≡ sum_to g (length taps)
    by_rest zero h = no_more (list_sum pair (places_below taps (length taps / 2))) ∙ first ∙ sym (sum_to-even g (length taps) (length taps / 2) (even_half (length taps) h))
    by_rest (suc r) h =
        ap (λ (z : ℤ). z +ℤ list_sum centre (place_if taps (length taps / 2))) first ∙ ap (λ (z : ℤ). sum_to (λ p. g p +ℤ g (length taps - 1 - p)) (length taps / 2) +ℤ z) (place_sum taps centre (length taps / 2) centre_none ∙ f (length taps / 2))
        ∙ sym (sum_to-odd g (length taps) (length taps / 2) (odd_half (length taps) r h))

-- ---- what the nodes show

shown_one : (h : ℕ → ℤ) (q : ℕ → Reading) (f : ℕ → ℤ) (ps : List ℕ) → weighted_sum (map h ps) (shown_by (map q ps) f) ≡ list_sum (λ p. h p *ℤ read (q p) f) ps
shown_one h q f [] = refl
shown_one h q f (p ∷ ps) = ap (λ (z : ℤ). h p *ℤ read (q p) f +ℤ z) (shown_one h q f ps)

shown_two : (h : ℕ → ℤ) (r q : ℕ → Reading) (f : ℕ → ℤ) (ps qs : List ℕ) → weighted_sum (map h (ps ++ qs)) (shown_by (map r ps ++ map q qs) f) ≡ list_sum (λ p. h p *ℤ read (r p) f) ps +ℤ list_sum (λ p. h p *ℤ read (q p) f) qs
shown_two h r q f [] qs = shown_one h q f qs ∙ sym (none_before (list_sum (λ p. h p *ℤ read (q p) f) qs))
  where
    none_before : (z : ℤ) → pos 0 +ℤ z ≡ z
    none_before z = omega (arith, ints)
shown_two h r q f (p ∷ ps) qs = ap (λ (z : ℤ). h p *ℤ read (r p) f +ℤ z) (shown_two h r q f ps qs) ∙ regroup (h p *ℤ read (r p) f) (list_sum (λ p. h p *ℤ read (r p) f) ps) (list_sum (λ p. h p *ℤ read (q p) f) qs)
  where
    regroup : (a b c : ℤ) → a +ℤ (b +ℤ c) ≡ a +ℤ b +ℤ c
    regroup a b c = omega (arith, ints)

nothing_times : (z : ℤ) → pos 0 *ℤ z ≡ pos 0
nothing_times z = omega (arith, ints)

vanishes_with : (taps : List ℤ) (f : ℕ → ℤ) → Vanishes taps (λ p. tap taps p *ℤ f p)
vanishes_with taps f = record { none = λ p e. ap (λ (z : ℤ). z *ℤ f p) e ∙ nothing_times (f p) }

times_minus : (c a b : ℤ) → c *ℤ (a -ℤ b) ≡ c *ℤ a +ℤ neg_ℤ c *ℤ b
times_minus c a b =
    let whole : a -ℤ b +ℤ b ≡ a = omega (arith, ints) in
    let parts = *ℤ-+ℤ c (a -ℤ b) b in
    let same : c *ℤ (a -ℤ b +ℤ b) ≡ c *ℤ a = ap (λ (z : ℤ). c *ℤ z) whole in
    let turned = neg_times c b in
    omega (arith, ints, parts, same, turned)

neg_neg : (z : ℤ) → neg_ℤ (neg_ℤ z) ≡ z
neg_neg z = omega (arith, ints)

-- a pair's value times its first tap
pair_value : (anti : ℕ) (taps : List ℤ) (f : ℕ → ℤ) (p : ℕ) → IsMirrored anti taps → p < length taps → tap taps p *ℤ read (pair_at anti (length taps) p) f ≡ tap taps p *ℤ f p +ℤ tap taps (length taps - 1 - p) *ℤ f (length taps - 1 - p)
pair_value zero taps f p m inside =
    let other = length taps - 1 - p in
    *ℤ-+ℤ (tap taps p) (f p) (f other) ∙ ap (λ (z : ℤ). tap taps p *ℤ f p +ℤ z *ℤ f other) (m.same p inside)
pair_value (suc n) taps f p m inside =
    let other = length taps - 1 - p in
    let e : neg_ℤ (tap taps p) ≡ tap taps other = ap neg_ℤ (m.same p inside) ∙ neg_neg (tap taps other) in
    times_minus (tap taps p) (f p) (f other) ∙ ap (λ (z : ℤ). tap taps p *ℤ f p +ℤ z *ℤ f other) e

below_half : (n p : ℕ) → p < n / 2 → p < n
below_half n p h = omega (arith, h)

-- the terms of what the nodes show sum to the taps
pub mirror_sum : (anti : ℕ) (taps : List ℤ) (f : ℕ → ℤ) → IsMirrored anti taps → term_sum (shown_by (readings anti taps) f) (mirror_terms taps) ≡ weighted_sum taps f
mirror_sum anti taps f m =
    term_sum-taps (shown_by (readings anti taps) f) (firsts taps)
    ∙ shown_two (tap taps) (pair_at anti (length taps)) One f (pair_places taps) (centre_places taps)
    ∙ folded taps (λ i. tap taps i *ℤ f i) (λ p. tap taps p *ℤ read (pair_at anti (length taps) p) f) (λ p. tap taps p *ℤ f p) (vanishes_with taps (λ p. read (pair_at anti (length taps) p) f)) (vanishes_with taps f)
    (λ p h. pair_value anti taps f p m (below_half (length taps) p h)) (λ p. refl)
    ∙ sym (weighted_sum-sum_to taps f)

-- ---- magnitudes

magnitudes-sum_to : (taps : List ℤ) → pos (magnitudes taps) ≡ sum_to (λ i. pos (unsigned_abs (tap taps i))) (length taps)
magnitudes-sum_to [] = refl
magnitudes-sum_to (c ∷ cs) = let rest = magnitudes-sum_to cs in let front = sum_to-front (λ i. pos (unsigned_abs (tap (c ∷ cs) i))) (length cs) in omega (arith, ints, rest, front)

counted-cons : (r : Reading) (rs : List Reading) (i : ℕ) (cs : List ℤ) → counted_magnitudes (r ∷ rs) (suc i) cs ≡ counted_magnitudes rs i cs
counted-cons r rs i [] = refl
counted-cons r rs i (c ∷ cs) = ap (λ (n : ℕ). values_in (reading_at rs i) * unsigned_abs c + n) (counted-cons r rs (suc i) cs)

counted_one : (h : ℕ → ℤ) (q : ℕ → Reading) (ps : List ℕ) → pos (counted_magnitudes (map q ps) 0 (map h ps)) ≡ list_sum (λ p. pos (values_in (q p) * unsigned_abs (h p))) ps
counted_one h q [] = refl
counted_one h q (p ∷ ps) =
    let rest = counted_one h q ps in
    let less = counted-cons (q p) (map q ps) 0 (map h ps) in
    omega (arith, ints, rest, less)

counted_two : (h : ℕ → ℤ) (r q : ℕ → Reading) (ps qs : List ℕ) → pos (counted_magnitudes (map r ps ++ map q qs) 0 (map h (ps ++ qs))) ≡ list_sum (λ p. pos (values_in (r p) * unsigned_abs (h p))) ps +ℤ list_sum (λ p. pos (values_in (q p) * unsigned_abs (h p))) qs
counted_two h r q [] qs = let rest = counted_one h q qs in omega (arith, ints, rest)
counted_two h r q (p ∷ ps) qs =
    let rest = counted_two h r q ps qs in
    let less = counted-cons (r p) (map r ps ++ map q qs) 0 (map h (ps ++ qs)) in
    omega (arith, ints, rest, less)

abs_opposite : (anti : ℕ) (z : ℤ) → unsigned_abs (opposite anti z) ≡ unsigned_abs z
abs_opposite zero z = refl
abs_opposite (suc n) z = abs_signed true z

pair_values : (anti count p : ℕ) → values_in (pair_at anti count p) ≡ 2
pair_values zero count p = refl
pair_values (suc n) count p = refl

vanishes_abs : (taps : List ℤ) (k : ℕ → ℕ) → Vanishes taps (λ p. pos (k p * unsigned_abs (tap taps p)))
vanishes_abs taps k = record { none = λ p e. ap (λ (z : ℤ). pos (k p * unsigned_abs z)) e ∙ nothing (k p) }
  where
    nothing : (n : ℕ) → pos (n * 0) ≡ pos 0
    nothing n = let e : n * 0 ≡ 0 = omega arith in ap pos e

-- each tap counts once
mirror_counted : (anti : ℕ) (taps : List ℤ) → IsMirrored anti taps → counted_magnitudes (readings anti taps) 0 (firsts taps) ≡ magnitudes taps
mirror_counted anti taps m = same_pos (counted_magnitudes (readings anti taps) 0 (firsts taps)) (magnitudes taps)
    (counted_two (tap taps) (pair_at anti (length taps)) One (pair_places taps) (centre_places taps)
    ∙ folded taps (λ i. pos (unsigned_abs (tap taps i))) (λ p. pos (values_in (pair_at anti (length taps) p) * unsigned_abs (tap taps p))) (λ p. pos (1 * unsigned_abs (tap taps p))) (vanishes_abs taps (λ p. values_in (pair_at anti (length taps) p))) (vanishes_abs taps (λ p. 1))
    (λ p h.
    let two = pair_values anti (length taps) p in
    let same : unsigned_abs (tap taps p) ≡ unsigned_abs (tap taps (length taps - 1 - p)) = ap unsigned_abs (m.same p (below_half (length taps) p h)) ∙ abs_opposite anti (tap taps (length taps - 1 - p)) in
    ap (λ (n : ℕ). pos (n * unsigned_abs (tap taps p))) two ∙ twice (unsigned_abs (tap taps p)) (unsigned_abs (tap taps (length taps - 1 - p))) same) (λ p. once (unsigned_abs (tap taps p)))
    ∙ sym (magnitudes-sum_to taps))
  where
    same_pos : (a b : ℕ) → pos a ≡ pos b → a ≡ b
    same_pos a b e = omega (arith, ints, e)

    twice : (a b : ℕ) → a ≡ b → pos (2 * a) ≡ pos a +ℤ pos b
    twice a b e = omega (arith, ints, e)

    once : (a : ℕ) → pos (1 * a) ≡ pos a
    once a = omega (arith, ints)

pub mirror_powers : (anti : ℕ) (taps : List ℤ) → IsMirrored anti taps → powers (spread (readings anti taps) (mirror_terms taps)) ≤ 2 * magnitudes taps
mirror_powers anti taps m = let bound = powers-spread_from (readings anti taps) 0 (firsts taps) in let same = mirror_counted anti taps m in omega (arith, bound, same)

-- ---- how many

length-place_if : (taps : List ℤ) (i : ℕ) → length (place_if taps i) ≤ 1
length-place_if taps i = by_test (is_zero (tap taps i))
  where
    by_test : (b : Bool) → length (cond b [] (i ∷ [])) ≤ 1
    by_test true = omega arith
    by_test false = omega arith

length-places : (taps : List ℤ) (i : ℕ) → length (places_below taps i) ≤ i
length-places taps zero = omega arith
length-places taps (suc i) = let rest = length-places taps i in let one = length-place_if taps i in let both = length-append (places_below taps i) (place_if taps i) in omega (arith, rest, one, both)

length-centre : (r : ℕ) (taps : List ℤ) → length (centre_if r taps) ≤ r
length-centre zero taps = omega arith
length-centre (suc r) taps = let one = length-place_if taps (length taps / 2) in omega (arith, one)

pub length-firsts : (taps : List ℤ) → length (firsts taps) ≤ length taps
length-firsts taps =
    let a = length-places taps (length taps / 2) in
    let b = length-centre (length taps % 2) taps in
    let both = length-append (pair_places taps) (centre_places taps) in
    let mapped = length-map (pair_places taps ++ centre_places taps) (tap taps) in
    omega (arith, a, b, both, mapped)

pub length-readings : (anti : ℕ) (taps : List ℤ) → length (readings anti taps) ≡ length (firsts taps)
length-readings anti taps =
    let a = length-map (pair_places taps) (pair_at anti (length taps)) in
    let b = length-map (centre_places taps) One in
    let both = length-append (pairs anti taps) (centres taps) in
    let places = length-append (pair_places taps) (centre_places taps) in
    let mapped = length-map (pair_places taps ++ centre_places taps) (tap taps) in
    omega (arith, a, b, both, places, mapped)

-- ---- the number of terms

place_sums : (count : ℤ → ℕ) → count (pos 0) ≡ 0 → (taps : List ℤ) (i : ℕ) → sum_by count (map (tap taps) (place_if taps i)) ≡ count (tap taps i)
place_sums count none taps i = by_test (is_zero (tap taps i)) refl
  where
    by_test : (b : Bool) → is_zero (tap taps i) ≡ b → sum_by count (map (tap taps) (cond b [] (i ∷ []))) ≡ count (tap taps i)
    by_test true e = sym (ap count (is_zero-true (tap taps i) e) ∙ none)
    by_test false e = sum_by-cons count (tap taps i) [] ∙ none_more (count (tap taps i))
      where
        none_more : (n : ℕ) → n + 0 ≡ n
        none_more n = omega arith

places_sums : (count : ℤ → ℕ) → count (pos 0) ≡ 0 → (taps : List ℤ) (i : ℕ) → i ≤ length taps → sum_by count (map (tap taps) (places_below taps i)) ≡ sum_by count (take i taps)
places_sums count none taps zero h = refl
places_sums count none taps (suc i) h =
    let split : map (tap taps) (places_below taps i ++ place_if taps i) ≡ map (tap taps) (places_below taps i) ++ map (tap taps) (place_if taps i) = map-append (tap taps) (places_below taps i) (place_if taps i) in
    let sum = sum_by-append count (map (tap taps) (places_below taps i)) (map (tap taps) (place_if taps i)) in
    let rest = places_sums count none taps i (omega arith) in
    let own = place_sums count none taps i in
    let longer : take (suc i) taps ≡ take i taps ++ (get_or taps i (pos 0) ∷ []) = take-suc taps i (pos 0) (omega arith) in
    ap (sum_by count) split ∙ sum ∙ ap (λ (n : ℕ). n + sum_by count (map (tap taps) (place_if taps i))) rest ∙ ap (λ (n : ℕ). sum_by count (take i taps) + n) own
    ∙ sym (sum_by_push count (take i taps) (get_or taps i (pos 0))) ∙ sym (ap (sum_by count) longer)

-- the first taps have the sum of the first half, where a tap of 0 counts nothing
pub half_sums : (count : ℤ → ℕ) → count (pos 0) ≡ 0 → (taps : List ℤ) → sum_by count (firsts taps) ≡ sum_by count (take (ceil_div (length taps) 2) taps)
half_sums count none taps =
    ap (sum_by count) (map-append (tap taps) (pair_places taps) (centre_places taps)) ∙ sum_by-append count (map (tap taps) (pair_places taps)) (map (tap taps) (centre_places taps)) ∙ by_rest (length taps % 2) refl
  where
    by_rest : (r : ℕ) → length taps % 2 ≡ r → sum_by count (map (tap taps) (places_below taps (length taps / 2))) + sum_by count (map (tap taps) (centre_if r taps)) ≡ sum_by count (take (ceil_div (length taps) 2) taps)
    by_rest zero h =
        let at : length taps / 2 ≡ ceil_div (length taps) 2 = omega (arith, h) in
        let pairs_are = places_sums count none taps (length taps / 2) (omega arith) in
        none_more (sum_by count (map (tap taps) (places_below taps (length taps / 2)))) ∙ pairs_are ∙ ap (λ (n : ℕ). sum_by count (take n taps)) at
      where
        none_more : (n : ℕ) → n + 0 ≡ n
        none_more n = omega arith
    by_rest (suc r) h =
        let at : suc (length taps / 2) ≡ ceil_div (length taps) 2 = omega (arith, h) in
        let whole = places_sums count none taps (suc (length taps / 2)) (omega (arith, h)) in
        sym (sum_by-append count (map (tap taps) (places_below taps (length taps / 2))) (map (tap taps) (place_if taps (length taps / 2))))
        ∙ ap (sum_by count) (sym (map-append (tap taps) (places_below taps (length taps / 2)) (place_if taps (length taps / 2)))) ∙ whole ∙ ap (λ (n : ℕ). sum_by count (take n taps)) at

pub half_terms : (taps : List ℤ) → terms (firsts taps) ≡ terms (take (ceil_div (length taps) 2) taps)
half_terms taps = half_sums digit_count refl taps

pub length-mirror_terms : (taps : List ℤ) → length (mirror_terms taps) ≡ terms (take (ceil_div (length taps) 2) taps)
length-mirror_terms taps = length-terms_of (firsts taps) ∙ half_terms taps

-- ---- places of the window

within_place : (depth : ℕ) (taps : List ℤ) (i : ℕ) → i < depth → All (λ (p : ℕ). p < depth) (place_if taps i)
within_place depth taps i h = by_test (is_zero (tap taps i))
  where
    by_test : (b : Bool) → All (λ (p : ℕ). p < depth) (cond b [] (i ∷ []))
    by_test true = All-nil (λ (p : ℕ). p < depth)
    by_test false = All-cons (λ (p : ℕ). p < depth) i [] h (All-nil (λ (p : ℕ). p < depth))

within_places : (depth : ℕ) (taps : List ℤ) (i : ℕ) → i ≤ depth → All (λ (p : ℕ). p < depth) (places_below taps i)
within_places depth taps zero h = All-nil (λ (p : ℕ). p < depth)
within_places depth taps (suc i) h = All-append (λ (p : ℕ). p < depth) (places_below taps i) (place_if taps i) (within_places depth taps i (omega arith)) (within_place depth taps i (omega arith))

pair_within : (anti count p : ℕ) → p < count → ReadsWithin count (pair_at anti count p)
pair_within zero count p h = (h, omega arith)
pair_within (suc n) count p h = (h, omega arith)

pub pairs_within : (anti : ℕ) (taps : List ℤ) → All (ReadsWithin (length taps)) (pairs anti taps)
pairs_within anti taps = All-map (ReadsWithin (length taps)) (pair_at anti (length taps)) (pair_places taps)
    (All-weaker (λ (p : ℕ). p < length taps) (λ (p : ℕ). ReadsWithin (length taps) (pair_at anti (length taps) p)) (λ p h. pair_within anti (length taps) p h) (pair_places taps) (within_places (length taps) taps (length taps / 2) (omega arith)))

centre_within : (r : ℕ) (taps : List ℤ) → length taps % 2 ≡ r → All (λ (p : ℕ). p < length taps) (centre_if r taps)
centre_within zero taps h = All-nil (λ (p : ℕ). p < length taps)
centre_within (suc r) taps h = within_place (length taps) taps (length taps / 2) (omega (arith, h))

pub centres_within : (taps : List ℤ) → All (ReadsWithin (length taps)) (centres taps)
centres_within taps = All-map (ReadsWithin (length taps)) One (centre_places taps) (centre_within (length taps % 2) taps refl)

pub readings_within : (anti : ℕ) (taps : List ℤ) → All (ReadsWithin (length taps)) (readings anti taps)
readings_within anti taps = All-append (ReadsWithin (length taps)) (pairs anti taps) (centres taps) (pairs_within anti taps) (centres_within taps)

-- ---- adders

pub pair_adders : (anti : ℕ) (taps : List ℤ) → all_adders (pairs anti taps) ≡ length (pair_places taps)
pair_adders anti taps = each (pair_places taps)
  where
    one : (anti count p : ℕ) → reading_adders (pair_at anti count p) ≡ 1
    one zero count p = refl
    one (suc n) count p = refl

    each : (ps : List ℕ) → all_adders (map (pair_at anti (length taps)) ps) ≡ length ps
    each [] = refl
    each (p ∷ ps) = let own = one anti (length taps) p in let rest = each ps in omega (arith, own, rest)

pub centre_adders : (taps : List ℤ) → all_adders (centres taps) ≡ 0
centre_adders taps = each (centre_places taps)
  where
    each : (ps : List ℕ) → all_adders (map One ps) ≡ 0
    each [] = refl
    each (p ∷ ps) = let rest = each ps in omega (arith, rest)

-- each term is of a reading
pub terms_within : (anti : ℕ) (taps : List ℤ) → All (λ (t : Term). t.index < length (readings anti taps)) (mirror_terms taps)
terms_within anti taps = subst (λ (n : ℕ). All (λ (t : Term). t.index < n) (mirror_terms taps)) (sym (length-readings anti taps)) (terms_below 1 0 (firsts taps))
