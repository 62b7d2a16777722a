-- What nodes show, as terms of the values.
use Rattle.std.proofs.Common.{◌≡◌, ℕ, zero, suc, ◌+◌, ◌*◌, ◌^◌, ◌<◌, ◌≤◌, List, [], ◌∷◌, ◌++◌, length, map, take, drop, refl, sym, ◌∙◌, ap, arith, Bool, true, false, not, ℤ, pos, neg_ℤ, ◌+ℤ◌, ◌-ℤ◌, ◌*ℤ◌, All, unsigned_abs}
use Rattle.std.proofs.lemmas.Int.{ints}
use Rattle.std.proofs.Math.Nat.{mul-le-mul_left}
use Rattle.std.proofs.lemmas.List.{append_assoc}
use Rattle.std.proofs.lemmas.List.Elements.{All-nil, All-cons, All-head, All-tail, All-append, All-map}
use Rattle.mr_values.specs.declared.digit.Digit.{Digit}
use Rattle.mr_values.specs.Digit.{with_sign, non_adjacent}
use Rattle.mr_values.proofs.Ring.{*ℤ-+ℤ}
use Rattle.signed_digit.specs.declared.term_list.Term.{Term}
use Rattle.signed_digit.specs.Terms.{term_sum, term_of, tap_terms, terms_from}
use Rattle.fir_pieces.specs.declared.reading.Reading.{Reading}
use Rattle.fir_pieces.specs.declared.reading.Reading.TheVariants.{One, Sum, Difference}
use Rattle.fir_pieces.specs.Form.{one_value}
use Rattle.fir_pieces.specs.Placed.{powers}
use Rattle.fir_pieces.specs.Reading.{read, ReadsWithin, moved_to, turned_to, terms_at, reading_at, spread}
use Rattle.fir_pieces.proofs.FormLemmas.{neg_times}
use Rattle.fir_pieces.proofs.TermLemmas.{powers-append, tap_powers}

-- ---- sums

pub term_sum-append : (f : ℕ → ℤ) (ts us : List Term) → term_sum f (ts ++ us) ≡ term_sum f ts +ℤ term_sum f us
term_sum-append f [] us = omega (arith, ints)
term_sum-append f (t ∷ ts) us = omega (arith, ints, term_sum-append f ts us)

nothing_more : (z : ℤ) → z +ℤ pos 0 ≡ z
nothing_more z = omega (arith, ints)

turned_sign : (m : Bool) (n : ℕ) → with_sign (not m) n ≡ neg_ℤ (with_sign m n)
turned_sign true n = omega (arith, ints)
turned_sign false n = refl

times_difference : (p a b : ℤ) → p *ℤ a +ℤ neg_ℤ (p *ℤ b) ≡ p *ℤ (a -ℤ b)
times_difference p a b =
    let whole : a -ℤ b +ℤ b ≡ a = omega (arith, ints) in
    let parts = *ℤ-+ℤ p (a -ℤ b) b in
    let same : p *ℤ (a -ℤ b +ℤ b) ≡ p *ℤ a = ap (λ (z : ℤ). p *ℤ z) whole in
    omega (arith, ints, parts, same)

-- the terms of a term are that term of what is read
pub term_sum-terms_at : (f : ℕ → ℤ) (r : Reading) (t : Term) → term_sum f (terms_at r t) ≡ with_sign t.negative (2 ^ t.place) *ℤ read r f
term_sum-terms_at f (One i) t = nothing_more (with_sign t.negative (2 ^ t.place) *ℤ f i)
term_sum-terms_at f (Sum i j) t =
    let p = with_sign t.negative (2 ^ t.place) in
    ap (λ (z : ℤ). p *ℤ f i +ℤ z) (nothing_more (p *ℤ f j)) ∙ sym (*ℤ-+ℤ p (f i) (f j))
term_sum-terms_at f (Difference i j) t =
    let p = with_sign t.negative (2 ^ t.place) in
    ap (λ (z : ℤ). p *ℤ f i +ℤ z) (nothing_more (with_sign (not t.negative) (2 ^ t.place) *ℤ f j) ∙ ap (λ (z : ℤ). z *ℤ f j) (turned_sign t.negative (2 ^ t.place)) ∙ neg_times p (f j)) ∙ times_difference p (f i) (f j)

-- what the nodes show, as a sequence by their numbers
abbrev pub shown_by : List Reading → (ℕ → ℤ) → ℕ → ℤ
shown_by readings f k = read (reading_at readings k) f

pub term_sum-spread : (f : ℕ → ℤ) (readings : List Reading) (ts : List Term) → term_sum f (spread readings ts) ≡ term_sum (shown_by readings f) ts
term_sum-spread f readings [] = refl
term_sum-spread f readings (t ∷ ts) =
    let r = reading_at readings t.index in
    term_sum-append f (terms_at r t) (spread readings ts) ∙ ap (λ (z : ℤ). z +ℤ term_sum f (spread readings ts)) (term_sum-terms_at f r t)
    ∙ ap (λ (z : ℤ). with_sign t.negative (2 ^ t.place) *ℤ read r f +ℤ z) (term_sum-spread f readings ts)

-- what is read is the same of two sequences that agree at the places that it reads
pub read_same : (depth : ℕ) (r : Reading) (f g : ℕ → ℤ) → ReadsWithin depth r → ((i : ℕ) → i < depth → f i ≡ g i) → read r f ≡ read r g
read_same depth (One i) f g h e = e i h
read_same depth (Sum i j) f g h e = ap (λ (z : ℤ). z +ℤ f j) (e i h.0) ∙ ap (λ (z : ℤ). g i +ℤ z) (e j h.1)
read_same depth (Difference i j) f g h e = ap (λ (z : ℤ). z -ℤ f j) (e i h.0) ∙ ap (λ (z : ℤ). g i -ℤ z) (e j h.1)

pub read_zero : (r : Reading) (f : ℕ → ℤ) → ((i : ℕ) → f i ≡ pos 0) → read r f ≡ pos 0
read_zero (One i) f e = e i
read_zero (Sum i j) f e = let a = e i in let b = e j in omega (arith, ints, a, b)
read_zero (Difference i j) f e = let a = e i in let b = e j in omega (arith, ints, a, b)

-- ---- lists

pub spread-append : (readings : List Reading) (ts us : List Term) → spread readings (ts ++ us) ≡ spread readings ts ++ spread readings us
spread-append readings [] us = refl
spread-append readings (t ∷ ts) us =
    let own = terms_at (reading_at readings t.index) t in
    ap (λ (rest : List Term). own ++ rest) (spread-append readings ts us) ∙ sym (append_assoc own (spread readings ts) (spread readings us))

short_at : (r : Reading) (t : Term) → t.place ≤ 90 → All (λ (u : Term). u.place ≤ 90) (terms_at r t)
short_at (One i) t h = All-cons (λ (u : Term). u.place ≤ 90) (moved_to i t) [] h (All-nil (λ (u : Term). u.place ≤ 90))
short_at (Sum i j) t h = All-cons (λ (u : Term). u.place ≤ 90) (moved_to i t) (moved_to j t ∷ []) h (All-cons (λ (u : Term). u.place ≤ 90) (moved_to j t) [] h (All-nil (λ (u : Term). u.place ≤ 90)))
short_at (Difference i j) t h = All-cons (λ (u : Term). u.place ≤ 90) (moved_to i t) (turned_to j t ∷ []) h (All-cons (λ (u : Term). u.place ≤ 90) (turned_to j t) [] h (All-nil (λ (u : Term). u.place ≤ 90)))

pub short_terms_at : (r : Reading) (t : Term) → t.place ≤ 90 → All (λ (u : Term). u.place ≤ 90) (terms_at r t)
short_terms_at r t h = short_at r t h

pub short_spread : (readings : List Reading) (ts : List Term) → All (λ (u : Term). u.place ≤ 90) ts → All (λ (u : Term). u.place ≤ 90) (spread readings ts)
short_spread readings [] h = All-nil (λ (u : Term). u.place ≤ 90)
short_spread readings (t ∷ ts) h =
    All-append (λ (u : Term). u.place ≤ 90) (terms_at (reading_at readings t.index) t) (spread readings ts) (short_at (reading_at readings t.index) t (All-head (λ (u : Term). u.place ≤ 90) t ts h))
    (short_spread readings ts (All-tail (λ (u : Term). u.place ≤ 90) t ts h))

pub within_at : (depth : ℕ) (r : Reading) (t : Term) → ReadsWithin depth r → All (λ (u : Term). u.index < depth) (terms_at r t)
within_at depth (One i) t h = All-cons (λ (u : Term). u.index < depth) (moved_to i t) [] h (All-nil (λ (u : Term). u.index < depth))
within_at depth (Sum i j) t h = All-cons (λ (u : Term). u.index < depth) (moved_to i t) (moved_to j t ∷ []) h.0 (All-cons (λ (u : Term). u.index < depth) (moved_to j t) [] h.1 (All-nil (λ (u : Term). u.index < depth)))
within_at depth (Difference i j) t h = All-cons (λ (u : Term). u.index < depth) (moved_to i t) (turned_to j t ∷ []) h.0 (All-cons (λ (u : Term). u.index < depth) (turned_to j t) [] h.1 (All-nil (λ (u : Term). u.index < depth)))

pub within_spread : (depth : ℕ) (readings : List Reading) (ts : List Term) → All (ReadsWithin depth) readings → All (λ (u : Term). u.index < length readings) ts → All (λ (u : Term). u.index < depth) (spread readings ts)
within_spread depth readings [] h below = All-nil (λ (u : Term). u.index < depth)
within_spread depth readings (t ∷ ts) h below =
    All-append (λ (u : Term). u.index < depth) (terms_at (reading_at readings t.index) t) (spread readings ts)
    (within_at depth (reading_at readings t.index) t (h t.index (One 0) (All-head (λ (u : Term). u.index < length readings) t ts below)))
    (within_spread depth readings ts h (All-tail (λ (u : Term). u.index < length readings) t ts below))

-- ---- how great they are

-- how many values a node shows
abbrev pub values_in : Reading → ℕ
values_in (One i) = 1
values_in (Sum i j) = 2
values_in (Difference i j) = 2

pub powers-terms_at : (r : Reading) (t : Term) → powers (terms_at r t) ≡ values_in r * 2 ^ t.place
powers-terms_at (One i) t = omega arith
powers-terms_at (Sum i j) t = omega arith
powers-terms_at (Difference i j) t = omega arith

pub powers-spread_take : (readings : List Reading) (n : ℕ) (ts : List Term) → powers (spread readings (take n ts)) ≤ powers (spread readings ts)
powers-spread_take readings zero ts = omega arith
powers-spread_take readings (suc n) [] = omega arith
powers-spread_take readings (suc n) (t ∷ ts) =
    let own = terms_at (reading_at readings t.index) t in
    let rest = powers-spread_take readings n ts in
    let less = powers-append own (spread readings (take n ts)) in
    let whole = powers-append own (spread readings ts) in
    omega (arith, rest, less, whole)

pub powers-spread_drop : (readings : List Reading) (n : ℕ) (ts : List Term) → powers (spread readings (drop n ts)) ≤ powers (spread readings ts)
powers-spread_drop readings zero ts = omega arith
powers-spread_drop readings (suc n) [] = omega arith
powers-spread_drop readings (suc n) (t ∷ ts) =
    let rest = powers-spread_drop readings n ts in
    let whole = powers-append (terms_at (reading_at readings t.index) t) (spread readings ts) in
    omega (arith, rest, whole)

-- each power, as often as its node shows a value, is at most the sum
pub each_spread : (readings : List Reading) (ts : List Term) (most : ℕ) → powers (spread readings ts) ≤ most → All (λ (t : Term). values_in (reading_at readings t.index) * 2 ^ t.place ≤ most) ts
each_spread readings [] most h = All-nil (λ (t : Term). values_in (reading_at readings t.index) * 2 ^ t.place ≤ most)
each_spread readings (t ∷ ts) most h =
    let own = powers-terms_at (reading_at readings t.index) t in
    let whole = powers-append (terms_at (reading_at readings t.index) t) (spread readings ts) in
    All-cons (λ (u : Term). values_in (reading_at readings u.index) * 2 ^ u.place ≤ most) t ts (omega (arith, own, whole, h)) (each_spread readings ts most (omega (arith, whole, h)))

-- the magnitudes of taps, each as often as its node shows a value
abbrev pub counted_magnitudes : List Reading → ℕ → List ℤ → ℕ
counted_magnitudes readings index [] = 0
counted_magnitudes readings index (c ∷ cs) = values_in (reading_at readings index) * unsigned_abs c + counted_magnitudes readings (suc index) cs

spread_tap : (readings : List Reading) (index : ℕ) (ts : List Term) → All (λ (t : Term). t.index ≡ index) ts → powers (spread readings ts) ≡ values_in (reading_at readings index) * powers ts
spread_tap readings index [] h = omega arith
spread_tap readings index (t ∷ ts) h =
    let own = powers-terms_at (reading_at readings t.index) t in
    let whole = powers-append (terms_at (reading_at readings t.index) t) (spread readings ts) in
    let rest = spread_tap readings index ts (All-tail (λ (u : Term). u.index ≡ index) t ts h) in
    let at : t.index ≡ index = All-head (λ (u : Term). u.index ≡ index) t ts h in
    let same : values_in (reading_at readings t.index) * 2 ^ t.place ≡ values_in (reading_at readings index) * 2 ^ t.place = ap (λ (n : ℕ). values_in (reading_at readings n) * 2 ^ t.place) at in
    omega (arith, own, whole, rest, same)

of_tap : (index : ℕ) (ds : List Digit) → All (λ (t : Term). t.index ≡ index) (map (term_of index) ds)
of_tap index ds = All-map (λ (t : Term). t.index ≡ index) (term_of index) ds (λ k d inside. refl)

pub powers-spread_from : (readings : List Reading) (index : ℕ) (taps : List ℤ) → powers (spread readings (terms_from 1 0 index taps)) ≤ 2 * counted_magnitudes readings index taps
powers-spread_from readings index [] = omega arith
powers-spread_from readings index (c ∷ cs) =
    let own = tap_terms index c in
    let later = terms_from 1 0 (suc index) cs in
    let split = ap powers (spread-append readings own later) in
    let sum = powers-append (spread readings own) (spread readings later) in
    let first = spread_tap readings index own (of_tap index (non_adjacent c)) in
    let bound : values_in (reading_at readings index) * powers own ≤ values_in (reading_at readings index) * (2 * unsigned_abs c) = mul-le-mul_left (values_in (reading_at readings index)) (tap_powers index c) in
    let rest = powers-spread_from readings (suc index) cs in
    omega (arith, split, sum, first, bound, rest)

-- a value by itself
pub powers-one_value : (r : Reading) → powers (terms_at r one_value) ≤ 2
powers-one_value (One i) = omega arith
powers-one_value (Sum i j) = omega arith
powers-one_value (Difference i j) = omega arith

-- one term more
pub spread_more : (done rest whole : List Term) (readings : List Reading) (t : Term) → done ++ spread readings (t ∷ rest) ≡ whole → (done ++ terms_at (reading_at readings t.index) t) ++ spread readings rest ≡ whole
spread_more done rest whole readings t e = append_assoc done (terms_at (reading_at readings t.index) t) (spread readings rest) ∙ e
