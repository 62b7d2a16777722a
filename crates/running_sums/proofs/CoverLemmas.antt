-- How far the rows of a moving sum reach.
use Rattle.std.proofs.Common.{◌≡◌, ℕ, zero, suc, ◌+◌, ◌≤◌, max, List, [], ◌∷◌, length, refl, ◌∙◌, ap, arith, ℤ, pos, negsuc, ◌+ℤ◌, ◌-ℤ◌, ◌≤ℤ◌}
use Rattle.std.proofs.lemmas.Int.{ints}
use Rattle.mr_values.specs.Sequence.{samples, ones}
use Rattle.running_sums.specs.Weights.{added, behind}
use Rattle.running_sums.specs.Rows.{Response, AreOrdered, summed, summed_row, places, delay, full, onto, trimmed, MovesCover, CoversAll}
use Rattle.running_sums.proofs.RowLemmas.{moved-at, places-same, size-gap}

-- nowhere below 0, and above 0 at the last place
abbrev pub IsCover : List ℤ → Type 0
IsCover [] = Unit {0}
IsCover (x ∷ []) = pos 1 ≤ℤ x
IsCover (x ∷ y ∷ ys) = (pos 0 ≤ℤ x) × IsCover (y ∷ ys)

cover-first : (x : ℤ) (xs : List ℤ) → IsCover (x ∷ xs) → pos 0 ≤ℤ x
cover-first x [] h = omega (arith, ints, h)
cover-first x (y ∷ ys) h = h.0

cover-rest : (x : ℤ) (xs : List ℤ) → IsCover (x ∷ xs) → IsCover xs
cover-rest x [] h = tt
cover-rest x (y ∷ ys) h = h.1

pub cover-added : (a b : List ℤ) → IsCover a → IsCover b → IsCover (added a b)
cover-added [] b h k = k
cover-added (x ∷ xs) [] h k = h
cover-added (x ∷ []) (y ∷ []) h k = omega (arith, ints, h, k)
cover-added (x ∷ []) (y ∷ z ∷ zs) h k = (omega (arith, ints, h, k.0), k.1)
cover-added (x ∷ w ∷ ws) (y ∷ []) h k = (omega (arith, ints, h.0, k), h.1)
cover-added (x ∷ w ∷ ws) (y ∷ z ∷ zs) h k = (omega (arith, ints, h.0, k.0), cover-added (w ∷ ws) (z ∷ zs) h.1 k.1)

cover-later : (w : List ℤ) → 1 ≤ length w → IsCover w → IsCover (pos 0 ∷ w)
cover-later [] any h = absurd (omega (arith, any))
cover-later (x ∷ xs) any h = (omega (arith, ints), h)

behind-some : (d : ℕ) (x : ℤ) (xs : List ℤ) → 1 ≤ length (behind d (x ∷ xs))
behind-some zero x xs = omega arith
behind-some (suc d) x xs = omega arith

pub cover-behind : (d : ℕ) (w : List ℤ) → IsCover w → IsCover (behind d w)
cover-behind d [] h = tt
cover-behind zero (x ∷ xs) h = h
cover-behind (suc d) (x ∷ xs) h = cover-later (behind d (x ∷ xs)) (behind-some d x xs) (cover-behind d (x ∷ xs) h)

pub cover-ones : (n : ℕ) → IsCover (ones n)
cover-ones zero = tt
cover-ones (suc zero) = omega (arith, ints)
cover-ones (suc (suc n)) = (omega (arith, ints), cover-ones (suc n))

cover-summed : (f : ℤ → Response) (count : ℕ) (newest n : ℤ) → IsCover (summed newest count (full f) n)
cover-summed f zero newest n = tt
cover-summed f (suc count) newest n =
    cover-added (behind (delay newest f n) (ones (length (f n).weights))) (summed newest count (full f) (n -ℤ pos 1))
    (cover-behind (delay newest f n) (ones (length (f n).weights)) (cover-ones (length (f n).weights))) (cover-summed f count newest (n -ℤ pos 1))

-- ---- trimmed

trimmed-zeros : (n : ℕ) → trimmed (places n (λ k. pos 0)) ≡ []
trimmed-zeros zero = refl
trimmed-zeros (suc n) = ap (onto (pos 0)) (trimmed-zeros n)

onto-cover : (x : ℤ) (xs : List ℤ) → IsCover (x ∷ xs) → onto x xs ≡ x ∷ xs
onto-cover x (y ∷ ys) h = refl
onto-cover (pos zero) [] h = absurd (omega (arith, ints, h))
onto-cover (pos (suc n)) [] h = refl
onto-cover (negsuc n) [] h = refl

pub trimmed-cover : (w : List ℤ) (n : ℕ) → IsCover w → length w ≤ n → trimmed (places n (λ k. samples w (pos k))) ≡ w
trimmed-cover [] n h le = trimmed-zeros n
trimmed-cover (x ∷ xs) zero h le = absurd (omega (arith, le))
trimmed-cover (x ∷ xs) (suc n) h le =
    let short : length xs ≤ n = omega (arith, le) in
    ap (onto x) (trimmed-cover xs n (cover-rest x xs h) short) ∙ onto-cover x xs h

-- ---- lengths

pub length-ones : (n : ℕ) → length (ones n) ≡ n
length-ones zero = refl
length-ones (suc n) = ap suc (length-ones n)

pub length-added : (a b : List ℤ) → length (added a b) ≡ max (length a) (length b)
length-added [] b = omega arith
length-added (x ∷ xs) [] = omega arith
length-added (x ∷ xs) (y ∷ ys) = ap suc (length-added xs ys) ∙ omega arith

pub length-behind_some : (d : ℕ) (x : ℤ) (xs : List ℤ) → length (behind d (x ∷ xs)) ≡ d + suc (length xs)
length-behind_some zero x xs = omega arith
length-behind_some (suc d) x xs = ap suc (length-behind_some d x xs) ∙ omega arith

pub length-behind_same : (d : ℕ) (v w : List ℤ) → length v ≡ length w → length (behind d v) ≡ length (behind d w)
length-behind_same d [] [] e = refl
length-behind_same d [] (y ∷ ys) e = absurd (omega (arith, e))
length-behind_same d (x ∷ xs) [] e = absurd (omega (arith, e))
length-behind_same d (x ∷ xs) (y ∷ ys) e = omega (arith, e, length-behind_some d x xs, length-behind_some d y ys)

length-behind_more : (d e gap : ℕ) (w : List ℤ) → e ≡ gap + d → length (behind e w) ≤ gap + length (behind d w)
length-behind_more d e gap [] h = omega arith
length-behind_more d e gap (x ∷ xs) h = omega (arith, h, length-behind_some d x xs, length-behind_some e x xs)

length-full : (f : ℤ → Response) (count : ℕ) (newest n : ℤ) → length (summed newest count (full f) n) ≡ length (summed newest count f n)
length-full f zero newest n = refl
length-full f (suc count) newest n =
    let d = delay newest f n in
    let first = length-behind_same d (ones (length (f n).weights)) (f n).weights (length-ones (length (f n).weights)) in
    let rest = length-full f count newest (n -ℤ pos 1) in
    omega (
      arith,
      first,
      rest,
      length-added (behind d (ones (length (f n).weights))) (summed newest count (full f) (n -ℤ pos 1)),
      length-added (behind d (f n).weights) (summed newest count f (n -ℤ pos 1)),
    )

pub covers_all : CoversAll
covers_all f count n = length-full f count (f n).newest n

-- with a later sample as the first and one row less, it is at most so much longer
length-ahead : (f : ℤ → Response) (count gap : ℕ) (newest more n : ℤ) → AreOrdered f → (f n).newest ≤ℤ newest → more ≡ newest +ℤ pos gap
    → length (summed more count f n) ≤ gap + length (summed newest (suc count) f n)
length-ahead f zero gap newest more n ordered le e = omega arith
length-ahead f (suc count) gap newest more n ordered le e =
    let near = size-gap newest (f n).newest le in
    let far = size-gap more (f n).newest (omega (arith, ints, le, e)) in
    let delays : delay more f n ≡ gap + delay newest f n = omega (arith, ints, near, far, e) in
    let first = length-behind_more (delay newest f n) (delay more f n) gap (f n).weights delays in
    let before = ordered.each n 1 in
    let rest = length-ahead f count gap newest more (n -ℤ pos 1) ordered (omega (arith, ints, before, le)) e in
    omega (
      arith,
      first,
      rest,
      length-added (behind (delay more f n) (f n).weights) (summed more count f (n -ℤ pos 1)),
      length-added (behind (delay newest f n) (f n).weights) (summed newest (suc count) f (n -ℤ pos 1)),
    )

length-next : (f : ℤ → Response) (count : ℕ) (n : ℤ) → AreOrdered f
    → length (summed_row (suc count) f n).weights ≤ max (length (f n).weights) (length (summed_row (suc count) f (n -ℤ pos 1)).weights + delay (f n).newest f (n -ℤ pos 1))
length-next f count n ordered =
    let newest = (f n).newest in
    let last = (f (n -ℤ pos 1)).newest in
    let gap = size-gap newest last (ordered.each n 1) in
    let same = size-gap newest newest (omega (arith, ints)) in
    let none : delay newest f n ≡ 0 = omega (arith, ints, same) in
    let first = length-behind_more 0 (delay newest f n) 0 (f n).weights (omega (arith, none)) in
    let whole : length (behind 0 (f n).weights) ≡ length (f n).weights = unmoved (f n).weights in
    let rest = length-ahead f count (delay newest f (n -ℤ pos 1)) last newest (n -ℤ pos 1) ordered (omega (arith, ints)) (omega (arith, ints, gap)) in
    omega (arith, first, whole, rest, length-added (behind (delay newest f n) (f n).weights) (summed newest count f (n -ℤ pos 1)))
  where
    unmoved : (w : List ℤ) → length (behind 0 w) ≡ length w
    unmoved [] = refl
    unmoved (x ∷ xs) = refl

full-ordered : (f : ℤ → Response) → AreOrdered f → AreOrdered (full f)
full-ordered f h = record { each = λ n k. h.each n k }

pub moves_cover : MovesCover
moves_cover f zero n ordered some = absurd (omega (arith, some))
moves_cover f (suc count) n ordered some =
    let s = (summed_row (suc count) (full f) n).weights in
    let total = max (length (f n).weights) (length (summed_row (suc count) (full f) (n -ℤ pos 1)).weights + delay (f n).newest f (n -ℤ pos 1)) in
    let long = length-next (full f) count n (full-ordered f ordered) in
    let e = length-ones (length (f n).weights) in
    ap trimmed (places-same total _ (λ k. samples s (pos k)) (moved-at (full f) (suc count) n (full-ordered f ordered)))
    ∙ trimmed-cover s total (cover-summed f (suc count) (f n).newest n) (omega (arith, long, e))
