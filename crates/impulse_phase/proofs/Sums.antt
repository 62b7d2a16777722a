-- Sums of weights, added in place.
use Rattle.std.proofs.Common.{◌≡◌, ℕ, zero, suc, ◌+◌, ◌*◌, ◌^◌, ◌<◌, ◌≤◌, List, [], ◌∷◌, ◌++◌, length, take, drop, get_or, set, max, replicate, ℤ, pos, ◌+ℤ◌, ◌-ℤ◌, ◌*ℤ◌, unsigned_abs, arith, add-mul, refl, sym, ◌∙◌, ap, subst}
use Rattle.std.proofs.lemmas.Int.{ints}
use Rattle.std.proofs.lemmas.List.{get_or_past, drop_more, drop_all, append-nil, take_all}
use Rattle.std.proofs.Math.Nat.{mul-le-mul_left, mul-le-mul_right}
use Rattle.mr_values.specs.Value.{size}
use Rattle.plan_check.specs.Amounts.{magnitude}
use Rattle.impulse_phase.specs.Response.{Response, added, scaled, behind, combined}
use Rattle.impulse_phase.proofs.Gain.{get_or-added, unsigned_abs-get_or, magnitude-combined}

behind-none : (v : List ℤ) → behind zero v ≡ v
behind-none [] = refl
behind-none (x ∷ v) = refl

-- one more weight
poured-here : (c : ℤ) (w acc : List ℤ) (i : ℕ) → i < length w → length w ≤ length acc
    → set (added (scaled c (take i w)) acc) i (get_or (added (scaled c (take i w)) acc) i (pos 0) +ℤ c *ℤ get_or w i (pos 0)) ≡ added (scaled c (take (suc i) w)) acc
poured-here c [] acc i below room = absurd (omega arith)
poured-here c (x ∷ w) [] i below room = absurd (omega arith)
poured-here c (x ∷ w) (y ∷ acc) zero below room = ap (λ (z : ℤ). z ∷ acc) (omega (arith, ints))
poured-here c (x ∷ w) (y ∷ acc) (suc i) below room = ap (λ (zs : List ℤ). (c *ℤ x +ℤ y) ∷ zs) (poured-here c w acc i (omega arith) (omega arith))

poured : (c : ℤ) (d : ℕ) (w acc : List ℤ) (i at : ℕ) → at ≡ d + i → i < length w → d + length w ≤ length acc
    → set (added (scaled c (behind d (take i w))) acc) at (get_or (added (scaled c (behind d (take i w))) acc) at (pos 0) +ℤ c *ℤ get_or w i (pos 0))
    ≡ added (scaled c (behind d (take (suc i) w))) acc
poured c zero w acc i at is below room =
    let same : at ≡ i = omega arith in
    rw (same, behind-none (take i w), behind-none (take (suc i) w)) (poured-here c w acc i below (omega arith))
poured c (suc d) w [] i at is below room = absurd (omega arith)
poured c (suc d) [] (y ∷ acc) i at is below room = absurd (omega arith)
poured c (suc d) (x ∷ w) (y ∷ acc) i zero is below room = absurd (omega arith)
poured c (suc d) (x ∷ w) (y ∷ acc) zero (suc at) is below room =
    let rest = poured c d (x ∷ w) acc zero at (omega arith) below (omega arith) in
    let head : y ≡ c *ℤ pos 0 +ℤ y = omega (arith, ints) in
    ap (λ (zs : List ℤ). y ∷ zs) rest ∙ ap (λ (z : ℤ). z ∷ added (scaled c (behind d (take 1 (x ∷ w)))) acc) head
poured c (suc d) (x ∷ w) (y ∷ acc) (suc i) (suc at) is below room =
    ap (λ (zs : List ℤ). (c *ℤ pos 0 +ℤ y) ∷ zs) (poured c d (x ∷ w) acc (suc i) at (omega arith) below (omega arith))

pub poured-more : (c : ℤ) (d : ℕ) (w acc : List ℤ) (i : ℕ) → i < length w → d + length w ≤ length acc
    → set (added (scaled c (behind d (take i w))) acc) (d + i) (get_or (added (scaled c (behind d (take i w))) acc) (d + i) (pos 0) +ℤ c *ℤ get_or w i (pos 0))
    ≡ added (scaled c (behind d (take (i + 1) w))) acc
poured-more c d w acc i below room =
    let next : suc i ≡ i + 1 = omega arith in
    poured c d w acc i (d + i) refl below room ∙ ap (λ (n : ℕ). added (scaled c (behind d (take n w))) acc) next

length-scaled : (c : ℤ) (v : List ℤ) → length (scaled c v) ≡ length v
length-scaled c [] = refl
length-scaled c (x ∷ v) = ap suc (length-scaled c v)

length-behind : (d : ℕ) (v : List ℤ) → length (behind d v) ≤ d + length v
length-behind d [] = omega arith
length-behind zero (x ∷ v) = omega arith
length-behind (suc d) (x ∷ v) = omega (arith, length-behind d (x ∷ v))

length-take_most : (i : ℕ) (v : List ℤ) → length (take i v) ≤ i
length-take_most zero v = omega arith
length-take_most (suc i) [] = omega arith
length-take_most (suc i) (x ∷ v) = omega (arith, length-take_most i v)

-- a place that has got no weight yet
untouched : (c : ℤ) (d : ℕ) (w acc : List ℤ) (i : ℕ) → get_or (added (scaled c (behind d (take i w))) acc) (d + i) (pos 0) ≡ get_or acc (d + i) (pos 0)
untouched c d w acc i =
    let taken = scaled c (behind d (take i w)) in
    let short : length taken ≤ d + i = omega (arith, length-scaled c (behind d (take i w)), length-behind d (take i w), length-take_most i w) in
    omega (arith, ints, get_or-added taken acc (d + i), get_or_past taken (d + i) (pos 0) short)

pub place-room : (c : ℤ) (d : ℕ) (w acc : List ℤ) (i : ℕ) → unsigned_abs c * magnitude w + magnitude acc ≤ 2 ^ 126
    → unsigned_abs (get_or (added (scaled c (behind d (take i w))) acc) (d + i) (pos 0)) + unsigned_abs c * unsigned_abs (get_or w i (pos 0)) ≤ 2 ^ 126
place-room c d w acc i room =
    let place : unsigned_abs (get_or (added (scaled c (behind d (take i w))) acc) (d + i) (pos 0)) ≡ unsigned_abs (get_or acc (d + i) (pos 0)) = ap unsigned_abs (untouched c d w acc i) in
    let one : unsigned_abs c * unsigned_abs (get_or w i (pos 0)) ≤ unsigned_abs c * magnitude w = mul-le-mul_left (unsigned_abs c) (unsigned_abs-get_or w i) in
    omega (arith, place, one, unsigned_abs-get_or acc (d + i), room)

-- ---- zeros behind a sum

added-none : (xs : List ℤ) → added xs [] ≡ xs
added-none [] = refl
added-none (x ∷ xs) = refl

magnitude-padded : (acc : List ℤ) (m : ℕ) → magnitude (acc ++ replicate m (pos 0)) ≡ magnitude acc
magnitude-padded [] zero = refl
magnitude-padded [] (suc m) = omega (arith, magnitude-padded [] m)
magnitude-padded (a ∷ acc) m = ap (λ (n : ℕ). unsigned_abs a + n) (magnitude-padded acc m)

added-padded : (xs acc : List ℤ) (m : ℕ) → length (acc ++ replicate m (pos 0)) ≡ max (length xs) (length acc) → added xs (acc ++ replicate m (pos 0)) ≡ added xs acc
added-padded [] [] zero h = refl
added-padded [] [] (suc m) h = absurd (omega arith)
added-padded [] (a ∷ acc) m h = ap (λ (zs : List ℤ). a ∷ zs) (added-padded [] acc m (omega arith))
added-padded (x ∷ xs) [] zero h = refl
added-padded (x ∷ xs) [] (suc m) h =
    let head : x +ℤ pos 0 ≡ x = omega (arith, ints) in
    ap (λ (v : ℤ). v ∷ added xs (replicate m (pos 0))) head ∙ ap (λ (zs : List ℤ). x ∷ zs) (added-padded xs [] m (omega arith) ∙ added-none xs)
added-padded (x ∷ xs) (a ∷ acc) m h = ap (λ (zs : List ℤ). (x +ℤ a) ∷ zs) (added-padded xs acc m (omega arith))

-- a sum that was made longer
pub magnitude-grown : (old new : List ℤ) (n m k : ℕ) → new ≡ take n old ++ replicate m (pos 0) → length old ≤ n → k + magnitude old ≤ 2 ^ 126 → k + magnitude new ≤ 2 ^ 126
magnitude-grown old new n m k is long room =
    let whole : magnitude new ≡ magnitude old = ap magnitude is ∙ ap (λ (zs : List ℤ). magnitude (zs ++ replicate m (pos 0))) (take_all n old long) ∙ magnitude-padded old m in
    omega (arith, whole, room)

pub added-grown : (xs old new : List ℤ) (n m : ℕ) → new ≡ take n old ++ replicate m (pos 0) → length old ≤ n → length new ≡ max (length xs) (length old) → added xs new ≡ added xs old
added-grown xs old new n m is long size =
    let whole : new ≡ old ++ replicate m (pos 0) = is ∙ ap (λ (zs : List ℤ). zs ++ replicate m (pos 0)) (take_all n old long) in
    ap (added xs) whole ∙ added-padded xs old m (subst (λ (zs : List ℤ). length zs ≡ max (length xs) (length old)) whole size)

-- a list that was changed in place
pub slice_back : (new items : List ℤ) (n : ℕ) → n ≡ length items → length new ≡ length items → take n (new ++ drop (length new) items) ≡ new
slice_back new items n is same = ap (λ (rest : List ℤ). take n (new ++ rest)) (drop_all (length new) items (omega arith)) ∙ ap (take n) (append-nil new) ∙ take_all n new (omega arith)

pub length-poured : (c : ℤ) (d : ℕ) (w : List ℤ) → 0 < length w → length (scaled c (behind d w)) ≡ d + length w
length-poured c d w some = length-scaled c (behind d w) ∙ long d w some
  where
    long : (d : ℕ) (w : List ℤ) → 0 < length w → length (behind d w) ≡ d + length w
    long d [] some = absurd (omega arith)
    long zero (x ∷ w) some = omega arith
    long (suc d) (x ∷ w) some = omega (arith, long d (x ∷ w) some)

-- ---- the sum over the taps, from the last one on

combined-same : (newest : ℤ) (cs : List ℤ) (f g : ℕ → Response) → ((k : ℕ) → f k ≡ g k) → combined newest cs f ≡ combined newest cs g
combined-same newest [] f g h = refl
combined-same newest (c ∷ cs) f g h = rw (h zero, combined-same newest cs (λ k. f (suc k)) (λ k. g (suc k)) (λ k. h (suc k))) refl

pub combined-all : (newest : ℤ) (cs : List ℤ) (f : ℕ → Response) → combined newest (drop 0 cs) (λ i. f (0 + i)) ≡ combined newest cs f
combined-all newest cs f = combined-same newest cs (λ i. f (0 + i)) f (λ k. ap f (omega arith))

pub combined-more : (newest : ℤ) (cs : List ℤ) (f : ℕ → Response) (k : ℕ) → k < length cs
    → added (scaled (get_or cs k (pos 0)) (behind (size (newest -ℤ (f k).newest)) (f k).weights)) (combined newest (drop (k + 1) cs) (λ i. f (k + 1 + i)))
    ≡ combined newest (drop k cs) (λ i. f (k + i))
combined-more newest cs f k below =
    let rest = combined-same newest (drop (k + 1) cs) (λ i. f (k + 1 + i)) (λ i. f (k + suc i)) (λ i. ap f (omega arith)) in
    let first : k + 0 ≡ k = omega arith in
    let one = ap (λ (r : Response). added (scaled (get_or cs k (pos 0)) (behind (size (newest -ℤ r.newest)) r.weights)) (combined newest (drop (k + 1) cs) (λ i. f (k + suc i)))) (ap f (sym first)) in
    ap (λ (zs : List ℤ). added (scaled (get_or cs k (pos 0)) (behind (size (newest -ℤ (f k).newest)) (f k).weights)) zs) rest
    ∙ one ∙ sym (ap (λ (ts : List ℤ). combined newest ts (λ i. f (k + i))) (drop_more cs k (pos 0) below))

magnitude-drop : (k : ℕ) (cs : List ℤ) → magnitude (drop k cs) ≤ magnitude cs
magnitude-drop zero cs = omega arith
magnitude-drop (suc k) [] = omega arith
magnitude-drop (suc k) (c ∷ cs) = omega (arith, magnitude-drop k cs)

-- there is room for one more tap
pub combined-room : (newest : ℤ) (cs : List ℤ) (f : ℕ → Response) (gain k : ℕ) → ((i : ℕ) → magnitude (f i).weights ≤ gain) → magnitude cs * gain ≤ 2 ^ 126 → k < length cs
    → unsigned_abs (get_or cs k (pos 0)) * magnitude (f k).weights + magnitude (combined newest (drop (k + 1) cs) (λ i. f (k + 1 + i))) ≤ 2 ^ 126
combined-room newest cs f gain k small room below =
    let left : magnitude (drop k cs) ≡ unsigned_abs (get_or cs k (pos 0)) + magnitude (drop (k + 1) cs) = ap magnitude (drop_more cs k (pos 0) below) in
    omega (
      arith,
      mul-le-mul_left (unsigned_abs (get_or cs k (pos 0))) (small k),
      magnitude-combined newest (drop (k + 1) cs) (λ i. f (k + 1 + i)) gain (λ i. small (k + 1 + i)),
      spread (unsigned_abs (get_or cs k (pos 0))) (magnitude (drop (k + 1) cs)),
      ap (λ (n : ℕ). n * gain) left,
      mul-le-mul_right gain (magnitude-drop k cs),
      room,
    )
  where
    spread : (a b : ℕ) → (a + b) * gain ≡ a * gain + b * gain
    spread a b = add-mul a b gain

-- the same, one tap back
pub combined-back : (newest : ℤ) (cs : List ℤ) (f : ℕ → Response) (left k : ℕ) (sum : List ℤ) → left ≡ k + 1 → left ≤ length cs → sum ≡ combined newest (drop left cs) (λ i. f (left + i))
    → added (scaled (get_or cs k (pos 0)) (behind (size (newest -ℤ (f k).newest)) (f k).weights)) sum ≡ combined newest (drop k cs) (λ i. f (k + i))
combined-back newest cs f left k sum e within is =
    ap (added (scaled (get_or cs k (pos 0)) (behind (size (newest -ℤ (f k).newest)) (f k).weights))) (is ∙ ap (λ (n : ℕ). combined newest (drop n cs) (λ i. f (n + i))) e)
    ∙ combined-more newest cs f k (omega arith)

pub room-back : (newest : ℤ) (cs : List ℤ) (f : ℕ → Response) (gain left k : ℕ) (sum : List ℤ) → ((i : ℕ) → magnitude (f i).weights ≤ gain) → magnitude cs * gain ≤ 2 ^ 126
    → left ≡ k + 1 → left ≤ length cs → sum ≡ combined newest (drop left cs) (λ i. f (left + i)) → unsigned_abs (get_or cs k (pos 0)) * magnitude (f k).weights + magnitude sum ≤ 2 ^ 126
room-back newest cs f gain left k sum small room e within is =
    subst (λ (zs : List ℤ). unsigned_abs (get_or cs k (pos 0)) * magnitude (f k).weights + magnitude zs ≤ 2 ^ 126)
    (sym (is ∙ ap (λ (n : ℕ). combined newest (drop n cs) (λ i. f (n + i))) e)) (combined-room newest cs f gain k small room (omega arith))
