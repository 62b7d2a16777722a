-- How large the weights of a chain's responses are.
use Rattle.std.proofs.Common.{◌≡◌, ℕ, zero, suc, ◌+◌, ◌-◌, ◌*◌, ◌^◌, ◌<◌, ◌≤◌, List, [], ◌∷◌, length, take, get_or, add-one, ◌≤ℤ◌, neg_ℤ, ℤ, pos, negsuc, ◌+ℤ◌, ◌-ℤ◌, ◌*ℤ◌, Bool, true, false, cond, nat_eq, unsigned_abs, arith, add-mul, mul_assoc, refl, sym, ◌∙◌, ap, subst}
use Rattle.std.proofs.Math.Nat.{mul-le-mul_left, pow-suc, pow-zero, mul_comm, mul-add}
use Rattle.std.proofs.lemmas.Int.{ints}
use Rattle.mr_values.specs.declared.plan.Element.{Element}
use Rattle.mr_values.specs.declared.plan.Element.TheVariants.{Up, Down, Filter, CicDown, CicUp, Round, Clip}
use Rattle.mr_values.specs.Width.{floor_quotient, floor_remainder}
use Rattle.mr_values.specs.Sequence.{ones}
use Rattle.mr_values.specs.Value.{size}
use Rattle.mr_values.specs.Timing.{least_term, low_end}
use Rattle.impulse_phase.specs.Response.{Response, Responses, added, scaled, behind, combined, through_up, through_filter, through_filters, through, through_all, direct, responses, IsLinear, AreLinear}
use Rattle.plan_check.specs.Amounts.{magnitude}
use Rattle.impulse_phase.specs.Gain.{HasGain, gain_after, gain_after_all}

unsigned_abs-sum : (x y : ℤ) → unsigned_abs (x +ℤ y) ≤ unsigned_abs x + unsigned_abs y
unsigned_abs-sum x y = at x y (x +ℤ y) refl
  where
    at : (x y z : ℤ) → x +ℤ y ≡ z → unsigned_abs z ≤ unsigned_abs x + unsigned_abs y
    at (pos a) (pos b) (pos c) e = omega (arith, ints)
    at (pos a) (pos b) (negsuc c) e = absurd (omega (arith, ints))
    at (pos a) (negsuc b) (pos c) e = omega (arith, ints)
    at (pos a) (negsuc b) (negsuc c) e = omega (arith, ints)
    at (negsuc a) (pos b) (pos c) e = omega (arith, ints)
    at (negsuc a) (pos b) (negsuc c) e = omega (arith, ints)
    at (negsuc a) (negsuc b) (pos c) e = absurd (omega (arith, ints))
    at (negsuc a) (negsuc b) (negsuc c) e = omega (arith, ints)

unsigned_abs-product : (x y : ℤ) → unsigned_abs (x *ℤ y) ≡ unsigned_abs x * unsigned_abs y
unsigned_abs-product x y = at x y (x *ℤ y) refl
  where
    at : (x y z : ℤ) → x *ℤ y ≡ z → unsigned_abs z ≡ unsigned_abs x * unsigned_abs y
    at (pos a) (pos b) (pos c) e = omega (arith, ints)
    at (pos a) (pos b) (negsuc c) e = absurd (omega (arith, ints))
    at (pos a) (negsuc b) (pos c) e = omega (arith, ints)
    at (pos a) (negsuc b) (negsuc c) e = omega (arith, ints)
    at (negsuc a) (pos b) (pos c) e = omega (arith, ints)
    at (negsuc a) (pos b) (negsuc c) e = omega (arith, ints)
    at (negsuc a) (negsuc b) (pos c) e = omega (arith, ints)
    at (negsuc a) (negsuc b) (negsuc c) e = absurd (omega (arith, ints))

magnitude-added : (a b : List ℤ) → magnitude (added a b) ≤ magnitude a + magnitude b
magnitude-added [] b = omega arith
magnitude-added (x ∷ a) [] = omega arith
magnitude-added (x ∷ a) (y ∷ b) = omega (arith, magnitude-added a b, unsigned_abs-sum x y)

magnitude-scaled : (c : ℤ) (a : List ℤ) → magnitude (scaled c a) ≡ unsigned_abs c * magnitude a
magnitude-scaled c [] = omega arith
magnitude-scaled c (x ∷ a) = omega (arith, magnitude-scaled c a, unsigned_abs-product c x, mul-add (unsigned_abs c) (unsigned_abs x) (magnitude a))

magnitude-behind : (d : ℕ) (a : List ℤ) → magnitude (behind d a) ≡ magnitude a
magnitude-behind d [] = refl
magnitude-behind zero (x ∷ a) = refl
magnitude-behind (suc d) (x ∷ a) = omega (arith, magnitude-behind d (x ∷ a))

pub magnitude-combined : (newest : ℤ) (cs : List ℤ) (f : ℕ → Response) (gain : ℕ) → ((k : ℕ) → magnitude (f k).weights ≤ gain)
    → magnitude (combined newest cs f) ≤ magnitude cs * gain
magnitude-combined newest [] f gain h = omega arith
magnitude-combined newest (c ∷ cs) f gain h =
    let first = behind (size (newest -ℤ (f zero).newest)) (f zero).weights in
    omega (
      arith,
      magnitude-added (scaled c first) (combined newest cs (λ k. f (suc k))),
      magnitude-scaled c first,
      ap (λ (n : ℕ). unsigned_abs c * n) (magnitude-behind (size (newest -ℤ (f zero).newest)) (f zero).weights),
      mul-le-mul_left (unsigned_abs c) (h zero),
      magnitude-combined newest cs (λ k. f (suc k)) gain (λ k. h (suc k)),
      add-mul (unsigned_abs c) (magnitude cs) gain,
    )

filter-gain : (taps : List ℤ) (f : Responses) (gain : ℕ) → HasGain f gain → HasGain (through_filter taps f) (magnitude taps * gain)
filter-gain taps f gain h n = magnitude-combined (f n).newest taps (λ k. f (n -ℤ pos k)) gain (λ k. h (n -ℤ pos k))

pub up-gain : (factor : ℕ) (f : Responses) (gain : ℕ) → HasGain f gain → HasGain (through_up factor f) gain
up-gain factor f gain h n = either (nat_eq (floor_remainder n factor) 0)
  where
    either : (b : Bool) → magnitude (cond b (f (floor_quotient n factor)).weights []) ≤ gain
    either true = h (floor_quotient n factor)
    either false = omega arith

pub magnitude-ones : (n : ℕ) → magnitude (ones n) ≡ n
magnitude-ones zero = refl
magnitude-ones (suc n) = omega (arith, magnitude-ones n)

pub filters-gain : (n width : ℕ) (f : Responses) (gain : ℕ) → HasGain f gain → HasGain (through_filters n (ones width) f) (width ^ n * gain)
filters-gain zero width f gain h = λ n. omega (arith, h n, ap (λ (m : ℕ). m * gain) (pow-zero width))
filters-gain (suc n) width f gain h =
    subst (HasGain (through_filters (suc n) (ones width) f)) (powers n) (filter-gain (ones width) (through_filters n (ones width) f) (width ^ n * gain) (filters-gain n width f gain h))
  where
    powers : (n : ℕ) → magnitude (ones width) * (width ^ n * gain) ≡ width ^ suc n * gain
    powers n = ap (λ (m : ℕ). m * (width ^ n * gain)) (magnitude-ones width) ∙ sym (mul_assoc width (width ^ n) gain) ∙ ap (λ (m : ℕ). m * gain) (mul_comm width (width ^ n) ∙ sym (pow-suc width n))

element-gain : (e : Element) (f : Responses) (gain : ℕ) → IsLinear e → HasGain f gain → HasGain (through e f) (gain_after e gain)
element-gain (Up factor) f gain linear h = up-gain (size factor) f gain h
element-gain (Down factor) f gain linear h = λ n. h (n *ℤ pos (size factor))
element-gain (Filter taps form) f gain linear h = filter-gain taps f gain h
element-gain (CicDown factor stages delay) f gain linear h = λ n. filters-gain (size stages) (size factor * size delay) f gain h (n *ℤ pos (size factor))
element-gain (CicUp factor stages delay) f gain linear h = filters-gain (size stages) (size factor * size delay) (through_up (size factor) f) gain (up-gain (size factor) f gain h)
element-gain (Round shift mode) f gain linear h = absurd linear
element-gain (Clip bits) f gain linear h = absurd linear

elements-gain : (es : List Element) (f : Responses) (gain : ℕ) → AreLinear es → HasGain f gain → HasGain (through_all es f) (gain_after_all es gain)
elements-gain [] f gain linear h = h
elements-gain (e ∷ es) f gain linear h = elements-gain es (through e f) (gain_after e gain) linear.1 (element-gain e f gain linear.0 h)

-- the magnitude of a response's weights add up to the gain of the prefix at most
pub prefix-gain : (es : List Element) → AreLinear es → HasGain (responses es) (gain_after_all es 1)
prefix-gain es linear = elements-gain es direct 1 linear (λ n. omega arith)

-- ---- the ends of a response, weight by weight

pub unsigned_abs-get_or : (cs : List ℤ) (k : ℕ) → unsigned_abs (get_or cs k (pos 0)) ≤ magnitude cs
unsigned_abs-get_or [] k = omega arith
unsigned_abs-get_or (c ∷ cs) zero = omega arith
unsigned_abs-get_or (c ∷ cs) (suc k) = omega (arith, unsigned_abs-get_or cs k)

pub low_end-take_suc : (cs : List ℤ) (low high : ℤ) (k : ℕ) → k < length cs
    → low_end (take (suc k) cs) low high ≡ low_end (take k cs) low high +ℤ least_term low high (get_or cs k (pos 0))
low_end-take_suc [] low high k h = absurd (omega arith)
low_end-take_suc (c ∷ cs) low high zero h = omega (arith, ints)
low_end-take_suc (c ∷ cs) low high (suc k) h = omega (arith, ints, low_end-take_suc cs low high k (omega arith))

least_term-within : (c low high : ℤ) (m : ℕ) → unsigned_abs low ≤ m → unsigned_abs high ≤ m → unsigned_abs (least_term low high c) ≤ unsigned_abs c * m
least_term-within (pos c) low high m l h = omega (arith, unsigned_abs-product (pos c) low, mul-le-mul_left c l)
least_term-within (negsuc c) low high m l h = omega (arith, unsigned_abs-product (negsuc c) high, mul-le-mul_left (suc c) h)

pub low_end-within : (cs : List ℤ) (low high : ℤ) (m : ℕ) → unsigned_abs low ≤ m → unsigned_abs high ≤ m → unsigned_abs (low_end cs low high) ≤ magnitude cs * m
low_end-within [] low high m l h = omega arith
low_end-within (c ∷ cs) low high m l h =
    omega (arith, unsigned_abs-sum (least_term low high c) (low_end cs low high), least_term-within c low high m l h, low_end-within cs low high m l h, add-mul (unsigned_abs c) (magnitude cs) m)

pub magnitude-take : (k : ℕ) (cs : List ℤ) → magnitude (take k cs) ≤ magnitude cs
magnitude-take zero cs = omega arith
magnitude-take (suc k) [] = omega arith
magnitude-take (suc k) (c ∷ cs) = omega (arith, magnitude-take k cs)

pub unsigned_abs-within : (z : ℤ) (m : ℕ) → neg_ℤ (pos m) ≤ℤ z → z ≤ℤ pos m → unsigned_abs z ≤ m
unsigned_abs-within (pos n) m l h = omega (arith, ints)
unsigned_abs-within (negsuc n) m l h = omega (arith, ints)

pub within-unsigned_abs : (z : ℤ) (m : ℕ) → unsigned_abs z ≤ m → (neg_ℤ (pos m) ≤ℤ z) × (z ≤ℤ pos m)
within-unsigned_abs (pos n) m h = (omega (arith, ints), omega (arith, ints))
within-unsigned_abs (negsuc n) m h = (omega (arith, ints), omega (arith, ints))

-- the step of a loop that sums an end
pub end-step : (cs : List ℤ) (low high : ℤ) (k : ℕ) (sum term : ℤ) → k < length cs → unsigned_abs low ≤ 2 ^ 63 → unsigned_abs high ≤ 2 ^ 63 → magnitude cs ≤ 2 ^ 63
    → sum ≡ low_end (take k cs) low high → term ≡ least_term low high (get_or cs k (pos 0))
    → (sum +ℤ term ≡ low_end (take (k + 1) cs) low high) × (neg_ℤ (pos (2 ^ 126)) ≤ℤ (sum +ℤ term)) × ((sum +ℤ term) ≤ℤ pos (2 ^ 126))
end-step cs low high k sum term below l h room is_sum is_term =
    let is : sum +ℤ term ≡ low_end (take (k + 1) cs) low high = rw add-one (omega (arith, ints, is_sum, is_term, low_end-take_suc cs low high k below)) in
    let small : unsigned_abs (low_end (take (k + 1) cs) low high) ≤ 2 ^ 126 = omega (arith, low_end-within (take (k + 1) cs) low high (2 ^ 63) l h, magnitude-take (k + 1) cs, room) in
    let ends = within-unsigned_abs (low_end (take (k + 1) cs) low high) (2 ^ 126) small in
    (is, rw is ends.0, rw is ends.1)

-- ---- a sum of weights, place by place

pub behind_before : (d : ℕ) (a : List ℤ) (i : ℕ) → i < d → get_or (behind d a) i (pos 0) ≡ pos 0
behind_before d [] i h = refl
behind_before zero (x ∷ a) i h = absurd (omega arith)
behind_before (suc d) (x ∷ a) zero h = refl
behind_before (suc d) (x ∷ a) (suc i) h = behind_before d (x ∷ a) i (omega arith)

pub behind_after : (d : ℕ) (a : List ℤ) (i : ℕ) → d ≤ i → get_or (behind d a) i (pos 0) ≡ get_or a (i - d) (pos 0)
behind_after d [] i h = refl
behind_after zero (x ∷ a) i h = ap (λ (n : ℕ). get_or (x ∷ a) n (pos 0)) (omega arith)
behind_after (suc d) (x ∷ a) zero h = absurd (omega arith)
behind_after (suc d) (x ∷ a) (suc i) h = let e : suc i - suc d ≡ i - d = omega arith in rw e (behind_after d (x ∷ a) i (omega arith))

pub get_or-added : (a b : List ℤ) (i : ℕ) → get_or (added a b) i (pos 0) ≡ get_or a i (pos 0) +ℤ get_or b i (pos 0)
get_or-added [] b i = omega (arith, ints)
get_or-added (x ∷ a) [] i = omega (arith, ints)
get_or-added (x ∷ a) (y ∷ b) zero = refl
get_or-added (x ∷ a) (y ∷ b) (suc i) = get_or-added a b i

pub get_or-scaled : (c : ℤ) (a : List ℤ) (i : ℕ) → get_or (scaled c a) i (pos 0) ≡ c *ℤ get_or a i (pos 0)
get_or-scaled c [] i = omega (arith, ints)
get_or-scaled c (x ∷ a) zero = refl
get_or-scaled c (x ∷ a) (suc i) = get_or-scaled c a i

pub scaled-within : (c : ℤ) (a : List ℤ) (i : ℕ) → unsigned_abs (c *ℤ get_or a i (pos 0)) ≤ unsigned_abs c * magnitude a
scaled-within c a i = omega (arith, unsigned_abs-product c (get_or a i (pos 0)), mul-le-mul_left (unsigned_abs c) (unsigned_abs-get_or a i))

-- the same, as the bits of a product and of a sum need it
pub scaled-ends : (c : ℤ) (a : List ℤ) (i : ℕ) → unsigned_abs c * magnitude a ≤ 2 ^ 126
    → (neg_ℤ (pos (2 ^ 126)) ≤ℤ (c *ℤ get_or a i (pos 0))) × ((c *ℤ get_or a i (pos 0)) ≤ℤ pos (2 ^ 126))
scaled-ends c a i room = within-unsigned_abs (c *ℤ get_or a i (pos 0)) (2 ^ 126) (omega (arith, scaled-within c a i, room))

pub added-ends : (c : ℤ) (d : ℕ) (a b : List ℤ) (i : ℕ) → unsigned_abs c * magnitude a + magnitude b ≤ 2 ^ 126
    → (neg_ℤ (pos (2 ^ 126)) ≤ℤ (c *ℤ get_or (behind d a) i (pos 0) +ℤ get_or b i (pos 0))) × ((c *ℤ get_or (behind d a) i (pos 0) +ℤ get_or b i (pos 0)) ≤ℤ pos (2 ^ 126))
added-ends c d a b i room =
    within-unsigned_abs (c *ℤ get_or (behind d a) i (pos 0) +ℤ get_or b i (pos 0)) (2 ^ 126) (omega (
      arith,
      unsigned_abs-sum (c *ℤ get_or (behind d a) i (pos 0)) (get_or b i (pos 0)),
      scaled-within c (behind d a) i,
      ap (λ (n : ℕ). unsigned_abs c * n) (magnitude-behind d a),
      unsigned_abs-get_or b i,
      room,
    ))

pub added-place : (c : ℤ) (d : ℕ) (a b : List ℤ) (i : ℕ) → c *ℤ get_or (behind d a) i (pos 0) +ℤ get_or b i (pos 0) ≡ get_or (added (scaled c (behind d a)) b) i (pos 0)
added-place c d a b i = sym (get_or-added (scaled c (behind d a)) b i ∙ ap (λ (z : ℤ). z +ℤ get_or b i (pos 0)) (get_or-scaled c (behind d a) i))
