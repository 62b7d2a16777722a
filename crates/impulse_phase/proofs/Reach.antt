-- How far back the responses of a chain reach.
use Rattle.std.proofs.Common.{◌≡◌, ℕ, zero, suc, ◌+◌, ◌-◌, ◌*◌, ◌<◌, ◌≤◌, List, [], ◌∷◌, length, ℤ, pos, negsuc, ◌+ℤ◌, ◌-ℤ◌, ◌*ℤ◌, ◌≤ℤ◌, ◌<ℤ◌, max, Bool, true, false, cond, nat_eq, arith, add-mul, mul_assoc, refl, sym, ◌∙◌, ap, subst}
use Rattle.std.proofs.lemmas.Int.{ints}
use Rattle.std.proofs.lemmas.Bool.{eqb-true}
use Rattle.std.proofs.lemmas.List.{length-replicate}
use lib.IntN.{*ℤ_comm, +ℤ_idr}
use Rattle.mr_values.specs.declared.plan.Element.{Element}
use Rattle.mr_values.specs.declared.plan.Element.TheVariants.{Up, Down, Filter, CicDown, CicUp, Round, Clip}
use Rattle.mr_values.specs.Width.{floor_quotient, floor_remainder}
use Rattle.std.proofs.lemmas.Nat.{div-add-mod', mod_below}
use Rattle.mr_values.specs.Timing.{ceil_div}
use Rattle.mr_values.specs.Sequence.{Sequence, ones, up}
use Rattle.mr_values.specs.Value.{size, apply}
use Rattle.mr_values.proofs.Ring.{+ℤ-*ℤ, *ℤ-+ℤ, *ℤ_assoc}
use Rattle.mr_values.proofs.Division.{floor_split}
use Rattle.impulse_phase.specs.Response.{Response, Responses, added, scaled, behind, combined, through_up, through_down, through_filter, through_filters, through, through_all, direct, responses, HasResponses, Cycle, cycle_after, IsLinear, AreLinear}
use Rattle.impulse_phase.specs.Reach.{HasReach, Extent, IsExtent, extent_up, extent_down, extent_back, extent_after, extent_after_all, extent}
use Rattle.impulse_phase.proofs.Ends.{times_up}
use Rattle.impulse_phase.proofs.Steps.{direct-has, filters-keep, up-keeps}
use Rattle.impulse_phase.proofs.Prefix.{element-keeps}

length-added : (a b : List ℤ) → length (added a b) ≡ max (length a) (length b)
length-added [] b = omega arith
length-added (x ∷ a) [] = omega arith
length-added (x ∷ a) (y ∷ b) = omega (arith, length-added a b)

length-scaled : (c : ℤ) (a : List ℤ) → length (scaled c a) ≡ length a
length-scaled c [] = refl
length-scaled c (x ∷ a) = ap suc (length-scaled c a)

-- no weights, or all of them and d more
length-behind : (d : ℕ) (a : List ℤ) → 0 < length (behind d a) → (0 < length a) × (length (behind d a) ≡ d + length a)
length-behind d [] h = absurd (omega arith)
length-behind zero (x ∷ a) h = (omega arith, omega arith)
length-behind (suc d) (x ∷ a) h = (omega arith, omega (arith, behind-positive d x a, (length-behind d (x ∷ a) (behind-positive d x a)).1))
  where
    behind-positive : (d : ℕ) (x : ℤ) (a : List ℤ) → 0 < length (behind d (x ∷ a))
    behind-positive zero x a = omega arith
    behind-positive (suc d) x a = omega arith

-- the farthest of a sum of responses
combined-oldest : (newest z : ℤ) (up slack : ℕ) (cs : List ℤ) (f : ℕ → Response) → ((k : ℕ) → (f k).newest ≤ℤ newest)
    → ((k : ℕ) → k < length cs → 0 < length (f k).weights → z ≤ℤ (((f k).newest -ℤ pos (length (f k).weights)) *ℤ pos up +ℤ pos slack))
    → 0 < length (combined newest cs f) → z ≤ℤ ((newest -ℤ pos (length (combined newest cs f))) *ℤ pos up +ℤ pos slack)
combined-oldest newest z up slack [] f o h positive = absurd (omega arith)
combined-oldest newest z up slack (c ∷ cs) f o h positive =
    let d = size (newest -ℤ (f zero).newest) in
    let first = behind d (f zero).weights in
    let rest = combined newest cs (λ k. f (suc k)) in
    let longest : length (added (scaled c first) rest) ≡ max (length first) (length rest) = omega (arith, length-added (scaled c first) rest, length-scaled c first) in
    either (length first) (length rest) (length (added (scaled c first) rest)) longest positive
    (λ some.
    let parts = length-behind d (f zero).weights some in
    let at : newest -ℤ pos (length first) ≡ (f zero).newest -ℤ pos (length (f zero).weights) = omega (arith, ints, parts.1, gap (newest -ℤ (f zero).newest) refl (o zero)) in
    subst (λ (y : ℤ). z ≤ℤ (y *ℤ pos up +ℤ pos slack)) (sym at) (h zero (omega arith) parts.0))
    (combined-oldest newest z up slack cs (λ k. f (suc k)) (λ k. o (suc k)) (λ k below. h (suc k) (omega arith)))
  where
    gap : (e : ℤ) → newest -ℤ (f zero).newest ≡ e → (f zero).newest ≤ℤ newest → pos (size (newest -ℤ (f zero).newest)) ≡ newest -ℤ (f zero).newest
    gap (pos e) is l = rw is refl
    gap (negsuc e) is l = absurd (omega (arith, ints))

    either : (a b n : ℕ) → n ≡ max a b → 0 < n → (0 < a → z ≤ℤ ((newest -ℤ pos a) *ℤ pos up +ℤ pos slack)) → (0 < b → z ≤ℤ ((newest -ℤ pos b) *ℤ pos up +ℤ pos slack))
        → z ≤ℤ ((newest -ℤ pos n) *ℤ pos up +ℤ pos slack)
    either a b n e some left right = grind arith

pub direct-reach : HasReach direct 1 1 1
direct-reach = record { newest = λ n. omega (arith, ints); oldest = λ n some. omega (arith, ints) }

pub times-le : (a b c : ℕ) → a ≤ b → a * c ≤ b * c
times-le a b c h = omega (arith, times_up c (pos a) (pos b) (omega (arith, ints)), ints)

pub filter-reach : (taps : List ℤ) (f : Responses) (up down slack : ℕ) → ((n : ℤ) (k : ℕ) → (f (n -ℤ pos k)).newest ≤ℤ (f n).newest)
    → HasReach f up down slack → HasReach (through_filter taps f) up down (slack + (length taps - 1) * down)
filter-reach taps f up down slack ordered h = record {
  newest = h.newest;
  oldest = λ n some. combined-oldest (f n).newest (n *ℤ pos down) up (slack + (length taps - 1) * down) taps (λ k. f (n -ℤ pos k)) (ordered n) (back n) some;
}
  where
    back : (n : ℤ) (k : ℕ) → k < length taps → 0 < length (f (n -ℤ pos k)).weights
        → (n *ℤ pos down) ≤ℤ (((f (n -ℤ pos k)).newest -ℤ pos (length (f (n -ℤ pos k)).weights)) *ℤ pos up +ℤ pos (slack + (length taps - 1) * down))
    back n k below some =
        let again : n ≡ (n -ℤ pos k) +ℤ pos k = omega (arith, ints) in
        omega (
          arith,
          ints,
          h.oldest (n -ℤ pos k) some,
          ap (λ (z : ℤ). z *ℤ pos down) again,
          +ℤ-*ℤ (n -ℤ pos k) (pos k) (pos down),
          times-le k (length taps - 1) down (omega arith),
        )

pub down-reach : (factor : ℕ) (f : Responses) (up down slack : ℕ) → HasReach f up down slack → HasReach (through_down factor f) up (factor * down) slack
down-reach factor f up down slack h = record {
  newest = λ n. omega (arith, ints, h.newest (n *ℤ pos factor), *ℤ_assoc n (pos factor) (pos down), ap (λ (z : ℤ). n *ℤ z) (product factor down));
  oldest = λ n some. omega (arith, ints, h.oldest (n *ℤ pos factor) some, *ℤ_assoc n (pos factor) (pos down), ap (λ (z : ℤ). n *ℤ z) (product factor down));
}
  where
    product : (a b : ℕ) → pos a *ℤ pos b ≡ pos (a * b)
    product a b = omega (arith, ints)

pub up-reach : (factor : ℕ) (f : Responses) (up down slack : ℕ) → 0 < factor → HasReach f up down slack → HasReach (through_up factor f) (up * factor) down (slack * factor)
up-reach factor f up down slack positive h = record {
  newest = λ n. omega (
    arith,
    ints,
    times_up factor _ _ (h.newest (floor_quotient n factor)),
    turned (f (floor_quotient n factor)).newest up,
    turned (floor_quotient n factor) down,
    at n,
    +ℤ-*ℤ (floor_quotient n factor *ℤ pos factor) (pos (floor_remainder n factor)) (pos down),
    swapped (floor_quotient n factor) factor down,
  );
  oldest = λ n some. whole n (nat_eq (floor_remainder n factor) 0) refl some;
}
  where
    turned : (a : ℤ) (b : ℕ) → pos factor *ℤ (a *ℤ pos b) ≡ a *ℤ pos (b * factor)
    turned a b = *ℤ_comm (pos factor) (a *ℤ pos b) ∙ *ℤ_assoc a (pos b) (pos factor) ∙ ap (λ (z : ℤ). a *ℤ z) (omega (arith, ints))

    swapped : (q : ℤ) (a b : ℕ) → (q *ℤ pos a) *ℤ pos b ≡ q *ℤ pos (b * a)
    swapped q a b = *ℤ_assoc q (pos a) (pos b) ∙ ap (λ (z : ℤ). q *ℤ z) (omega (arith, ints))

    at : (n : ℤ) → n *ℤ pos down ≡ (floor_quotient n factor *ℤ pos factor +ℤ pos (floor_remainder n factor)) *ℤ pos down
    at n = ap (λ (z : ℤ). z *ℤ pos down) (floor_split n factor positive)

    whole : (n : ℤ) (b : Bool) → nat_eq (floor_remainder n factor) 0 ≡ b → 0 < length (cond b (f (floor_quotient n factor)).weights [])
        → (n *ℤ pos down) ≤ℤ (((f (floor_quotient n factor)).newest -ℤ pos (length (cond b (f (floor_quotient n factor)).weights []))) *ℤ pos (up * factor) +ℤ pos (slack * factor))
    whole n false e some = absurd (omega arith)
    whole n true e some =
        let r = f (floor_quotient n factor) in
        let none : floor_remainder n factor ≡ 0 = eqb-true (floor_remainder n factor) 0 e in
        let scaled_up : n *ℤ pos down ≡ floor_quotient n factor *ℤ pos (down * factor) =
        at n
        ∙ ap (λ (m : ℕ). (floor_quotient n factor *ℤ pos factor +ℤ pos m) *ℤ pos down) none
        ∙ ap (λ (z : ℤ). z *ℤ pos down) (+ℤ_idr (floor_quotient n factor *ℤ pos factor))
        ∙ swapped (floor_quotient n factor) factor down in
        let oldest : (n *ℤ pos down) ≤ℤ ((r.newest -ℤ pos (length r.weights)) *ℤ pos (up * factor) +ℤ pos (slack * factor)) =
        omega (
          arith,
          ints,
          times_up factor _ _ (h.oldest (floor_quotient n factor) some),
          *ℤ-+ℤ (pos factor) ((r.newest -ℤ pos (length r.weights)) *ℤ pos up) (pos slack),
          turned (r.newest -ℤ pos (length r.weights)) up,
          turned (floor_quotient n factor) down,
          scaled_up,
        ) in
        oldest

pub filters-reach : (n : ℕ) (taps : List ℤ) (transform : Sequence → Sequence) (f : Responses) (classes step : ℕ) (up down slack : ℕ) → HasResponses transform f classes step
    → HasReach f up down slack → HasReach (through_filters n taps f) up down (slack + n * (length taps - 1) * down)
filters-reach zero taps transform f classes step up down slack law h = subst (λ (s : ℕ). HasReach f up down s) (omega arith) h
filters-reach (suc n) taps transform f classes step up down slack law h =
    subst (λ (s : ℕ). HasReach (through_filters (suc n) taps f) up down s) (more n (length taps - 1))
    (filter-reach taps (through_filters n taps f) up down (slack + n * (length taps - 1) * down) (filters-keep n taps transform f classes step law).ordered
    (filters-reach n taps transform f classes step up down slack law h))
  where
    one_more : (n t : ℕ) → suc n * t ≡ n * t + t
    one_more n t = omega arith

    more : (n t : ℕ) → slack + n * t * down + t * down ≡ slack + suc n * t * down
    more n t = omega (arith, add-mul (n * t) t down, ap (λ (m : ℕ). m * down) (one_more n t))

-- ---- the extent of a prefix

ceil_div-covers : (n d : ℕ) → 0 < d → n ≤ ceil_div n d * d
ceil_div-covers n d h = omega (arith, div-add-mod' (n + (d - 1)) d, mod_below (n + (d - 1)) d h)

covers-back : (taps : ℕ) (p : Extent) → p.slack ≤ p.reach * p.up → 0 < p.up → (extent_back taps p).slack ≤ (extent_back taps p).reach * (extent_back taps p).up
covers-back taps p h positive = omega (arith, ceil_div-covers (taps * p.down) p.up positive, add-mul p.reach (ceil_div (taps * p.down) p.up) p.up)

covers-up : (factor : ℕ) (p : Extent) → p.slack ≤ p.reach * p.up → (extent_up factor p).slack ≤ (extent_up factor p).reach * (extent_up factor p).up
covers-up factor p h = subst (λ (n : ℕ). p.slack * factor ≤ n) (mul_assoc p.reach p.up factor) (times-le p.slack (p.reach * p.up) factor h)

product-positive : (a b : ℕ) → 0 < a → 0 < b → 0 < a * b
product-positive zero b ha hb = absurd (omega arith)
product-positive (suc a) b ha hb = omega arith

extent-back : (n : ℕ) (taps : List ℤ) (count : ℕ) (transform : Sequence → Sequence) (f : Responses) (classes step : ℕ) (p : Extent) → HasResponses transform f classes step
    → count ≡ length taps → IsExtent f p → IsExtent (through_filters n taps f) (extent_back (n * (count - 1)) p)
extent-back n taps count transform f classes step p law e h = record {
  reach = subst (λ (m : ℕ). HasReach (through_filters n taps f) p.up p.down (p.slack + n * (m - 1) * p.down)) (sym e) (filters-reach n taps transform f classes step p.up p.down p.slack law h.reach);
  covers = covers-back (n * (count - 1)) p h.covers h.has_up;
  has_up = h.has_up;
  has_down = h.has_down;
}

extent-down : (factor : ℕ) (f : Responses) (p : Extent) → 0 < factor → IsExtent f p → IsExtent (through_down factor f) (extent_down factor p)
extent-down factor f p positive h = record {
  reach = down-reach factor f p.up p.down p.slack h.reach;
  covers = h.covers;
  has_up = h.has_up;
  has_down = product-positive factor p.down positive h.has_down;
}

extent-up : (factor : ℕ) (f : Responses) (p : Extent) → 0 < factor → IsExtent f p → IsExtent (through_up factor f) (extent_up factor p)
extent-up factor f p positive h = record {
  reach = up-reach factor f p.up p.down p.slack positive h.reach;
  covers = covers-up factor p h.covers;
  has_up = product-positive p.up factor h.has_up positive;
  has_down = h.has_down;
}

element-extent : (e : Element) (transform : Sequence → Sequence) (f : Responses) (q : Cycle) (p : Extent) → IsLinear e → HasResponses transform f q.classes q.step
    → IsExtent f p → IsExtent (through e f) (extent_after e p)
element-extent (Up factor) transform f q p linear law h = extent-up (size factor) f p linear h
element-extent (Down factor) transform f q p linear law h = extent-down (size factor) f p linear h
element-extent (Filter taps form) transform f q p linear law h = record {
  reach = filter-reach taps f p.up p.down p.slack law.ordered h.reach;
  covers = covers-back (length taps - 1) p h.covers h.has_up;
  has_up = h.has_up;
  has_down = h.has_down;
}
element-extent (CicDown factor stages delay) transform f q p linear law h =
    let width = size factor * size delay in
    extent-down (size factor) (through_filters (size stages) (ones width) f) (extent_back (size stages * (width - 1)) p) linear
    (extent-back (size stages) (ones width) width transform f q.classes q.step p law (sym (length-replicate width (pos 1))) h)
element-extent (CicUp factor stages delay) transform f q p linear law h =
    let width = size factor * size delay in
    extent-back (size stages) (ones width) width (λ x. up (size factor) (transform x)) (through_up (size factor) f) (q.classes * size factor) q.step (extent_up (size factor) p)
    (up-keeps (size factor) transform f q.classes q.step linear law) (sym (length-replicate width (pos 1)))
    (extent-up (size factor) f p linear h)
element-extent (Round shift mode) transform f q p linear law h = absurd linear
element-extent (Clip bits) transform f q p linear law h = absurd linear

elements-extent : (es : List Element) (transform : Sequence → Sequence) (f : Responses) (q : Cycle) (p : Extent) → AreLinear es → HasResponses transform f q.classes q.step
    → IsExtent f p → IsExtent (through_all es f) (extent_after_all es p)
elements-extent [] transform f q p linear law h = h
elements-extent (e ∷ es) transform f q p linear law h =
    elements-extent es (λ x. apply e (transform x)) (through e f) (cycle_after e q) (extent_after e p) linear.1 (element-keeps e transform f q linear.0 law)
    (element-extent e transform f q p linear.0 law h)

pub prefix-extent : (es : List Element) → AreLinear es → IsExtent (responses es) (extent es)
prefix-extent es linear =
    elements-extent es (λ x. x) direct (record { classes = 1; step = 1 }) (record { up = 1; down = 1; slack = 1; reach = 1 }) linear direct-has
    (record { reach = direct-reach; covers = omega arith; has_up = omega arith; has_down = omega arith })

pub factor-le : (a b c : ℕ) → a * c ≤ b * c → 0 < c → a ≤ b
factor-le a b c l positive = by_excess (a - b) refl
  where
    by_excess : (d : ℕ) → a - b ≡ d → a ≤ b
    by_excess zero e = omega arith
    by_excess (suc d) e =
        let is : a ≡ b + suc d = omega arith in
        absurd (omega (arith, ap (λ (n : ℕ). n * c) is, add-mul b (suc d) c, l))

-- a response of a prefix has no more weights than its reach
pub weights-within_reach : (es : List Element) (n : ℤ) → AreLinear es → length (responses es n).weights ≤ (extent es).reach
weights-within_reach es n linear = by_length (length (responses es n).weights) refl
  where
    h : IsExtent (responses es) (extent es)
    h = prefix-extent es linear

    by_length : (m : ℕ) → length (responses es n).weights ≡ m → m ≤ (extent es).reach
    by_length zero e = omega arith
    by_length (suc m) e =
        let far = h.reach.oldest n (omega (arith, e)) in
        let newest = (responses es n).newest in
        let count = length (responses es n).weights in
        let again : newest ≡ (newest -ℤ pos count) +ℤ pos count = omega (arith, ints) in
        let parts = ap (λ (z : ℤ). z *ℤ pos (extent es).up) again ∙ +ℤ-*ℤ (newest -ℤ pos count) (pos count) (pos (extent es).up) in
        let some : suc m * (extent es).up ≤ (extent es).slack = omega (arith, ints, far, h.reach.newest n, parts, ap (λ (i : ℕ). i * (extent es).up) e) in
        factor-le (suc m) (extent es).reach (extent es).up (omega (arith, some, h.covers)) h.has_up

-- at an index before 0 it reads no sample
pub prefix-starts : (es : List Element) (n : ℕ) → AreLinear es → (responses es (negsuc n)).newest <ℤ pos 0
prefix-starts es n linear = by_sign (responses es (negsuc n)).newest refl
  where
    h : IsExtent (responses es) (extent es)
    h = prefix-extent es linear

    by_sign : (z : ℤ) → (responses es (negsuc n)).newest ≡ z → z <ℤ pos 0
    by_sign (negsuc m) e = omega (arith, ints)
    by_sign (pos m) e = absurd (omega (arith, ints, e, h.has_down, ap (λ (z : ℤ). z *ℤ pos (extent es).up) e, h.reach.newest (negsuc n)))
