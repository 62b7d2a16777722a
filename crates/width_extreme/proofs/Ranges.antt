-- The exact range of a form over the streams of a prefix.
use Rattle.std.proofs.Common.{◌≡◌, ℕ, zero, suc, ◌+◌, ◌-◌, ◌*◌, ◌/◌, ◌%◌, ◌<◌, ◌≤◌, List, length, All, ℤ, pos, negsuc, ◌+ℤ◌, ◌-ℤ◌, ◌≤ℤ◌, Bool, true, false, cond, arith, add-mul, mul_assoc, le_trans, refl, sym, ◌∙◌, ap, subst}
use Rattle.std.proofs.lemmas.Int.{ints, int_min_is, int_max_is}
use Rattle.std.proofs.lemmas.Nat.{div-add-mod', mod_below, pow_pos, same_from_place}
use Rattle.std.specs.Prelude.{int_lt}
use Rattle.mr_values.specs.declared.plan.Element.{Element}
use Rattle.mr_values.specs.Width.{FitsWidth}
use Rattle.mr_values.specs.Sequence.{Sequence, samples, filter}
use Rattle.mr_values.specs.Timing.{low_end, high_end}
use Rattle.mr_values.specs.Value.{chain}
use Rattle.mr_values.proofs.Polyphase.{weighted_sum-same}
use Rattle.impulse_phase.specs.Response.{Response, Responses, respond, later, through_filter, responses, HasResponses, full_cycle, AreLinear}
use Rattle.plan_check.specs.Costs.{gcd}
use Rattle.stage_law.specs.Range.{InClass, IsReached, IsRange}
use Rattle.stage_law.specs.declared.ranges.Class.{Class}
use Rattle.width_extreme.specs.Prefix.{IsStream, least_sample, greatest_sample, least_to, greatest_to, low_at, high_at, range_of, finer_classes}
use Rattle.impulse_phase.proofs.Steps.{filter-keeps, recurs-times}
use Rattle.impulse_phase.proofs.Prefix.{prefix-has, common-turns, common-positive, common-positive_right}
use Rattle.impulse_phase.proofs.Ends.{low_end-holds, high_end-holds, high_end-turned, ends_for, history, history-reaches, history-all, samples-all}

-- ---- the least and the greatest of finitely many

pub least_to-holds : (n : ℕ) (f : ℕ → ℤ) (i : ℕ) → i ≤ n → least_to n f ≤ℤ f i
least_to-holds zero f zero h = omega (arith, ints)
least_to-holds zero f (suc i) h = absurd (omega arith)
least_to-holds (suc n) f i h = by_rest (suc n - i) refl (λ (below : i ≤ n). least_to-holds n f i below)
  where
    by_rest : (d : ℕ) → suc n - i ≡ d → (i ≤ n → least_to n f ≤ℤ f i) → least_to (suc n) f ≤ℤ f i
    by_rest zero e rest = let same : i ≡ suc n = omega arith in rw same (omega (arith, ints, int_min_is (f (suc n)) (least_to n f)))
    by_rest (suc d) e rest = omega (arith, ints, int_min_is (f (suc n)) (least_to n f), rest (omega arith))

pub greatest_to-holds : (n : ℕ) (f : ℕ → ℤ) (i : ℕ) → i ≤ n → f i ≤ℤ greatest_to n f
greatest_to-holds zero f zero h = omega (arith, ints)
greatest_to-holds zero f (suc i) h = absurd (omega arith)
greatest_to-holds (suc n) f i h = by_rest (suc n - i) refl (λ (below : i ≤ n). greatest_to-holds n f i below)
  where
    by_rest : (d : ℕ) → suc n - i ≡ d → (i ≤ n → f i ≤ℤ greatest_to n f) → f i ≤ℤ greatest_to (suc n) f
    by_rest zero e rest = let same : i ≡ suc n = omega arith in rw same (omega (arith, ints, int_max_is (f (suc n)) (greatest_to n f)))
    by_rest (suc d) e rest = omega (arith, ints, int_max_is (f (suc n)) (greatest_to n f), rest (omega arith))

pub least_to-reached : (n : ℕ) (f : ℕ → ℤ) → (i : ℕ) × (i ≤ n) × (f i ≡ least_to n f)
least_to-reached zero f = (0, omega arith, refl)
least_to-reached (suc n) f = by_test (int_lt (least_to n f) (f (suc n))) (least_to-reached n f)
  where
    by_test : (b : Bool) → (i : ℕ) × (i ≤ n) × (f i ≡ least_to n f) → (i : ℕ) × (i ≤ suc n) × (f i ≡ cond b (least_to n f) (f (suc n)))
    by_test true rest = (rest.0, omega (arith, rest.1), rest.2)
    by_test false rest = (suc n, omega arith, refl)

pub greatest_to-reached : (n : ℕ) (f : ℕ → ℤ) → (i : ℕ) × (i ≤ n) × (f i ≡ greatest_to n f)
greatest_to-reached zero f = (0, omega arith, refl)
greatest_to-reached (suc n) f = by_test (int_lt (greatest_to n f) (f (suc n))) (greatest_to-reached n f)
  where
    by_test : (b : Bool) → (i : ℕ) × (i ≤ n) × (f i ≡ greatest_to n f) → (i : ℕ) × (i ≤ suc n) × (f i ≡ cond b (f (suc n)) (greatest_to n f))
    by_test true rest = (suc n, omega arith, refl)
    by_test false rest = (rest.0, omega (arith, rest.1), rest.2)

-- ---- the finer classes

-- an index of a class, by its finer class and the full rounds before it
finer-index : (modulus residue count k : ℕ) → k % modulus ≡ residue → k ≡ residue + k / modulus % count * modulus + k / modulus / count * (count * modulus)
finer-index modulus residue count k h =
    let outer = div-add-mod' k modulus in
    let inner = div-add-mod' (k / modulus) count in
    let spread : k / modulus * modulus ≡ k / modulus / count * (count * modulus) + k / modulus % count * modulus =
    ap (λ (n : ℕ). n * modulus) (sym inner) ∙ add-mul (k / modulus / count * count) (k / modulus % count) modulus ∙ ap (λ (n : ℕ). n + k / modulus % count * modulus) (mul_assoc (k / modulus / count) count modulus) in
    omega (arith, outer, spread)

pub finer-in_class : (class : Class) (count i j : ℕ) → class.residue < class.modulus → InClass class (class.residue + i * class.modulus + j * (count * class.modulus))
finer-in_class class count i j h =
    let k = class.residue + i * class.modulus + j * (count * class.modulus) in
    let whole : (i + j * count) * class.modulus ≡ i * class.modulus + j * (count * class.modulus) =
    add-mul i (j * count) class.modulus ∙ ap (λ (n : ℕ). i * class.modulus + n) (mul_assoc j count class.modulus) in
    (same_from_place (k / class.modulus) (k % class.modulus) (i + j * count) class.residue class.modulus (mod_below k class.modulus (omega arith)) h (omega (arith, div-add-mod' k class.modulus, whole))).1

-- responses that are full rounds apart
pub later-at : (transform : Sequence → Sequence) (f : Responses) (classes step : ℕ) → HasResponses transform f classes step
    → (whole turns k j : ℕ) → whole ≡ turns * classes → f (pos (k + j * whole)) ≡ later (pos (j * turns * step)) (f (pos k))
later-at transform f classes step h whole turns k j e =
    ap f at ∙ recurs-times transform f classes step h (j * turns) (pos k)
  where
    product : j * whole ≡ j * turns * classes
    product = ap (λ (n : ℕ). j * n) e ∙ sym (mul_assoc j turns classes)

    at : pos (k + j * whole) ≡ pos k +ℤ pos (j * turns * classes)
    at = omega (arith, ints, product)

-- ---- the samples that fit

pub zero-fits : (w : ℕ) → FitsWidth w (pos 0)
zero-fits w = record { low = omega (arith, ints, pow_pos (w - 1)); high = omega (arith, ints, pow_pos (w - 1)) }

pub least-fits : (w : ℕ) → FitsWidth w (least_sample w)
least-fits w = record { low = omega (arith, ints, pow_pos (w - 1)); high = omega (arith, ints, pow_pos (w - 1)) }

pub greatest-fits : (w : ℕ) → FitsWidth w (greatest_sample w)
greatest-fits w = record { low = omega (arith, ints, pow_pos (w - 1)); high = omega (arith, ints, pow_pos (w - 1)) }

fits-low : (w : ℕ) (z : ℤ) → FitsWidth w z → least_sample w ≤ℤ z
fits-low w z h = h.low

fits-high : (w : ℕ) (z : ℤ) → FitsWidth w z → z ≤ℤ greatest_sample w
fits-high w z h = omega (arith, ints, h.high, pow_pos (w - 1))

-- ---- one response

pub respond-low : (w : ℕ) (r : Response) (xs : List ℤ) → All (FitsWidth w) xs → low_end r.weights (least_sample w) (greatest_sample w) ≤ℤ respond r (samples xs)
respond-low w r xs h =
    low_end-holds r.weights (least_sample w) (greatest_sample w) (λ i. samples xs (r.newest -ℤ pos i))
    (λ i. fits-low w _ (samples-all (FitsWidth w) xs h (zero-fits w) (r.newest -ℤ pos i)))
    (λ i. fits-high w _ (samples-all (FitsWidth w) xs h (zero-fits w) (r.newest -ℤ pos i)))

pub respond-high : (w : ℕ) (r : Response) (xs : List ℤ) → All (FitsWidth w) xs → respond r (samples xs) ≤ℤ high_end r.weights (least_sample w) (greatest_sample w)
respond-high w r xs h =
    high_end-holds r.weights (least_sample w) (greatest_sample w) (λ i. samples xs (r.newest -ℤ pos i))
    (λ i. fits-low w _ (samples-all (FitsWidth w) xs h (zero-fits w) (r.newest -ℤ pos i)))
    (λ i. fits-high w _ (samples-all (FitsWidth w) xs h (zero-fits w) (r.newest -ℤ pos i)))

-- how much later a sample has to come to be no sample before the first
abbrev pub shortfall : ℤ → ℕ
shortfall (pos n) = 0
shortfall (negsuc n) = suc n

pub shortfall-enough : (z : ℤ) → pos 0 ≤ℤ (z +ℤ pos (shortfall z))
shortfall-enough (pos n) = omega (arith, ints)
shortfall-enough (negsuc n) = omega (arith, ints)

pub product-at_least : (j t s : ℕ) → 0 < t → 0 < s → j ≤ j * t * s
product-at_least j t s ht hs = le_trans (le-mul j t ht) (le-mul (j * t) s hs)
  where
    le-mul : (a b : ℕ) → 0 < b → a ≤ a * b
    le-mul a zero h = absurd (omega arith)
    le-mul a (suc b) h = omega arith

-- ---- the range

-- a sum of the form, by the form's response at the index
sum-by_response : (transform : Sequence → Sequence) (f : Responses) (classes step w : ℕ) (form : List ℤ) → HasResponses transform f classes step
    → (v : Sequence) (s : IsStream transform w v) (k : ℕ) → filter form v (pos k) ≡ respond (through_filter form f (pos k)) (samples s.xs)
sum-by_response transform f classes step w form h v s k =
    weighted_sum-same form _ _ (λ i. s.is (pos k -ℤ pos i)) ∙ (filter-keeps form transform f classes step h).gives (samples s.xs) (pos k)

-- the index of a class, by its finer class
record Finer (f : Responses) (class : Class) (count k : ℕ) : Type 0 where
  pub place : ℕ
  pub below : place ≤ count - 1
  pub same : (f (pos k)).weights ≡ (f (pos (class.residue + place * class.modulus))).weights

finer : (transform : Sequence → Sequence) (f : Responses) (classes step : ℕ) → HasResponses transform f classes step
    → (class : Class) (count turns k : ℕ) → 0 < count → count * class.modulus ≡ turns * classes → InClass class k → Finer f class count k
finer transform f classes step h class count turns k positive whole in_class =
    let place = k / class.modulus % count in
    let apart = later-at transform f classes step h (count * class.modulus) turns (class.residue + place * class.modulus) (k / class.modulus / count) whole in
    record {
      place = place;
      below = omega (arith, mod_below (k / class.modulus) count positive);
      same = ap (λ (n : ℕ). (f (pos n)).weights) (finer-index class.modulus class.residue count k in_class) ∙ ap (λ (r : Response). r.weights) apart;
    }

-- the sum of a finer class that the weights' ends a and b give is reached
end-reached : (transform : Sequence → Sequence) (f : Responses) (classes step w : ℕ) (form : List ℤ) → HasResponses transform f classes step
    → (class : Class) (count turns place : ℕ) → class.residue < class.modulus → 0 < turns → count * class.modulus ≡ turns * classes
    → (a b : ℤ) → FitsWidth w a → FitsWidth w b
    → IsReached (IsStream transform w) form class (low_end (through_filter form f (pos (class.residue + place * class.modulus))).weights a b)
end-reached transform f classes step w form h class count turns place below has_turn whole a b fits_a fits_b =
    by_newest (first.newest +ℤ pos (rounds * turns * step)) refl
  where
    form_law : HasResponses (λ x. filter form (transform x)) (through_filter form f) classes step
    form_law = filter-keeps form transform f classes step h

    first : Response
    first = through_filter form f (pos (class.residue + place * class.modulus))

    rounds : ℕ
    rounds = length first.weights + shortfall first.newest

    index : ℕ
    index = class.residue + place * class.modulus + rounds * (count * class.modulus)

    is_later : through_filter form f (pos index) ≡ later (pos (rounds * turns * step)) first
    is_later = later-at (λ x. filter form (transform x)) (through_filter form f) classes step form_law (count * class.modulus) turns (class.residue + place * class.modulus) rounds whole

    by_newest : (z : ℤ) → first.newest +ℤ pos (rounds * turns * step) ≡ z → IsReached (IsStream transform w) form class (low_end first.weights a b)
    by_newest (negsuc n) e = absurd (omega (arith, ints, shortfall-enough first.newest, product-at_least rounds turns step has_turn h.has_step))
    by_newest (pos newest) e =
        let r : Response = record { newest = first.newest +ℤ pos (rounds * turns * step); weights = first.weights } in
        let enough : length r.weights ≤ suc newest = omega (arith, ints, shortfall-enough first.newest, product-at_least rounds turns step has_turn h.has_step) in
        let xs = history newest (ends_for a b first.weights) in
        record {
          stream = transform (samples xs);
          is_one = record { xs = xs; fits = history-all (FitsWidth w) a b first.weights newest fits_a fits_b (zero-fits w); is = λ n. refl };
          index = index;
          in_class = finer-in_class class count place rounds below;
          is = form_law.gives (samples xs) (pos index) ∙ ap (λ (q : Response). respond q (samples xs)) is_later ∙ history-reaches r a b newest e enough;
        }

-- The range of a form's sums over the streams of a transform with responses, at the indices of a class
-- which falls into `count` classes of a common multiple of its modulus and the transform's classes.
pub range-is : (transform : Sequence → Sequence) (f : Responses) (classes step w : ℕ) (form : List ℤ) → HasResponses transform f classes step
    → (class : Class) (count turns : ℕ) → class.residue < class.modulus → 0 < count → 0 < turns → count * class.modulus ≡ turns * classes
    → IsRange (IsStream transform w) form class (range_of w form f class count)
range-is transform f classes step w form h class count turns below positive has_turn whole = record {
  low = λ v s k in_class.
      let part = finer (λ x. filter form (transform x)) (through_filter form f) classes step form_law class count turns k positive whole in_class in
      at_least v s k part (least_to-holds (count - 1) lows part.place part.below);
  high = λ v s k in_class.
      let part = finer (λ x. filter form (transform x)) (through_filter form f) classes step form_law class count turns k positive whole in_class in
      at_most v s k part (greatest_to-holds (count - 1) highs part.place part.below);
  low_reached =
      let place = least_to-reached (count - 1) lows in
      subst (IsReached (IsStream transform w) form class) place.2
      (end-reached transform f classes step w form h class count turns place.0 below has_turn whole (least_sample w) (greatest_sample w) (least-fits w) (greatest-fits w));
  high_reached =
      let place = greatest_to-reached (count - 1) highs in
      subst (IsReached (IsStream transform w) form class)
      (high_end-turned (through_filter form f (pos (class.residue + place.0 * class.modulus))).weights (least_sample w) (greatest_sample w) ∙ place.2)
      (end-reached transform f classes step w form h class count turns place.0 below has_turn whole (greatest_sample w) (least_sample w) (greatest-fits w) (least-fits w));
}
  where
    form_law : HasResponses (λ x. filter form (transform x)) (through_filter form f) classes step
    form_law = filter-keeps form transform f classes step h

    lows : ℕ → ℤ
    lows i = low_at w form f (class.residue + i * class.modulus)

    highs : ℕ → ℤ
    highs i = high_at w form f (class.residue + i * class.modulus)

    at_least : (v : Sequence) (s : IsStream transform w v) (k : ℕ) (part : Finer (through_filter form f) class count k)
        → least_to (count - 1) lows ≤ℤ lows part.place → least_to (count - 1) lows ≤ℤ filter form v (pos k)
    at_least v s k part l =
        let one = respond-low w (through_filter form f (pos k)) s.xs s.fits in
        let same = ap (λ (cs : List ℤ). low_end cs (least_sample w) (greatest_sample w)) part.same in
        omega (arith, ints, one, same, l, sum-by_response transform f classes step w form h v s k)

    at_most : (v : Sequence) (s : IsStream transform w v) (k : ℕ) (part : Finer (through_filter form f) class count k)
        → highs part.place ≤ℤ greatest_to (count - 1) highs → filter form v (pos k) ≤ℤ greatest_to (count - 1) highs
    at_most v s k part l =
        let one = respond-high w (through_filter form f (pos k)) s.xs s.fits in
        let same = ap (λ (cs : List ℤ). high_end cs (least_sample w) (greatest_sample w)) part.same in
        omega (arith, ints, one, same, l, sum-by_response transform f classes step w form h v s k)

-- the range of a form over the streams of a prefix that has no rounding
pub prefix-range-is : (es : List Element) (w : ℕ) (form : List ℤ) (class : Class) → AreLinear es → class.residue < class.modulus
    → IsRange (IsStream (chain es) w) form class (range_of w form (responses es) class (finer_classes (full_cycle es).classes class.modulus))
prefix-range-is es w form class linear below =
    let p = full_cycle es in
    let law = prefix-has es linear in
    range-is (chain es) (responses es) p.classes p.step w form law class (p.classes / gcd p.classes class.modulus) (class.modulus / gcd p.classes class.modulus) below
    (common-positive p.classes class.modulus law.has_class)
    (common-positive_right p.classes class.modulus (omega arith))
    (common-turns p.classes class.modulus)
