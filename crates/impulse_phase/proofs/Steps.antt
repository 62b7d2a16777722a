-- Each element keeps the law of responses.
use Rattle.std.proofs.Common.{◌≡◌, ℕ, zero, suc, ◌*◌, ◌<◌, List, [], ℤ, pos, negsuc, ◌+ℤ◌, ◌-ℤ◌, ◌*ℤ◌, ◌≤ℤ◌, Bool, true, false, cond, nat_eq, arith, refl, sym, ◌∙◌, ap, subst}
use Rattle.std.proofs.lemmas.Int.{ints}
use Rattle.mr_values.specs.Width.{floor_quotient, floor_remainder}
use Rattle.mr_values.specs.Sequence.{Sequence, up, down, filter, filter_times}
use Rattle.mr_values.proofs.Ring.{+ℤ-*ℤ}
use Rattle.mr_values.proofs.Division.{floor_unique, floor_split, floor_remainder_below}
use Rattle.mr_values.proofs.Polyphase.{weighted_sum-same}
use Rattle.impulse_phase.specs.Response.{Responses, respond, later, through_up, through_down, through_filter, through_filters, direct, HasResponses}
use Rattle.impulse_phase.proofs.Weights.{filter-combined, combined-later}

pub direct-has : HasResponses (λ x. x) direct 1 1
direct-has = record {
  gives = λ x n. at (x (n -ℤ pos 0)) (x n) (ap x (omega (arith, ints)));
  recurs = λ n. refl;
  ordered = λ n k. omega (arith, ints);
  has_class = omega arith;
  has_step = omega arith;
}
  where
    at : (a b : ℤ) → a ≡ b → b ≡ pos 1 *ℤ a +ℤ pos 0
    at a b e = omega (arith, ints)

-- several rounds on
pub recurs-times : (transform : Sequence → Sequence) (f : Responses) (classes step : ℕ) → HasResponses transform f classes step
    → (rounds : ℕ) (n : ℤ) → f (n +ℤ pos (rounds * classes)) ≡ later (pos (rounds * step)) (f n)
recurs-times transform f classes step h zero n = same (n +ℤ pos (0 * classes)) n (omega (arith, ints))
  where
    same : (m n : ℤ) → m ≡ n → f m ≡ later (pos (0 * step)) (f n)
    same m n e = ap f e ∙ ap (λ (z : ℤ). record { newest = z; weights = (f n).weights }) (omega (arith, ints))
recurs-times transform f classes step h (suc rounds) n =
    ap f (next n) ∙ h.recurs (n +ℤ pos (rounds * classes)) ∙ ap (later (pos step)) (recurs-times transform f classes step h rounds n)
    ∙ ap (λ (z : ℤ). record { newest = z; weights = (f n).weights }) (omega (arith, ints))
  where
    next : (n : ℤ) → n +ℤ pos (suc rounds * classes) ≡ n +ℤ pos (rounds * classes) +ℤ pos classes
    next n = omega (arith, ints)

product-positive : (a b : ℕ) → 0 < a → 0 < b → 0 < a * b
product-positive zero b ha hb = absurd (omega arith)
product-positive (suc a) b ha hb = omega arith

pub filter-keeps : (taps : List ℤ) (transform : Sequence → Sequence) (f : Responses) (classes step : ℕ) → HasResponses transform f classes step
    → HasResponses (λ x. filter taps (transform x)) (through_filter taps f) classes step
filter-keeps taps transform f classes step h = record {
  gives = λ x n. weighted_sum-same taps _ _ (λ k. h.gives x (n -ℤ pos k)) ∙ sym (filter-combined (f n).newest taps (λ k. f (n -ℤ pos k)) x (λ k. h.ordered n k));
  recurs = λ n. rw (h.recurs n, combined-later (pos step) (f n).newest taps (λ k. f (n -ℤ pos k)) (λ k. f (n +ℤ pos classes -ℤ pos k)) (λ k. ap f (swap n k) ∙ h.recurs (n -ℤ pos k))) refl;
  ordered = h.ordered;
  has_class = h.has_class;
  has_step = h.has_step;
}
  where
    swap : (n : ℤ) (k : ℕ) → n +ℤ pos classes -ℤ pos k ≡ n -ℤ pos k +ℤ pos classes
    swap n k = omega (arith, ints)

pub down-keeps : (factor rounds classes' step' : ℕ) (transform : Sequence → Sequence) (f : Responses) (classes step : ℕ) → HasResponses transform f classes step
    → 0 < classes' → 0 < step' → classes' * factor ≡ rounds * classes → step' ≡ rounds * step
    → HasResponses (λ x. down factor (transform x)) (through_down factor f) classes' step'
down-keeps factor rounds classes' step' transform f classes step h has_class has_step is_classes is_step = record {
  gives = λ x n. h.gives x (n *ℤ pos factor);
  recurs = λ n. ap f (moved n) ∙ recurs-times transform f classes step h rounds (n *ℤ pos factor) ∙ ap (λ (s : ℕ). later (pos s) (f (n *ℤ pos factor))) (sym is_step);
  ordered = λ n k. subst (λ (z : ℤ). (f z).newest ≤ℤ (f (n *ℤ pos factor)).newest) (sym (before n k)) (h.ordered (n *ℤ pos factor) (k * factor));
  has_class = has_class;
  has_step = has_step;
}
  where
    moved : (n : ℤ) → (n +ℤ pos classes') *ℤ pos factor ≡ n *ℤ pos factor +ℤ pos (rounds * classes)
    moved n = omega (arith, ints, is_classes, +ℤ-*ℤ n (pos classes') (pos factor))

    back : (n : ℤ) (k : ℕ) → n -ℤ pos k +ℤ pos k ≡ n
    back n k = omega (arith, ints)

    before : (n : ℤ) (k : ℕ) → (n -ℤ pos k) *ℤ pos factor ≡ n *ℤ pos factor -ℤ pos (k * factor)
    before n k = omega (arith, ints, +ℤ-*ℤ (n -ℤ pos k) (pos k) (pos factor), ap (λ (z : ℤ). z *ℤ pos factor) (back n k))

-- the quotients of indices a round apart
quotient-round : (n : ℤ) (factor classes : ℕ) → 0 < factor
    → (floor_quotient (n +ℤ pos (classes * factor)) factor ≡ floor_quotient n factor +ℤ pos classes) × (floor_remainder (n +ℤ pos (classes * factor)) factor ≡ floor_remainder n factor)
quotient-round n factor classes h =
    floor_unique (n +ℤ pos (classes * factor)) (floor_quotient n factor +ℤ pos classes) factor (floor_remainder n factor) (floor_remainder_below n factor h)
    (omega (arith, ints, floor_split n factor h, +ℤ-*ℤ (floor_quotient n factor) (pos classes) (pos factor)))

-- an earlier index has no greater quotient
quotient-before : (n : ℤ) (k factor : ℕ) → 0 < factor → (d : ℕ) × (floor_quotient (n -ℤ pos k) factor ≡ floor_quotient n factor -ℤ pos d)
quotient-before n k factor h = by_difference (floor_quotient n factor -ℤ floor_quotient (n -ℤ pos k) factor) refl
  where
    by_difference : (e : ℤ) → floor_quotient n factor -ℤ floor_quotient (n -ℤ pos k) factor ≡ e → (d : ℕ) × (floor_quotient (n -ℤ pos k) factor ≡ floor_quotient n factor -ℤ pos d)
    by_difference (pos d) e = (d, omega (arith, ints))
    by_difference (negsuc d) e =
        let more : floor_quotient (n -ℤ pos k) factor ≡ floor_quotient n factor +ℤ pos (suc d) = omega (arith, ints) in
        absurd (omega (
          arith,
          ints,
          floor_split n factor h,
          floor_split (n -ℤ pos k) factor h,
          floor_remainder_below n factor h,
          ap (λ (z : ℤ). z *ℤ pos factor) more,
          +ℤ-*ℤ (floor_quotient n factor) (pos (suc d)) (pos factor),
        ))

pub up-keeps : (factor : ℕ) (transform : Sequence → Sequence) (f : Responses) (classes step : ℕ) → 0 < factor → HasResponses transform f classes step
    → HasResponses (λ x. up factor (transform x)) (through_up factor f) (classes * factor) step
up-keeps factor transform f classes step positive h = record {
  gives = λ x n. either (nat_eq (floor_remainder n factor) 0) x (floor_quotient n factor);
  recurs = λ n. let parts = quotient-round n factor classes positive in rw (parts.0, parts.1, h.recurs (floor_quotient n factor)) refl;
  ordered = λ n k. let before = quotient-before n k factor positive in subst (λ (z : ℤ). (f z).newest ≤ℤ (f (floor_quotient n factor)).newest) (sym before.1) (h.ordered (floor_quotient n factor) before.0);
  has_class = product-positive classes factor h.has_class positive;
  has_step = h.has_step;
}
  where
    either : (b : Bool) (x : Sequence) (q : ℤ) → cond b (transform x q) (pos 0) ≡ respond (record { newest = (f q).newest; weights = cond b (f q).weights [] }) x
    either true x q = h.gives x q
    either false x q = refl

pub filters-keep : (n : ℕ) (taps : List ℤ) (transform : Sequence → Sequence) (f : Responses) (classes step : ℕ) → HasResponses transform f classes step
    → HasResponses (λ x. filter_times n taps (transform x)) (through_filters n taps f) classes step
filters-keep zero taps transform f classes step h = h
filters-keep (suc n) taps transform f classes step h =
    filter-keeps taps (λ x. filter_times n taps (transform x)) (through_filters n taps f) classes step (filters-keep n taps transform f classes step h)
