-- How great the values of a prefix's streams are, by the weights of its responses.
use Rattle.std.proofs.Common.{◌≡◌, ◌∙◌, ℕ, ◌-◌, ◌*◌, ◌^◌, ◌≤◌, sym, ap, arith, subst, List, ℤ, unsigned_abs, ◌≤ℤ◌}
use Rattle.std.proofs.Math.Nat.{mul-le-mul_right}
use Rattle.std.proofs.lemmas.Int.{ints}
use Rattle.mr_values.specs.declared.plan.Element.{Element}
use Rattle.mr_values.specs.Sequence.{Sequence, samples}
use Rattle.mr_values.specs.Timing.{low_end, high_end}
use Rattle.mr_values.specs.Value.{chain}
use Rattle.plan_check.specs.Amounts.{magnitude}
use Rattle.stage_law.specs.Streams.{AreWithin, magnitudes}
use Rattle.impulse_phase.specs.declared.table.Response.{Response as Table}
use Rattle.width_extreme.specs.Walk.{transform_of, HasFormRoom}
use Rattle.impulse_phase.specs.Gain.{gain_after_all}
use Rattle.impulse_phase.specs.Response.{Response, respond, responses, AreLinear}
use Rattle.impulse_phase.proofs.Ends.{high_end-turned}
use Rattle.impulse_phase.proofs.Gain.{low_end-within, unsigned_abs-within, within-unsigned_abs, prefix-gain}
use Rattle.impulse_phase.proofs.Prefix.{prefix-has}
use Rattle.width_extreme.specs.Prefix.{IsStream, least_sample, greatest_sample}
use Rattle.width_extreme.proofs.Ranges.{respond-low, respond-high}

least-size : (w : ℕ) → unsigned_abs (least_sample w) ≤ 2 ^ (w - 1)
least-size w = unsigned_abs-within (least_sample w) (2 ^ (w - 1)) (omega (arith, ints)) (omega (arith, ints))

greatest-size : (w : ℕ) → unsigned_abs (greatest_sample w) ≤ 2 ^ (w - 1)
greatest-size w = omega arith

respond-within : (w gain : ℕ) (r : Response) (sum : ℤ) → low_end r.weights (least_sample w) (greatest_sample w) ≤ℤ sum → sum ≤ℤ high_end r.weights (least_sample w) (greatest_sample w)
    → magnitude r.weights ≤ gain → unsigned_abs sum ≤ gain * 2 ^ (w - 1)
respond-within w gain r sum low high small =
    let half = 2 ^ (w - 1) in
    let most : magnitude r.weights * half ≤ gain * half = mul-le-mul_right half small in
    let under = low_end-within r.weights (least_sample w) (greatest_sample w) half (least-size w) (greatest-size w) in
    let over = low_end-within r.weights (greatest_sample w) (least_sample w) half (greatest-size w) (least-size w) in
    let least = within-unsigned_abs (low_end r.weights (least_sample w) (greatest_sample w)) (gain * half) (omega (arith, under, most)) in
    let greatest = within-unsigned_abs (low_end r.weights (greatest_sample w) (least_sample w)) (gain * half) (omega (arith, over, most)) in
    let turned = high_end-turned r.weights (least_sample w) (greatest_sample w) in
    unsigned_abs-within sum (gain * half) (omega (arith, ints, low, least.0)) (omega (arith, ints, high, greatest.1, turned))

-- the streams of a prefix are within the half of the samples' range, times its gain
pub prefix-within : (es : List Element) (w : ℕ) (transform : Sequence → Sequence) → AreLinear es → transform ≡ chain es → AreWithin (IsStream transform w) (gain_after_all es 1 * 2 ^ (w - 1))
prefix-within es w transform linear is = record {
  each = λ v s k.
      let sum = s.is k ∙ ap (λ (t : Sequence → Sequence). t (samples s.xs) k) is ∙ (prefix-has es linear).gives (samples s.xs) k in
      subst (λ (z : ℤ). unsigned_abs z ≤ gain_after_all es 1 * 2 ^ (w - 1)) (sym sum)
      (respond-within w (gain_after_all es 1) (responses es k) (respond (responses es k) (samples s.xs)) (respond-low w (responses es k) s.xs s.fits) (respond-high w (responses es k) s.xs s.fits) (prefix-gain es linear k));
}

-- a form of two ones over samples of 4 bits, through two ones
pub small-room : (table : Table) (width : ℕ) (es : List Element) (form : List ℤ) → AreLinear es → transform_of table ≡ chain es → width ≡ 4 → gain_after_all es 1 ≡ 2 → magnitudes form ≡ 2
    → HasFormRoom table width form
small-room table width es form linear is wide gain form_size = record {
  most = gain_after_all es 1 * 2 ^ (width - 1);
  within = prefix-within es width (transform_of table) linear is;
  room =
      let whole : gain_after_all es 1 * 2 ^ (width - 1) * magnitudes form ≡ 32 =
      ap (λ (w : ℕ). gain_after_all es 1 * 2 ^ (w - 1) * magnitudes form) wide ∙ ap (λ (n : ℕ). n * 8 * magnitudes form) gain ∙ ap (λ (n : ℕ). 2 * 8 * n) form_size in
      omega (arith, whole);
}
