-- Each value of a drawn chain over its samples fits 64 bits, so the values that were found are those of the chain.
use Rattle.std.proofs.Common.{◌≡◌, ◌∙◌, ℕ, suc, ◌+◌, ◌-◌, ◌*◌, ◌/◌, ◌^◌, ◌<◌, ◌≤◌, refl, sym, ap, subst, arith, lit<, List, [], ◌∷◌, ◌++◌, length, ℤ, pos, negsuc, neg_ℤ, ◌+ℤ◌, ◌*ℤ◌}
use Rattle.std.specs.Prelude.{All, unsigned_abs}
use Rattle.std.proofs.lemmas.Int.{ints}
use Rattle.std.proofs.lemmas.List.{length-append, get_or_append_left}
use Rattle.std.proofs.lemmas.List.FromFn.{length-map-range_with_len}
use Rattle.std.proofs.Math.Nat.{mul-le-mul_left, mul-le-mul_right}
use native.Mathlib.Nat.{pow-le-pow_left, pow-le-pow_right}
use Rattle.mr_values.specs.declared.plan.Element.{Element}
use Rattle.mr_values.specs.declared.plan.Element.TheVariants.{Down, Filter, CicDown, Round}
use Rattle.mr_values.specs.declared.plan.Form.TheVariants.{Parallel}
use Rattle.mr_values.specs.declared.plan.Mode.TheVariants.{HalfUp}
use Rattle.mr_values.specs.Sequence.{samples, filter_times, ones}
use Rattle.mr_values.specs.Timing.{groups, ceil_div}
use Rattle.mr_values.specs.Value.{val, IsWithinLimits}
use Rattle.mr_values.specs.Width.{FitsWidth}
use Rattle.mr_values.proofs.Division.{floor_unique}
use Rattle.plan_laws.specs.Laws.{IsBetween, peak_after_all}
use Rattle.plan_laws.proofs.Between.{AllBetween, between-moving}
use Rattle.plan_laws.proofs.Peaks.{peak_holds}
use Rattle.plan_laws.proofs.Spans.{within-values}
use Rattle.chain_values.specs.Phases.{AllFit, IsDue}
use Rattle.chain_values.specs.Starts.{FitAlong, FitWithin, ElementsDue, GivesValues}
use Rattle.chain_values.specs.Streams.{values_from}
use Rattle.demo_plan.specs.Drawn.{draw_after, factor_drawn, stages_drawn, delay_drawn, taps_drawn, elements_drawn, sample_of, samples_from, samples_drawn, state_drawn, count_drawn, values_drawn}
use Rattle.demo_plan.proofs.Accepted.{IsDrawn, drawn_small, small_gain, peak_two}
use Rattle.demo_plan.proofs.Values.{samples_fit, limits, count_is, count_few, values_all}

-- ---- magnitudes

fits_small : (z : ℤ) → unsigned_abs z ≤ 2 ^ 62 → FitsWidth 64 z
fits_small (pos n) h = record { low = omega (arith, ints); high = omega (arith, ints, h) }
fits_small (negsuc n) h = record { low = omega (arith, ints, h); high = omega (arith, ints) }

All-front : {A : Type 0} (P : A → Type 0) (a b : List A) → All P (a ++ b) → All P a
All-front P a b h k d below = subst P (get_or_append_left a b d k below) (h k d (omega (arith, below, length-append a b)))

-- the values of the first elements, by their peak
fits_first : (first rest : List Element) (xs : List ℤ) → All IsWithinLimits (first ++ rest) → All (FitsWidth 12) xs → peak_after_all (groups first) (2 ^ 11) ≤ 2 ^ 62 → AllFit (val first xs)
fits_first first rest xs limits fit small = record {
  value = λ n.
      let peak = peak_holds 12 first (omega arith) (All-front IsWithinLimits first rest limits) xs n fit in
      fits_small (val first xs n) (omega (arith, peak, small));
}

-- ---- the sums of the cascade

part_gain : (f s d : ℕ) (taps : List ℤ) → IsDrawn f s d taps → (k : ℕ) → k < s → (f * d) ^ suc k ≤ 2 ^ 25
part_gain f s d taps h k less =
    let base : f * d ≤ 32 = omega (arith, h.most_factor, mul-le-mul_left f h.most_delay) in
    let wide = pow-le-pow_left base (suc k) in
    let some : 0 < 32 = lit< tt in
    let most : suc k ≤ 5 = omega (arith, less, h.most_stages) in
    let long : 32 ^ suc k ≤ 32 ^ 5 = pow-le-pow_right some most in
    omega (arith, wide, long)

fits_part : (g : ℕ) (z : ℤ) → g ≤ 2 ^ 25 → IsBetween (pos g *ℤ neg_ℤ (pos 2048)) (pos g *ℤ pos 2047) z → FitsWidth 64 z
fits_part g z h b = record { low = omega (arith, ints, b.least, h); high = omega (arith, ints, b.greatest, h) }

samples_between : (xs : List ℤ) → All (FitsWidth 12) xs → AllBetween (neg_ℤ (pos 2048)) (pos 2047) (samples xs)
samples_between xs fit n = (within-values 12 1 [] xs none fit).values n
  where
    none : All IsWithinLimits []
    none k d below = absurd (omega arith)

fits_within : (f s d : ℕ) (taps : List ℤ) (xs : List ℤ) → IsDrawn f s d taps → All (FitsWidth 12) xs → FitWithin (CicDown (pos f) (pos s) (pos d)) (samples xs)
fits_within f s d taps xs h fit k less = record {
  value = λ n.
      fits_part ((f * d) ^ suc k) (filter_times (suc k) (ones (f * d)) (samples xs) n) (part_gain f s d taps h k less)
      (between-moving (suc k) (f * d) (neg_ℤ (pos 2048)) (pos 2047) (samples xs) (samples_between xs fit) n);
}

-- ---- the chain

fits_along : (f s d : ℕ) (taps : List ℤ) (xs : List ℤ) → IsDrawn f s d taps → All IsWithinLimits (CicDown (pos f) (pos s) (pos d) ∷ Filter taps Parallel ∷ Down (pos 2) ∷ Round (pos 8) HalfUp ∷ []) → All (FitsWidth 12) xs
    → FitAlong (CicDown (pos f) (pos s) (pos d) ∷ Filter taps Parallel ∷ Down (pos 2) ∷ Round (pos 8) HalfUp ∷ []) (samples xs)
fits_along f s d taps xs h limits fit =
    let one : Element = CicDown (pos f) (pos s) (pos d) in
    let two : Element = Filter taps Parallel in
    let three : Element = Down (pos 2) in
    let four : Element = Round (pos 8) HalfUp in
    let gain = small_gain f s d taps h in
    let peak = peak_two f s d taps h in (
      (fits_within f s d taps xs h fit, fits_first (one ∷ []) (two ∷ three ∷ four ∷ []) xs limits fit (omega (arith, gain))),
      (
        (tt, fits_first (one ∷ two ∷ []) (three ∷ four ∷ []) xs limits fit (omega (arith, peak))),
        ((tt, fits_first (one ∷ two ∷ three ∷ []) (four ∷ []) xs limits fit (omega (arith, peak))), ((tt, fits_first (one ∷ two ∷ three ∷ four ∷ []) [] xs limits fit (omega (arith, peak))), tt)),
      ),
    )

-- ---- how many values belong to the samples

nat_due : (raised lowered taken : ℕ) (given : ℤ) → 1 ≤ lowered → IsDue raised lowered (pos taken) given
    → (g : ℕ) × ((given ≡ pos g) × ((taken * raised ≤ g * lowered) × (g * lowered < taken * raised + lowered)))
nat_due raised lowered taken (pos g) some due = (g, (refl, (omega (arith, ints, due.enough), omega (arith, ints, due.least))))
nat_due raised lowered taken (negsuc g) some due =
    let below : negsuc g *ℤ pos lowered ≡ negsuc (g * lowered + (lowered - 1)) = omega (arith, ints) in
    absurd (omega (arith, ints, due.enough, below))

ceil_unique : (n m g : ℕ) → n ≤ g * m → g * m < n + m → g ≡ ceil_div n m
ceil_unique n m g enough least =
    let split : pos (n + (m - 1)) ≡ pos g *ℤ pos m +ℤ pos (n + (m - 1) - g * m) = omega (arith, ints) in
    pos_same g ((n + (m - 1)) / m) (sym (floor_unique (pos (n + (m - 1))) (pos g) m (n + (m - 1) - g * m) (omega arith) split).0)
  where
    pos_same : (a b : ℕ) → pos a ≡ pos b → a ≡ b
    pos_same a b e = omega (arith, ints, e)

-- one value of so many, and then one of two
due_twice : (n f b c : ℕ) → n * 1 ≤ b * f → b * f < n * 1 + f → b * 1 ≤ c * 2 → c * 2 < b * 1 + 2 → c ≡ ceil_div n (f * 2)
due_twice n f b c enough least enough2 least2 =
    let up : b * f ≤ c * 2 * f = mul-le-mul_right f (omega (arith, enough2)) in
    let low : c * 2 * f ≤ (b + 1) * f = mul-le-mul_right f (omega (arith, least2)) in
    let turn : c * 2 * f ≡ c * (f * 2) = omega arith in
    let more : (b + 1) * f ≡ b * f + f = omega arith in
    ceil_unique n (f * 2) c (omega (arith, enough, up, turn)) (omega (arith, least, low, turn, more))

count_due : (f s d n : ℕ) (taps : List ℤ) (count : ℕ) → 1 ≤ f → ElementsDue (CicDown (pos f) (pos s) (pos d) ∷ Filter taps Parallel ∷ Down (pos 2) ∷ Round (pos 8) HalfUp ∷ []) (pos n) (pos count) → count ≡ ceil_div n (f * 2)
count_due f s d n taps count some due =
    let one = nat_due 1 f n due.0 some due.1.0 in
    let at_two = subst (λ (z : ℤ). IsDue 1 1 z due.1.1.0) one.1.0 due.1.1.1.0 in
    let two = nat_due 1 1 one.0 due.1.1.0 (omega arith) at_two in
    let at_three = subst (λ (z : ℤ). IsDue 1 2 z due.1.1.1.1.0) two.1.0 due.1.1.1.1.1.0 in
    let three = nat_due 1 2 two.0 due.1.1.1.1.0 (omega arith) at_three in
    let at_four = subst (λ (z : ℤ). IsDue 1 1 z due.1.1.1.1.1.1.0) three.1.0 due.1.1.1.1.1.1.1.0 in
    let four = nat_due 1 1 three.0 due.1.1.1.1.1.1.0 (omega arith) at_four in
    let same : two.0 ≡ one.0 = omega (arith, two.1.1.0, two.1.1.1) in
    let last : count ≡ three.0 = omega (arith, ints, four.1.0, four.1.1.0, four.1.1.1, due.1.1.1.1.1.1.1.1) in
    last ∙ due_twice n f one.0 three.0 one.1.1.0 one.1.1.1 (omega (arith, same, three.1.1.0)) (omega (arith, same, three.1.1.1))

samples_all : (number : ℕ) → length (samples_drawn number) ≡ 100000
unfolding samples_from
samples_all number = length-map-range_with_len (λ (k : ℕ). sample_of (draw_after k (state_drawn number))) 0 100000

values_of_drawn : (number : ℕ) (out : List ℤ) → GivesValues (elements_drawn number) (samples_drawn number) out → out ≡ values_drawn number
values_of_drawn number out g =
    let f = factor_drawn number in
    let s = stages_drawn number in
    let d = delay_drawn number in
    let taps = taps_drawn number in
    let xs = samples_drawn number in
    let h = drawn_small number in
    let given = g.law (fits_along f s d taps xs h (limits number) (samples_fit (state_drawn number) 100000)) in
    let due = subst (λ (n : ℕ). ElementsDue (elements_drawn number) (pos n) (pos given.0)) (samples_all number) given.1.1 in
    let count : given.0 ≡ count_drawn number = count_due f s d 100000 taps given.0 (omega (arith, h.least_factor)) due ∙ sym (count_is number) in
    given.1.0 ∙ ap (values_from (val (elements_drawn number) xs) (pos 0)) count

pub values_are : (number : ℕ) (es : List Element) (xs out : List ℤ) → es ≡ elements_drawn number → xs ≡ samples_drawn number → GivesValues es xs out → out ≡ values_drawn number
values_are number es xs out e x g =
    values_of_drawn number out (subst (λ (ys : List ℤ). GivesValues (elements_drawn number) ys out) x (subst (λ (fs : List Element). GivesValues fs xs out) e g))

pub values_few : (number : ℕ) (values : List ℤ) → values ≡ values_drawn number → length values ≤ 2 ^ 32
values_few number values e = omega (arith, ap length e, values_all number, count_few number)
