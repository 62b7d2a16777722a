-- Every drawn plan passes each test.
use Rattle.std.proofs.Common.{◌≡◌, ◌∙◌, ℕ, zero, suc, ◌+◌, ◌-◌, ◌*◌, ◌/◌, ◌%◌, ◌^◌, ◌<◌, ◌≤◌, refl, sym, ap, arith, lit<, List, [], ◌∷◌, length, map, Option, None, Some, ℤ, pos, negsuc, neg_ℤ, ◌-ℤ◌, ◌≤ℤ◌}
use Rattle.std.specs.Prelude.{unsigned_abs, nat_le, if◌then◌else◌}
use Rattle.std.specs.List.{range_with_len}
use Rattle.std.specs.Option.{option_or}
use Rattle.std.proofs.lemmas.Int.{ints}
use Rattle.std.proofs.lemmas.Nat.{mod_below, div-add-mod'}
use Rattle.std.proofs.lemmas.List.Sums.{sum_by-cons}
use Rattle.std.proofs.lemmas.List.FromFn.{length-map-range_with_len}
use Rattle.std.proofs.Math.Nat.{mul-le-mul_left, mul-le-mul_right}
use native.Mathlib.Nat.{pow-le-pow_left, pow-le-pow_right}
use Rattle.mr_values.specs.declared.plan.Element.TheVariants.{Down, Filter, CicDown, Round}
use Rattle.mr_values.specs.declared.plan.Form.TheVariants.{Parallel}
use Rattle.mr_values.specs.declared.plan.Mode.TheVariants.{HalfUp}
use Rattle.mr_values.specs.Digit.{count_to, digit_count, with_one, rest_of}
use Rattle.mr_values.specs.Timing.{Group, Fir, DownCic, Rounding, terms, greatest, up_factor, down_factor, period_after, group_delay, after}
use Rattle.plan_check.specs.declared.fault.LimitWhich.{LimitWhich}
use Rattle.plan_check.specs.declared.fault.LimitWhich.TheVariants.{Factor, Stages, Delay, Taps, Tap}
use Rattle.plan_check.specs.declared.fault.PlanFault.TheVariants.{PeriodOver}
use Rattle.plan_check.specs.Groups.{last_of}
use Rattle.plan_check.specs.declared.fault.CostWhich.{CostWhich}
use Rattle.plan_check.specs.declared.fault.CostWhich.TheVariants.{Terms, Latency, Work, Response, Cycle}
use Rattle.plan_check.specs.Limits.{limit_test, taps_test, cic_test, limits_test, element_test}
use Rattle.plan_check.specs.Amounts.{rate_test, peak_test, peak_after, bound_test, magnitude, error_after, no_error}
use Rattle.plan_check.specs.Costs.{over, Spread, Tally, spread_after, spread_test, linear_test, linear_spread, cost_test, tally_after, terms_of, memory_of, gcd}
use Rattle.plan_check.specs.Accepted.{rates_test, peaks_test, bounds_test, costs_test, no_tally, IsAccepted}
use Rattle.plan_check.proofs.Acceptance.{accepted_from}
use Rattle.mr_values.proofs.Logarithm.{ceil_log_small}
use Rattle.plan_check.proofs.TermSums.{terms_whole}
use Rattle.demo_plan.specs.Drawn.{state_after, draw_after, factor_drawn, stages_drawn, delay_drawn, tap_of, taps_from, taps_drawn, elements_drawn, plan_drawn}

-- ---- both of two tests

both : {F : Type 0} (a b : Option F) → a ≡ None → b ≡ None → option_or a b ≡ None
both a b p q = ap (λ (x : Option _). option_or x b) p ∙ q

three : {F : Type 0} (a b c : Option F) → a ≡ None → b ≡ None → c ≡ None → option_or a (option_or b c) ≡ None
three a b c p q r = both a (option_or b c) p (both b c q r)

holds : {A : Type 0} (x y : ℕ) (a b : A) → x ≤ y → (if nat_le x y then a else b) ≡ a
holds x y a b h = grind arith

-- ---- what is drawn is small

abbrev pub AreSmall : List ℤ → Type 0
AreSmall [] = Unit {0}
AreSmall (c ∷ cs) = (unsigned_abs c ≤ 1000) × AreSmall cs

small_tap : (m : ℕ) → m ≤ 2000 → unsigned_abs (pos m -ℤ pos 1000) ≤ 1000
small_tap m h = grind (arith, ints)

small_taps : (state a n : ℕ) → AreSmall (map (λ k. tap_of (draw_after k state)) (range_with_len a n))
small_taps state a zero = tt
small_taps state a (suc n) =
    (small_tap (draw_after a state % 2001) (omega (arith, mod_below (draw_after a state) 2001 (omega arith))), small_taps state (a + 1) n)

pub record IsDrawn (f s d : ℕ) (taps : List ℤ) : Type 0 where
  pub least_factor : 2 ≤ f
  pub most_factor : f ≤ 16
  pub least_stages : 1 ≤ s
  pub most_stages : s ≤ 5
  pub least_delay : 1 ≤ d
  pub most_delay : d ≤ 2
  pub sixteen : length taps ≡ 16
  pub small : AreSmall taps

pub drawn_small : (number : ℕ) → IsDrawn (factor_drawn number) (stages_drawn number) (delay_drawn number) (taps_drawn number)
unfolding factor_drawn stages_drawn delay_drawn taps_from
drawn_small number = record {
  least_factor = omega arith;
  most_factor = omega (arith, mod_below (draw_after 0 number) 15 (omega arith));
  least_stages = omega arith;
  most_stages = omega (arith, mod_below (draw_after 1 number) 5 (omega arith));
  least_delay = omega arith;
  most_delay = omega (arith, mod_below (draw_after 2 number) 2 (omega arith));
  sixteen = length-map-range_with_len (λ k. tap_of (draw_after k (state_after 3 number))) 0 16;
  small = small_taps (state_after 3 number) 0 16;
}

-- ---- sums of taps

small_magnitude : (taps : List ℤ) → AreSmall taps → magnitude taps ≤ 1000 * length taps
small_magnitude [] h = omega arith
small_magnitude (c ∷ cs) h = omega (arith, h.0, small_magnitude cs h.1)

small_one : (r count : ℕ) → with_one r count ≤ suc count
small_one zero count = omega arith
small_one (suc zero) count = omega arith
small_one (suc (suc zero)) count = omega arith
small_one (suc (suc (suc zero))) count = omega arith
small_one (suc (suc (suc (suc r)))) count = omega arith

small_count : (fuel n : ℕ) → count_to fuel n ≤ fuel
small_count fuel zero = omega arith
small_count zero (suc n) = omega arith
small_count (suc fuel) (suc n) = omega (arith, small_one (suc n % 4) (count_to fuel (rest_of (suc n))), small_count fuel (rest_of (suc n)))

small_terms : (taps : List ℤ) → AreSmall taps → terms taps ≤ 1000 * length taps
small_terms [] h = omega arith
small_terms (c ∷ cs) h = omega (arith, sum_by-cons digit_count c cs, small_count (unsigned_abs c) (unsigned_abs c), h.0, small_terms cs h.1)

-- ---- limits

within : (element : ℕ) (which : LimitWhich) (value least greatest : ℤ) → least ≤ℤ value → value ≤ℤ greatest → limit_test element which value least greatest ≡ None
within element which value least greatest h k = grind (arith, ints)

small_within : (element : ℕ) (c : ℤ) → unsigned_abs c ≤ 1000 → limit_test element Tap c (neg_ℤ (pos (2 ^ 62))) (pos (2 ^ 62)) ≡ None
small_within element (pos n) h = within element Tap (pos n) (neg_ℤ (pos (2 ^ 62))) (pos (2 ^ 62)) (omega (arith, ints)) (omega (arith, ints))
small_within element (negsuc n) h = within element Tap (negsuc n) (neg_ℤ (pos (2 ^ 62))) (pos (2 ^ 62)) (omega (arith, ints)) (omega (arith, ints))

taps_within : (element : ℕ) (taps : List ℤ) → AreSmall taps → taps_test element taps ≡ None
taps_within element [] h = refl
taps_within element (c ∷ cs) h = both _ _ (small_within element c h.0) (taps_within element cs h.1)

pub limits_pass : (f s d : ℕ) (taps : List ℤ) → IsDrawn f s d taps
    → limits_test (record { width = pos 12; ticks = pos 1; elements = CicDown (pos f) (pos s) (pos d) ∷ Filter taps Parallel ∷ Down (pos 2) ∷ Round (pos 8) HalfUp ∷ [] }) ≡ None
limits_pass f s d taps h =
    let cic : cic_test 1 (pos f) (pos s) (pos d) ≡ None = three (limit_test 1 Factor (pos f) (pos 1) (pos 4096)) (limit_test 1 Stages (pos s) (pos 1) (pos 8)) (limit_test 1 Delay (pos d) (pos 1) (pos 2))
    (within 1 Factor (pos f) (pos 1) (pos 4096) (omega (arith, ints, h.least_factor)) (omega (arith, ints, h.most_factor)))
    (within 1 Stages (pos s) (pos 1) (pos 8) (omega (arith, ints, h.least_stages)) (omega (arith, ints, h.most_stages)))
    (within 1 Delay (pos d) (pos 1) (pos 2) (omega (arith, ints, h.least_delay)) (omega (arith, ints, h.most_delay))) in
    let count : limit_test 2 Taps (pos (length taps)) (pos 1) (pos 1024) ≡ None = within 2 Taps (pos (length taps)) (pos 1) (pos 1024) (omega (arith, ints, h.sixteen)) (omega (arith, ints, h.sixteen)) in
    let filter : element_test 2 (Filter taps Parallel) ≡ None = three (limit_test 2 Taps (pos (length taps)) (pos 1) (pos 1024)) (taps_test 2 taps) None count (taps_within 2 taps h.small) refl in
    three (cic_test 1 (pos f) (pos s) (pos d)) (element_test 2 (Filter taps Parallel)) None cic filter refl

-- ---- the groups

abbrev pub first_group : ℕ → ℕ → ℕ → Group
first_group f s d = DownCic f s d

abbrev pub second_group : List ℤ → Group
second_group taps = Fir None (Some (taps, Parallel)) (Some 2)

abbrev pub third_group : Group
third_group = Rounding 8 HalfUp

abbrev pub drawn_groups : ℕ → ℕ → ℕ → List ℤ → List Group
drawn_groups f s d taps = first_group f s d ∷ second_group taps ∷ third_group ∷ []

-- ---- rates

-- the test of one group without an Up: its period is a product
rate_one : (first period after : ℕ) (g : Group) → up_factor g ≡ 1 → period * down_factor g ≡ after → after ≤ 2 ^ 12 → rate_test first period g ≡ None
rate_one first period after g one e h =
    let rest : period * down_factor g % up_factor g ≡ 0 = rw one (omega arith) in
    let long : period_after g period ≤ 2 ^ 31 - 1 = rw one (omega arith) in
    passes rest (holds (period_after g period) (2 ^ 31 - 1) None _ long)
  where
    passes : period * down_factor g % up_factor g ≡ 0 → (if nat_le (period_after g period) (2 ^ 31 - 1) then None else Some (PeriodOver (last_of first g) (period_after g period))) ≡ None
        → rate_test first period g ≡ None
    passes rest inner = grind arith

rates_pass : (f s d : ℕ) (taps : List ℤ) → IsDrawn f s d taps → rates_test 1 (drawn_groups f s d taps) ≡ None
rates_pass f s d taps h =
    let one : period_after (first_group f s d) 1 ≡ f = omega arith in
    let two : period_after (second_group taps) f ≡ f * 2 = omega arith in
    three (rate_test 1 1 (first_group f s d)) (rate_test 2 (period_after (first_group f s d) 1) (second_group taps))
    (option_or (rate_test 4 (period_after (second_group taps) (period_after (first_group f s d) 1)) third_group) None)
    (rate_one 1 1 f (first_group f s d) refl (omega arith) (omega (arith, h.most_factor)))
    (rate_one 2 (period_after (first_group f s d) 1) (f * 2) (second_group taps) refl (omega arith) (omega (arith, h.most_factor)))
    (both (rate_test 4 (period_after (second_group taps) (period_after (first_group f s d) 1)) third_group) None
    (rate_one 4 (period_after (second_group taps) (period_after (first_group f s d) 1)) (f * 2) third_group refl (omega arith) (omega (arith, h.most_factor))) refl)

-- ---- the peak

peak_one : (first peak : ℕ) (g : Group) → peak_after g peak ≤ 2 ^ 125 → peak_test first peak g ≡ None
peak_one first peak g h = holds (peak_after g peak) (2 ^ 125) None _ h

pub small_gain : (f s d : ℕ) (taps : List ℤ) → IsDrawn f s d taps → (f * d) ^ s ≤ 2 ^ 25
small_gain f s d taps h =
    let base : f * d ≤ 32 = omega (arith, h.most_factor, mul-le-mul_left f h.most_delay) in
    let wide = pow-le-pow_left base s in
    let some : 0 < 32 = lit< tt in
    let long : 32 ^ s ≤ 32 ^ 5 = pow-le-pow_right some h.most_stages in
    omega (arith, wide, long)

bounded : (a b m n : ℕ) → a ≤ m → b ≤ n → a * b ≤ m * n
bounded a b m n h k = omega (arith, mul-le-mul_left a k, mul-le-mul_right n h)

-- the peak before the rounding
pub peak_two : (f s d : ℕ) (taps : List ℤ) → IsDrawn f s d taps → peak_after (second_group taps) (peak_after (first_group f s d) (2 ^ 11)) ≤ 2 ^ 36 * 16000
peak_two f s d taps h =
    let one : peak_after (first_group f s d) (2 ^ 11) ≤ 2 ^ 36 = omega (arith, small_gain f s d taps h) in
    let sum : magnitude taps ≤ 16000 = omega (arith, small_magnitude taps h.small, h.sixteen) in
    bounded (peak_after (first_group f s d) (2 ^ 11)) (magnitude taps) (2 ^ 36) 16000 one sum

peaks_pass : (f s d : ℕ) (taps : List ℤ) → IsDrawn f s d taps → peaks_test 12 (drawn_groups f s d taps) ≡ None
peaks_pass f s d taps h =
    let one : peak_after (first_group f s d) (2 ^ 11) ≤ 2 ^ 36 = omega (arith, small_gain f s d taps h) in
    let two = peak_two f s d taps h in
    three (peak_test 1 (2 ^ 11) (first_group f s d)) (peak_test 2 (peak_after (first_group f s d) (2 ^ 11)) (second_group taps))
    (option_or (peak_test 4 (peak_after (second_group taps) (peak_after (first_group f s d) (2 ^ 11))) third_group) None)
    (peak_one 1 (2 ^ 11) (first_group f s d) (omega (arith, one)))
    (peak_one 2 (peak_after (first_group f s d) (2 ^ 11)) (second_group taps) (omega (arith, two)))
    (both (peak_test 4 (peak_after (second_group taps) (peak_after (first_group f s d) (2 ^ 11))) third_group) None
    (peak_one 4 (peak_after (second_group taps) (peak_after (first_group f s d) (2 ^ 11))) third_group (omega (arith, two))) refl)

-- ---- the bound

bounds_pass : (f s d : ℕ) (taps : List ℤ) → bounds_test (drawn_groups f s d taps) ≡ None
bounds_pass f s d taps =
    let one = error_after (first_group f s d) no_error in
    let two = error_after (second_group taps) one in
    let least : one.bound ≤ 2 ^ 125 = omega arith in
    let none : one.bound ≡ 0 = omega arith in
    let still : two.bound ≡ 0 = rw none (omega arith) in
    let last : (error_after third_group two).bound ≤ 2 ^ 125 = rw still (omega arith) in
    three (bound_test 1 no_error (first_group f s d)) (bound_test 2 one (second_group taps)) (option_or (bound_test 4 two third_group) None)
    (holds one.bound (2 ^ 125) None _ least) (holds two.bound (2 ^ 125) None _ (omega (arith, still)))
    (both (bound_test 4 two third_group) None (holds (error_after third_group two).bound (2 ^ 125) None _ last) refl)

-- ---- the costs

pub part_below : (n m : ℕ) → n / m ≤ n
part_below n zero = omega arith
part_below n (suc m) =
    let one : 1 ≤ suc m = omega arith in
    omega (arith, div-add-mod' n (suc m), mul-le-mul_left (n / suc m) one)

over_pass : (element : ℕ) (which : CostWhich) (value most : ℕ) → value ≤ most → over element which value most ≡ None
over_pass element which value most h = holds value most None _ h

record IsLight (s : Spread) : Type 0 where
  classes : s.classes ≤ 1
  reach : s.reach ≤ 2 ^ 12

light_after : (g : Group) (period : ℕ) (s : Spread) → up_factor g ≡ 1 → s.classes ≤ 1 → s.reach + memory_of g * period ≤ 2 ^ 12 → IsLight (spread_after 1 g period s)
light_after g period s one h k = record {
  classes =
      let part = part_below (s.classes * up_factor g) (gcd (s.classes * up_factor g) (down_factor g)) in
      let same : s.classes * up_factor g ≡ s.classes = rw one (omega arith) in
      omega (arith, part, same);
  reach = rw one (omega arith);
}

spread_pass : (element : ℕ) (g : Group) (period : ℕ) (s : Spread) → IsLight s → IsLight (spread_after 1 g period s) → terms_of g ≤ 2 ^ 14 → period_after g period ≤ 2 ^ 12
    → spread_test 1 element g period s (spread_after 1 g period s) ≡ None
spread_pass element g period s h next terms_low period_low =
    let after = spread_after 1 g period s in
    let first = bounded (terms_of g) s.classes (2 ^ 14) 1 terms_low h.classes in
    let work = bounded (terms_of g * s.classes) s.reach (2 ^ 14) (2 ^ 12) (omega (arith, first)) h.reach in
    let response = bounded after.classes after.reach 1 (2 ^ 12) next.classes next.reach in
    let cycle = bounded after.classes (period_after g period) 1 (2 ^ 12) next.classes period_low in
    three (over element Work (terms_of g * s.classes * s.reach) (2 ^ 28)) (over element Response (after.classes * after.reach) (2 ^ 20)) (over element Cycle (after.classes * period_after g period / 1) (2 ^ 24))
    (over_pass element Work (terms_of g * s.classes * s.reach) (2 ^ 28) (omega (arith, work)))
    (over_pass element Response (after.classes * after.reach) (2 ^ 20) (omega (arith, response)))
    (over_pass element Cycle (after.classes * period_after g period / 1) (2 ^ 24) (omega (arith, cycle)))

cost_pass : (first : ℕ) (t : Tally) (g : Group) → t.terms + terms_of g ≤ 16384 → t.stream.offset + group_delay g t.stream + 1 ≤ 2 ^ 31 - 1
    → linear_test 1 (last_of first g) g t.stream.period (linear_spread g t.spread) ≡ None → cost_test 1 first t g ≡ None
cost_pass first t g terms_low latency_low linear =
    three (over (last_of first g) Terms (t.terms + terms_of g) 16384) (over (last_of first g) Latency (t.stream.offset + group_delay g t.stream + 1) (2 ^ 31 - 1))
    (linear_test 1 (last_of first g) g t.stream.period (linear_spread g t.spread))
    (over_pass (last_of first g) Terms (t.terms + terms_of g) 16384 terms_low)
    (over_pass (last_of first g) Latency (t.stream.offset + group_delay g t.stream + 1) (2 ^ 31 - 1) latency_low) linear

costs_pass : (f s d : ℕ) (taps : List ℤ) → IsDrawn f s d taps → costs_test 12 1 (drawn_groups f s d taps) ≡ None
costs_pass f s d taps h =
    let first = first_group f s d in
    let second = second_group taps in
    let t0 = no_tally 12 1 in
    let t1 = tally_after 1 first t0 in
    let t2 = tally_after 1 second t1 in
    let s0 : Spread = record { classes = 1; reach = 1 } in
    let s1 = spread_after 1 first 1 s0 in
    let s2 = spread_after 1 second t1.stream.period s1 in
    let sum : terms taps ≤ 16000 = omega (arith, small_terms taps h.small, h.sixteen) in
    let depth : greatest terms 1 taps ≤ 16000 = omega (arith, terms_whole taps, sum) in
    let period : t1.stream.period ≡ f = omega arith in
    let doubled : period_after second t1.stream.period ≡ f * 2 = omega (arith, period) in
    let base : f * d ≤ 32 = omega (arith, h.most_factor, mul-le-mul_left f h.most_delay) in
    let memory : memory_of first ≤ 5 * 31 = bounded s (f * d - 1) 5 31 h.most_stages (omega (arith, base)) in
    let back : memory_of second * t1.stream.period ≤ 15 * 16 = bounded (length taps - 1) t1.stream.period 15 16 (omega (arith, h.sixteen)) (omega (arith, period, h.most_factor)) in
    let light0 : IsLight s0 = record { classes = omega arith; reach = omega arith } in
    let reach1 : s1.reach ≤ 156 = omega (arith, memory) in
    let light1 : IsLight s1 = light_after first 1 s0 refl (omega arith) (omega (arith, memory)) in
    let light2 : IsLight s2 = light_after second t1.stream.period s1 refl light1.classes (omega (arith, reach1, back)) in
    let early : t1.stream.offset ≤ 10 = omega (arith, h.most_stages) in
    let later : t2.stream.offset ≤ 16011 = omega (arith, early, depth, ceil_log_small (greatest terms 1 taps)) in
    three (cost_test 1 1 t0 first) (cost_test 1 2 t1 second) (option_or (cost_test 1 4 t2 third_group) None)
    (cost_pass 1 t0 first (omega (arith, h.most_stages)) (omega (arith, early)) (spread_pass 1 first 1 s0 light0 light1 (omega (arith, h.most_stages)) (omega (arith, period, h.most_factor))))
    (cost_pass 2 t1 second (omega (arith, h.most_stages, sum)) (omega (arith, later))
    (spread_pass 3 second t1.stream.period s1 light1 light2 (omega (arith, sum)) (omega (arith, doubled, h.most_factor))))
    (both (cost_test 1 4 t2 third_group) None (cost_pass 4 t2 third_group (omega (arith, h.most_stages, sum)) (omega (arith, later)) refl) refl)

-- ---- the plan

pub accepted : (number : ℕ) → IsAccepted (plan_drawn number)
accepted number =
    let f = factor_drawn number in
    let s = stages_drawn number in
    let d = delay_drawn number in
    let taps = taps_drawn number in
    let h = drawn_small number in
    accepted_from (plan_drawn number) (elements_drawn number) 12 1 refl refl refl (sym (limits_pass f s d taps h)) (sym (rates_pass f s d taps h)) (sym (peaks_pass f s d taps h)) (sym (bounds_pass f s d taps))
    refl (costs_pass f s d taps h)
