-- The samples, and the values of the chain over them.
use Rattle.std.proofs.Common.{◌≡◌, ℕ, ◌+◌, ◌-◌, ◌*◌, ◌%◌, ◌^◌, ◌≤◌, sym, ap, subst, arith, List, length, ℤ, pos, ◌-ℤ◌}
use Rattle.std.specs.Prelude.{All, unsigned_abs}
use Rattle.std.proofs.lemmas.Int.{ints}
use Rattle.std.proofs.lemmas.Nat.{mod_below}
use Rattle.std.proofs.lemmas.List.FromFn.{length-map-range_with_len, get_or-map-range_with_len}
use Rattle.mr_values.specs.Timing.{ceil_div, last_stream}
use Rattle.mr_values.specs.Value.{val, IsWithinLimits}
use Rattle.mr_values.specs.Width.{FitsWidth}
use Rattle.plan_check.proofs.LimitFacts.{has_limits}
use Rattle.plan_laws.specs.Laws.{peak_after_all}
use Rattle.plan_laws.proofs.Peaks.{peak_holds}
use Rattle.demo_plan.specs.Drawn.{draw_after, factor_drawn, stages_drawn, delay_drawn, taps_drawn, elements_drawn, plan_drawn, sample_of, samples_from, samples_drawn, state_drawn, count_drawn, values_drawn}
use Rattle.chain_values.proofs.PairTakes.{length-values_from}
use Rattle.demo_plan.proofs.Accepted.{IsDrawn, drawn_small, limits_pass, part_below, peak_two, drawn_groups}

small_sample : (m : ℕ) → m ≤ 4095 → FitsWidth 12 (pos m -ℤ pos 2048)
small_sample m h = record { low = omega (arith, ints); high = omega (arith, ints) }

pub samples_fit : (state n : ℕ) → All (FitsWidth 12) (samples_from state n)
unfolding samples_from
samples_fit state n k d below =
    let f : ℕ → ℤ = λ j. sample_of (draw_after j state) in
    subst (FitsWidth 12) (sym (get_or-map-range_with_len f 0 n k k d (omega (arith, below, length-map-range_with_len f 0 n)) (omega arith)))
    (small_sample (draw_after k state % 4096) (omega (arith, mod_below (draw_after k state) 4096 (omega arith))))

pub limits : (number : ℕ) → All IsWithinLimits (elements_drawn number)
limits number = (has_limits (plan_drawn number) (limits_pass (factor_drawn number) (stages_drawn number) (delay_drawn number) (taps_drawn number) (drawn_small number))).elements

small_peak : (f s d : ℕ) (taps : List ℤ) → IsDrawn f s d taps → peak_after_all (drawn_groups f s d taps) (2 ^ 11) ≤ 2 ^ 64
small_peak f s d taps h = omega (arith, peak_two f s d taps h)

join : (a b c : ℕ) → a ≤ b → b ≤ c → a ≤ c
join a b c h k = omega arith

pub value_small : (number : ℕ) (n : ℤ) → unsigned_abs (val (elements_drawn number) (samples_drawn number) n) ≤ 2 ^ 64
value_small number n =
    join (unsigned_abs (val (elements_drawn number) (samples_drawn number) n)) (peak_after_all (drawn_groups (factor_drawn number) (stages_drawn number) (delay_drawn number) (taps_drawn number)) (2 ^ 11)) (2 ^ 64)
    (peak_holds 12 (elements_drawn number) (omega arith) (limits number) (samples_drawn number) n (samples_fit (state_drawn number) 100000))
    (small_peak (factor_drawn number) (stages_drawn number) (delay_drawn number) (taps_drawn number) (drawn_small number))

pub count_is : (number : ℕ) → count_drawn number ≡ ceil_div 100000 (factor_drawn number * 2)
count_is number =
    let period : (last_stream 12 1 (elements_drawn number)).period ≡ factor_drawn number * 2 = omega arith in
    ap (ceil_div 100000) period

pub count_few : (number : ℕ) → count_drawn number ≤ 2 ^ 32
count_few number =
    let h = drawn_small number in
    let part = part_below (100000 + (factor_drawn number * 2 - 1)) (factor_drawn number * 2) in
    omega (arith, count_is number, part, h.most_factor)

pub values_all : (number : ℕ) → length (values_drawn number) ≡ count_drawn number
values_all number = length-values_from (val (elements_drawn number) (samples_drawn number)) (pos 0) (count_drawn number)
