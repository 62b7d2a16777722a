-- What the tests of an accepted plan say of each group: its period, its offset and how great its values are.
use Rattle.std.proofs.Common.{◌≡◌, ℕ, zero, suc, ◌+◌, ◌-◌, ◌*◌, ◌/◌, ◌%◌, ◌^◌, ◌≤◌, max, refl, ◌∙◌, ap, arith, subst, List, [], ◌∷◌, None, inl, inr}
use Rattle.std.specs.Prelude.{unsigned_abs}
use Rattle.std.proofs.lemmas.Nat.{div-add-mod'}
use Rattle.std.proofs.lemmas.Bool.{cases_lt}
use Rattle.std.proofs.Math.Nat.{mul-le-mul_right}
use Rattle.mr_values.specs.Timing.{Group, Fir, DownCic, UpCic, Rounding, Clipping, Stream, input, after, up_factor, down_factor, period_after, group_delay}
use Rattle.plan_check.specs.Groups.{size_of, last_of, first_failing, IsGroup}
use Rattle.plan_check.specs.Amounts.{rate_test, gain}
use Rattle.plan_check.specs.Accepted.{rates_test, peaks_test, costs_test, no_tally}
use Rattle.plan_check.specs.Costs.{Tally, tally_after, cost_test, over}
use Rattle.plan_check.specs.declared.fault.CostWhich.{CostWhich}
use Rattle.plan_check.specs.declared.fault.CostWhich.TheVariants.{Latency}
use Rattle.plan_check.proofs.Options.{none_of}
use Rattle.plan_check.proofs.Narrow.{IsNarrow, narrow_next, narrow_gain, narrow_start}

-- ---- one group

over_passes : (element : ℕ) (which : CostWhich) (value most : ℕ) → over element which value most ≡ None → value ≤ most
over_passes element which value most e = grind arith

-- the period of a group's values is whole and not too long
pub record HasRate (g : Group) (period : ℕ) : Type 0 where
  pub whole : period * down_factor g % up_factor g ≡ 0
  pub most : period_after g period ≤ 2 ^ 31 - 1

pub rate_passes : (first period : ℕ) (g : Group) → rate_test first period g ≡ None → HasRate g period
rate_passes first period g e = record { whole = whole_part; most = grind arith }
  where
    whole_part : period * down_factor g % up_factor g ≡ 0
    whole_part = grind arith

latency_passes : (ticks first : ℕ) (t : Tally) (g : Group) → cost_test ticks first t g ≡ None → t.stream.offset + group_delay g t.stream + 1 ≤ 2 ^ 31 - 1
latency_passes ticks first t g e =
    let rest = none_of _ _ e in
    let latency = none_of _ _ rest.1 in
    over_passes (last_of first g) Latency (t.stream.offset + group_delay g t.stream + 1) (2 ^ 31 - 1) latency.0

-- a factor of a group is at least 1
pub factors_some : (g : Group) → IsGroup g → (1 ≤ up_factor g) × (1 ≤ down_factor g)
factors_some (Fir up filter down) h = (h.up_low, h.down_low)
factors_some (DownCic factor stages delay) h = (omega arith, h.factor_low)
factors_some (UpCic factor stages delay) h = (h.factor_low, omega arith)
factors_some (Rounding shift mode) h = (omega arith, omega arith)
factors_some (Clipping bits) h = (omega arith, omega arith)

times_some : (a b : ℕ) → 1 ≤ a → 1 ≤ b → 1 ≤ a * b
times_some (suc a) (suc b) p q = omega arith
times_some zero b p q = absurd (omega arith)
times_some (suc a) zero p q = absurd (omega arith)

quotient_some : (n d : ℕ) → 1 ≤ n → n % d ≡ 0 → 1 ≤ n / d
quotient_some n d some whole = by (n / d) refl
  where
    by : (q : ℕ) → n / d ≡ q → 1 ≤ q
    by zero e = absurd (let split = div-add-mod' n d in let none : n / d * d ≡ 0 = ap (λ (k : ℕ). k * d) e ∙ omega arith in omega arith)
    by (suc q) e = omega arith

pub period-whole : (g : Group) (period : ℕ) → HasRate g period → period_after g period * up_factor g ≡ period * down_factor g
period-whole g period r = let split = div-add-mod' (period * down_factor g) (up_factor g) in let whole = r.whole in omega arith

-- equal products of a number that is not 0
pub cancel : (a b n : ℕ) → 1 ≤ n → a * n ≡ b * n → a ≡ b
cancel a b n some e = elim (cases_lt a b) [
  | inl less ↦ absurd (let more : suc a * n ≤ b * n = mul-le-mul_right n less in omega arith)
  | inr ge ↦ elim (cases_lt b a) [
    | inl less ↦ absurd (let more : suc b * n ≤ a * n = mul-le-mul_right n less in omega arith)
    | inr le ↦ omega arith
  ]
]

-- ---- a walk over the groups

-- the groups that are left pass the tests from this stream on
pub record IsWalk (ticks first : ℕ) (t : Tally) (gs : List Group) (s : Stream) : Type 0 where
  pub rates : first_failing rate_test period_after first s.period gs ≡ None
  pub costs : first_failing (cost_test ticks) (tally_after ticks) first t gs ≡ None
  pub same : t.stream ≡ s
  pub narrow : IsNarrow gs s.low s.high
  pub positive : 1 ≤ s.period
  pub long : s.period ≤ 2 ^ 31 - 1
  pub early : s.offset + 1 ≤ 2 ^ 31 - 1

pub walk_rate : {ticks first : ℕ} {t : Tally} {g : Group} {gs : List Group} {s : Stream} → IsWalk ticks first t (g ∷ gs) s → HasRate g s.period
walk_rate {ticks} {first} {t} {g} {gs} {s} w = let rate = none_of _ _ w.rates in rate_passes first s.period g rate.0

pub walk_next : {ticks first : ℕ} {t : Tally} {g : Group} {gs : List Group} {s : Stream} → IsGroup g → IsWalk ticks first t (g ∷ gs) s → IsWalk ticks (first + size_of g) (tally_after ticks g t) gs (after g s)
walk_next {ticks} {first} {t} {g} {gs} {s} limits w =
    let rate = none_of _ _ w.rates in
    let cost = none_of _ _ w.costs in
    let passed = rate_passes first s.period g rate.0 in
    let some = factors_some g limits in
    let latency : s.offset + group_delay g s + 1 ≤ 2 ^ 31 - 1 = subst (λ (u : Stream). u.offset + group_delay g u + 1 ≤ 2 ^ 31 - 1) w.same (latency_passes ticks first t g cost.0) in
    record {
      rates = rate.1;
      costs = cost.1;
      same = ap (after g) w.same;
      narrow = narrow_next g gs (g ∷ gs) s.low s.high refl limits w.narrow;
      positive = quotient_some (s.period * down_factor g) (up_factor g) (times_some s.period (down_factor g) w.positive some.1) passed.whole;
      long = passed.most;
      early = latency;
    }

pub walk_start : (width ticks : ℕ) (gs : List Group) → 2 ≤ width → width ≤ 64 → 1 ≤ ticks → ticks ≤ 65536 → rates_test ticks gs ≡ None → peaks_test width gs ≡ None → costs_test width ticks gs ≡ None → IsWalk ticks 1 (no_tally width ticks) gs (input width ticks)
walk_start width ticks gs wide narrow some most rates peaks costs = record {
  rates = rates;
  costs = costs;
  same = refl;
  narrow = narrow_start width ticks gs wide narrow peaks;
  positive = some;
  long = omega arith;
  early = omega arith;
}

-- ---- how great the values are

pub walk_most : {ticks first : ℕ} {t : Tally} {g : Group} {gs : List Group} {s : Stream} → IsWalk ticks first t (g ∷ gs) s → max (unsigned_abs s.low) (unsigned_abs s.high) ≤ 2 ^ 125
walk_most {ticks} {first} {t} {g} {gs} {s} w =
    let fits = w.narrow.fits in
    let l = w.narrow.within.low_within in
    let h = w.narrow.within.high_within in
    let peak : w.narrow.peak ≤ 2 ^ 125 = fits.0 in
    omega arith

pub walk_gain : {ticks first : ℕ} {t : Tally} {g : Group} {gs : List Group} {s : Stream} → IsWalk ticks first t (g ∷ gs) s → gain g * max (unsigned_abs s.low) (unsigned_abs s.high) ≤ 2 ^ 125
walk_gain {ticks} {first} {t} {g} {gs} {s} w = narrow_gain g gs (g ∷ gs) s.low s.high refl w.narrow

pub walk_end : {ticks first : ℕ} {t : Tally} {s : Stream} → IsWalk ticks first t [] s → (unsigned_abs s.low ≤ 2 ^ 125) × (unsigned_abs s.high ≤ 2 ^ 125)
walk_end {ticks} {first} {t} {s} w =
    let peak : w.narrow.peak ≤ 2 ^ 125 = w.narrow.fits in
    let l = w.narrow.within.low_within in
    let h = w.narrow.within.high_within in
    (omega arith, omega arith)
