-- How many ticks there are.
use Rattle.std.proofs.Common.{◌≡◌, ℕ, zero, suc, ◌+◌, ◌-◌, ◌*◌, ◌/◌, ◌≤◌, ◌<◌, ◌^◌, length, None, refl, ap, arith, inl, inr}
use Rattle.std.proofs.lemmas.Bool.{cases_lt}
use Rattle.std.proofs.Math.Nat.{mul-le-mul_left}
use Rattle.mr_values.specs.Timing.{ceil_div}
use Rattle.chain_run.specs.declared.timing.ChainTiming.{ChainTiming}
use Rattle.chain_run.specs.Outputs.{IsTiming}
use Rattle.chain_run.specs.Stream.{Midst, one_where_begun, ticks_left}
use Rattle.chain_run.specs.Ticks.{ticks_to_show, end_tick}
use Rattle.chain_run.proofs.TickSteps.{max-more, end-least}

-- the least multiple that isn't below a number
pub ceil-least : (n d : ℕ) → 1 ≤ d → n ≤ d * ceil_div n d
ceil-least n d some = omega arith

pub ceil-most : (n d : ℕ) → 1 ≤ d → d * ceil_div n d ≤ n + (d - 1)
ceil-most n d some = omega arith

pub samples-most : (t : ChainTiming) (samples : ℕ) → IsTiming t → samples * t.ticks ≤ samples * 2 ^ 16
samples-most t samples is = mul-le-mul_left samples (is.most_ticks)

-- the value before the last
pub last-most : (n d : ℕ) → 1 ≤ d → (ceil_div n d - 1) * d ≤ n
last-most n d some = let most = ceil-most n d some in by (ceil_div n d) most
  where
    by : (q : ℕ) → d * q ≤ n + (d - 1) → (q - 1) * d ≤ n
    by zero h = omega arith
    by (suc q) h = let same : suc q - 1 ≡ q = omega arith in rw same (omega arith)

pub show-most : (t : ChainTiming) (samples : ℕ) → IsTiming t → ticks_to_show t samples ≤ samples * 2 ^ 16 + 2 ^ 32
show-most t zero is = omega arith
show-most t (suc samples) is = omega (arith, is.most_latency, samples-most t (suc samples) is, last-most (suc samples * t.ticks) t.period is.least_period)

pub end-most : (t : ChainTiming) (samples : ℕ) → IsTiming t → end_tick t samples None ≤ samples * 2 ^ 16 + 2 ^ 32
end-most t samples is = omega (arith, max-more (samples * t.ticks) (ticks_to_show t samples), samples-most t samples is, show-most t samples is)

pub show-is : (t : ChainTiming) (samples n : ℕ) → (samples ≡ 0 → ⊥) → n ≡ samples * t.ticks → 1 ≤ t.period
    → t.latency + ((n + t.period - 1) / t.period - 1) * t.period + 1 ≡ ticks_to_show t samples
show-is t zero n some is positive = absurd (some refl)
show-is t (suc samples) n some is positive =
    let first : n + t.period - 1 ≡ suc samples * t.ticks + (t.period - 1) = omega (arith, is) in
    ap (λ (m : ℕ). t.latency + (m / t.period - 1) * t.period + 1) first

-- where a line had begun, more was left than any samples have
pub left-falls : (old : Midst) (begun : ℕ) (t : ChainTiming) (samples tick : ℕ) → IsTiming t → samples < 2 ^ 33 → 0 < length old.place.begun → begun ≡ 0 → begun * 2 ^ 50 + (end_tick t samples None - tick) < ticks_left old
left-falls old begun t samples tick is few some none =
    let most = end-most t samples is in
    let one : one_where_begun (length old.place.begun) ≡ 1 = begun-one (length old.place.begun) some in
    omega (arith, ap (λ (n : ℕ). n * 2 ^ 50) one, ap (λ (n : ℕ). n * 2 ^ 50) none)
  where
    begun-one : (n : ℕ) → 0 < n → one_where_begun n ≡ 1
    begun-one zero h = absurd (omega arith)
    begun-one (suc n) h = refl

-- where as much is left as before, no tick was run
pub no-tick : (t : ChainTiming) (samples tick ticks begun : ℕ) → tick ≤ ticks → (samples * t.ticks ≤ tick → ticks ≡ tick) → begun * 2 ^ 50 + (end_tick t samples None - ticks) ≡ begun * 2 ^ 50 + (end_tick t samples None - tick) → ticks ≡ tick
no-tick t samples tick ticks begun least past same = elim (cases_lt tick (samples * t.ticks)) [
  | inl less ↦ omega (arith, same, end-least t samples None)
  | inr more ↦ past more
]

pub no-last-tick : (t : ChainTiming) (samples tick ticks begun : ℕ) → tick ≤ ticks → (end_tick t samples None ≤ tick → ticks ≡ tick) → begun * 2 ^ 50 + (end_tick t samples None - ticks) ≡ begun * 2 ^ 50 + (end_tick t samples None - tick) → ticks ≡ tick
no-last-tick t samples tick ticks begun least past same = elim (cases_lt tick (end_tick t samples None)) [
  | inl less ↦ omega (arith, same)
  | inr more ↦ past more
]
