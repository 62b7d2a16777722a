-- How many runs there are, and what they ask.
use Rattle.std.proofs.Common.{◌≡◌, ℕ, zero, suc, ◌+◌, ◌*◌, ◌/◌, ◌%◌, ◌^◌, ◌<◌, ◌≤◌, min, List, length, ap, arith, ℤ}
use Rattle.std.proofs.Math.Nat.{mul-le-mul_left}
use Rattle.std.proofs.lemmas.Nat.{div-add-mod', mod_below}
use Rattle.mr_values.specs.Timing.{ceil_div}
use Rattle.mr_values.proofs.Logarithm.{ceil_log_bound, ceil_log_power}
use Rattle.distributed_table.specs.Facts.{levels_of, runs_of}
use Rattle.distributed_table.proofs.EndLemmas.{ceil_same}

pub runs_most : (n d : ℕ) → 1 ≤ d → ceil_div n d ≤ n
runs_most n d some =
    let less = mul-le-mul_left (n / d) some in
    let whole = div-add-mod' n d in
    let same = ceil_same n d some in
    omega (arith, less, whole, same)

pub runs_some : (n d : ℕ) → 1 ≤ d → 1 ≤ n → 1 ≤ ceil_div n d
runs_some n d some many = let same = ceil_same n d some in let found = by (n / d) (n % d) (div-add-mod' n d) in omega (arith, same, found)
  where
    by : (q r : ℕ) → q * d + r ≡ n → 1 ≤ q + min 1 r
    by zero r e = omega (arith, e)
    by (suc q) r e = omega arith

pub runs_cover : (n d : ℕ) → 1 ≤ d → n ≤ ceil_div n d * d
runs_cover n d some =
    let same = ap (λ (k : ℕ). k * d) (ceil_same n d some) in
    let found = by (n / d) (n % d) (div-add-mod' n d) (mod_below n d (omega arith)) in
    omega (arith, same, found)
  where
    by : (q r : ℕ) → q * d + r ≡ n → r < d → n ≤ (q + min 1 r) * d
    by q zero e less = let all : q + min 1 zero ≡ q = omega arith in let times = ap (λ (k : ℕ). k * d) all in omega (arith, e, times)
    by q (suc r) e less = let all : q + min 1 (suc r) ≡ suc q = omega arith in let times = ap (λ (k : ℕ). k * d) all in omega (arith, e, less, times)

pub levels_low : (size : ℕ) (taps : List ℤ) → 1 ≤ size → length taps ≤ 1024 → levels_of size taps ≤ 10
levels_low size taps some few = ceil_log_bound 10 (runs_of size taps) (let most = runs_most (length taps) size some in omega (arith, most, few))

pub levels_deep : (size : ℕ) (taps : List ℤ) → runs_of size taps ≤ 2 ^ levels_of size taps
levels_deep size taps = ceil_log_power (runs_of size taps)
