-- How many samples the sum at an index reads.
use Rattle.std.proofs.Common.{◌≡◌, ◌∙◌, ℕ, suc, ◌+◌, ◌-◌, ◌*◌, ◌/◌, ◌^◌, ◌<◌, ◌≤◌, ap, subst, arith, List, length, ℤ, pos, negsuc, ◌+ℤ◌, ◌-ℤ◌, ◌*ℤ◌, ◌≤ℤ◌}
use Rattle.std.proofs.Math.Nat.{mul-le-mul_left, mul-le-mul_right}
use Rattle.std.proofs.lemmas.Int.{ints}
use Rattle.std.proofs.lemmas.Nat.{div-add-mod', mod_below, div_below, le-div}
use Rattle.mr_values.specs.declared.plan.Element.{Element}
use Rattle.mr_values.specs.Timing.{ceil_div}
use Rattle.mr_values.specs.Value.{size, chain}
use Rattle.impulse_phase.specs.Reach.{extent}
use Rattle.impulse_phase.specs.Response.{Response, responses, full_cycle, AreLinear}
use Rattle.plan_check.specs.Costs.{gcd}
use Rattle.impulse_phase.proofs.Prefix.{prefix-has, common-turns}
use Rattle.impulse_phase.proofs.Reach.{prefix-extent, factor-le}
use Rattle.impulse_phase.proofs.Steps.{recurs-times}
use Rattle.stage_law.specs.declared.ranges.Class.{Class}
use Rattle.width_extreme.specs.Prefix.{finer_classes}
use Rattle.chain_build.specs.Soon.{soon_after, ReadsFew}

-- ---- quotients

pub whole-below : (n d : ℕ) → n / d * d ≤ n
whole-below n d = omega (arith, div-add-mod' n d)

pub ceil_div-covers : (n d : ℕ) → 0 < d → n ≤ ceil_div n d * d
ceil_div-covers n d some = omega (arith, div-add-mod' (n + (d - 1)) d, mod_below (n + (d - 1)) d some)

pub ceil_div-least : (n d most : ℕ) → 0 < d → n ≤ most * d → ceil_div n d ≤ most
ceil_div-least n d most some h =
    let next : n + (d - 1) < (most + 1) * d = omega (arith, h, some) in
    let below : (n + (d - 1)) / d < most + 1 = div_below (n + (d - 1)) d (most + 1) some next in
    omega (arith, below)

-- one number fewer, rounded down, and one more
pub ceil_div-fewer : (n d : ℕ) → 0 < d → ceil_div n d ≤ (n - 1) / d + 1
ceil_div-fewer n d some =
    let split = div-add-mod' (n - 1) d in
    let rest = mod_below (n - 1) d some in
    ceil_div-least n d ((n - 1) / d + 1) some (omega (arith, split, rest, some))

-- the same stretch, in ticks and in samples
pub same-stretch : (steps period ticks factor up down most : ℕ) → 0 < ticks → period * up ≡ ticks * down → steps * period ≤ most * (factor * ticks) → steps * down ≤ most * (up * factor)
same-stretch steps period ticks factor up down most some balance h =
    let first : steps * period * up ≤ most * (factor * ticks) * up = mul-le-mul_right up h in
    let turned : steps * period * up ≡ steps * (period * up) = omega arith in
    let same : steps * (period * up) ≡ steps * (ticks * down) = ap (λ (n : ℕ). steps * n) balance in
    factor-le (steps * down) (most * (up * factor)) ticks (omega (arith, first, turned, same)) some

-- ---- the newest sample of an index

at-most : (z : ℤ) (up n down most : ℕ) → 0 < up → (z *ℤ pos up) ≤ℤ (pos n *ℤ pos down) → n * down ≤ most * up → z ≤ℤ pos most
at-most (negsuc k) up n down most some h room = omega (arith, ints)
at-most (pos k) up n down most some h room =
    let own : k * up ≤ n * down = omega (arith, ints, h) in
    let few : k ≤ most = factor-le k most up (omega (arith, own, room)) some in
    omega (arith, ints, few)

module _ (es : List Element) (linear : AreLinear es) where
  abbrev newest : ℕ → ℤ
  newest n = (responses es (pos n)).newest

  pub newest-most : (n most : ℕ) → n * (extent es).down ≤ most * (extent es).up → newest n ≤ℤ pos most
  newest-most n most room =
      let law = prefix-extent es linear in
      at-most (newest n) (extent es).up n (extent es).down most law.has_up (law.reach.newest (pos n)) room

  -- a later index has no earlier one
  pub newest-later : (a b : ℕ) → a ≤ b → newest a ≤ℤ newest b
  newest-later a b h =
      let law = prefix-has es linear in
      let back : pos b -ℤ pos (b - a) ≡ pos a = omega (arith, ints, h) in
      subst (λ (z : ℤ). (responses es z).newest ≤ℤ newest b) back (law.ordered (pos b) (b - a))

  pub newest-rounds : (n rounds : ℕ) → newest (n + rounds * (full_cycle es).classes) ≡ newest n +ℤ pos (rounds * (full_cycle es).step)
  newest-rounds n rounds =
      let law = prefix-has es linear in
      let at : pos (n + rounds * (full_cycle es).classes) ≡ pos n +ℤ pos (rounds * (full_cycle es).classes) = omega (arith, ints) in
      ap (λ (r : Response). r.newest) (ap (responses es) at ∙ recurs-times (chain es) (responses es) (full_cycle es).classes (full_cycle es).step law rounds (pos n))

  -- two indices on it comes at most two rounds later
  pub read-behind : (n most count : ℕ) → n * (extent es).down ≤ most * (extent es).up → count ≤ n + 2 → newest count ≤ℤ pos (most + 2 * (full_cycle es).step)
  read-behind n most count room few =
      let law = prefix-has es linear in
      let some = law.has_class in
      let far : count ≤ n + 2 * (full_cycle es).classes = omega (arith, few, some) in
      omega (arith, ints, newest-later count (n + 2 * (full_cycle es).classes) far, newest-rounds n 2, newest-most n most room)

  -- an index that comes so many rounds after so many indices reads few samples more
  pub read-soon : (count most reach turns index : ℕ) → newest count ≤ℤ pos most → index ≤ count + (full_cycle es).classes * (reach / (full_cycle es).step + 1) + turns * (full_cycle es).classes
      → newest index ≤ℤ pos (most + reach + (full_cycle es).step + turns * (full_cycle es).step)
  read-soon count most reach turns index few soon =
      let rounds = reach / (full_cycle es).step + 1 + turns in
      let far : index ≤ count + rounds * (full_cycle es).classes = omega (arith, soon) in
      let steps : rounds * (full_cycle es).step ≤ reach + (full_cycle es).step + turns * (full_cycle es).step = omega (arith, whole-below reach (full_cycle es).step) in
      omega (arith, ints, newest-later index (count + rounds * (full_cycle es).classes) far, newest-rounds count rounds, few, steps)

pub size-most : (z : ℤ) (most : ℕ) → z ≤ℤ pos most → size z ≤ most
size-most (pos n) most h = omega (arith, ints, h)
size-most (negsuc n) most h = omega arith

-- so many samples at the most
pub few-samples : (es : List Element) (form : List ℤ) (class : Class) (count index : ℕ) → AreLinear es → ReadsFew es form class → index ≤ soon_after es form class → count ≤ suc (size (responses es (pos index)).newest) → count ≤ 2 ^ 27
few-samples es form class count index linear reads soon few =
    let classes = (full_cycle es).classes in
    let turns = class.modulus / gcd classes class.modulus in
    let rounds : finer_classes classes class.modulus * class.modulus ≡ turns * classes = common-turns classes class.modulus in
    let near = read-soon es linear (length form) (2 ^ 20 + 2 * (full_cycle es).step) (extent es).reach turns index reads.behind (omega (arith, soon, rounds)) in
    let most = size-most (responses es (pos index)).newest (2 ^ 20 + 2 * (full_cycle es).step + (extent es).reach + (full_cycle es).step + turns * (full_cycle es).step) near in
    let round = reads.round in
    let turn = reads.turn in
    let reach = reads.reach in
    omega (arith, few, most, round, turn, reach)

-- as soon as is said of a shorter reach
pub soon-than : (es : List Element) (form : List ℤ) (class : Class) (longest index values : ℕ) → AreLinear es → longest ≤ (extent es).reach → length form ≡ values
    → index ≤ values + (full_cycle es).classes * (longest / (full_cycle es).step + 1) + finer_classes (full_cycle es).classes class.modulus * class.modulus → index ≤ soon_after es form class
soon-than es form class longest index values linear short count soon =
    let step = (full_cycle es).step in
    let law = prefix-has es linear in
    let fewer : longest / step ≤ (extent es).reach / step = le-div (longest / step) (extent es).reach step law.has_step (omega (arith, whole-below longest step, short)) in
    let more : (full_cycle es).classes * (longest / step + 1) ≤ (full_cycle es).classes * ((extent es).reach / step + 1) = mul-le-mul_left (full_cycle es).classes (omega (arith, fewer)) in
    omega (arith, soon, more, count)
