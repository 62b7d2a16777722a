-- The pace of outputs and their slots is one.
use Rattle.std.proofs.Common.{◌≡◌, ℕ, zero, suc, ◌+◌, ◌-◌, ◌*◌, ◌/◌, ◌%◌, ◌<◌, ◌≤◌, min, refl, sym, ◌∙◌, ap, arith, inl, inr, subst, pos, ◌<ℤ◌}
use Rattle.std.proofs.lemmas.Bool.{cases_lt}
use Rattle.std.proofs.lemmas.Int.{ints}
use Rattle.std.proofs.Math.Nat.{mul-le-mul_right, add-mul-div_right, mul-add-div_right, div-eq_of_lt, div-eq_of_eq-mul_left, div-mul-le_self, mod-add-div'}
use Rattle.std.proofs.lemmas.Nat.{mod-mul-add, mod_below}
use Rattle.net_graph.specs.declared.cell.Stream.{Stream}
use Rattle.pipeline_balance.specs.Gate.{HasTaken}
use Rattle.fir_pieces.specs.Moment.{Moment, IsPace, Stands}
use Rattle.fir_pieces.specs.Split.{taken_before}
use Rattle.fir_pieces.proofs.MomentLemmas.{taken_is}
use Rattle.folded_fir.specs.Rounds.{Rounds, AreRounds, moment_in, fold_pace, whole_outputs}

module _ {from : Stream} (o : Rounds) (r : AreRounds from o) (positive : 1 ≤ from.period) where
  pub some_period : 1 ≤ o.period
  some_period = let a = r.fit in let b = r.some_slots in omega (arith, a, b)

  -- the value that an output of a round takes
  pub newest_at : (a b : ℕ) → (a * o.round + b) * o.down / o.up ≡ a * o.step + b * o.down / o.up
  newest_at a b =
      let rounds : a * (o.round * o.down) ≡ a * (o.step * o.up) = ap (λ (n : ℕ). a * n) r.whole in
      let at : (a * o.round + b) * o.down ≡ b * o.down + a * o.step * o.up = omega (arith, rounds) in
      let sum = add-mul-div_right (b * o.down) (a * o.step) {z = o.up} r.some_up in
      ap (λ (n : ℕ). n / o.up) at ∙ omega (arith, sum)

  pub below_step : (b : ℕ) → b < o.round → b * o.down / o.up < o.step
  below_step b h = elim (cases_lt (b * o.down / o.up) o.step) [
    | inl less ↦ less
    | inr more ↦
        let big : o.step * o.up ≤ b * o.down / o.up * o.up = mul-le-mul_right o.up more in
        let small = div-mul-le_self (b * o.down) o.up in
        let next : suc b * o.down ≤ o.round * o.down = mul-le-mul_right o.down h in
        let whole = r.whole in
        let some = r.some_down in
        absurd (omega (arith, big, small, next, whole, some))
  ]

  -- the output's number within its round, and its slot
  pub slot_round : (b s : ℕ) → s < o.slots → (b * o.slots + s) / o.slots ≡ b
  slot_round b s h = let sum = mul-add-div_right {m = o.slots} r.some_slots b s in let none : s / o.slots ≡ 0 = div-eq_of_lt h in omega (arith, sum, none)

  -- times: output n comes the rest after its value
  pub output_time : (a b : ℕ) → (a * o.round + b) * o.period ≡ (a * o.step + b * o.down / o.up) * from.period + b * o.down % o.up * from.period / o.up
  output_time a b =
      let n = a * o.round + b in
      let k = a * o.step + b * o.down / o.up in
      let rest = b * o.down % o.up in
      let rounds : a * (o.round * o.down) ≡ a * (o.step * o.up) = ap (λ (m : ℕ). a * m) r.whole in
      let split : b * o.down % o.up + b * o.down / o.up * o.up ≡ b * o.down = mod-add-div' (b * o.down) o.up in
      let values : n * o.down ≡ k * o.up + rest = omega (arith, rounds, split) in
      let first : n * (o.up * o.period) ≡ n * (o.down * from.period) = ap (λ (m : ℕ). n * m) r.same_time in
      let second : n * o.down * from.period ≡ (k * o.up + rest) * from.period = ap (λ (m : ℕ). m * from.period) values in
      let both : n * o.period * o.up ≡ k * from.period * o.up + rest * from.period = omega (arith, first, second) in
      let late : k * from.period ≤ n * o.period = elim (cases_lt (n * o.period) (k * from.period)) [
        | inl less ↦ let big : suc (n * o.period) * o.up ≤ k * from.period * o.up = mul-le-mul_right o.up less in let some = r.some_up in absurd (omega (arith, big, both, some))
        | inr le ↦ le
      ] in
      let gap = n * o.period - k * from.period in
      let gap_is : k * from.period + gap ≡ n * o.period = omega (arith, late) in
      let scaled : (k * from.period + gap) * o.up ≡ n * o.period * o.up = ap (λ (m : ℕ). m * o.up) gap_is in
      let over : rest * from.period ≡ gap * o.up = omega (arith, scaled, both) in
      let quotient : rest * from.period / o.up ≡ gap = div-eq_of_eq-mul_left r.some_up over in
      omega (arith, quotient, gap_is)

  -- and before the next value
  pub rest_short : (b : ℕ) → b * o.down % o.up * from.period / o.up < from.period
  rest_short b = elim (cases_lt (b * o.down % o.up * from.period / o.up) from.period) [
    | inl less ↦ less
    | inr more ↦
        let rest = b * o.down % o.up in
        let low : rest < o.up = mod_below (b * o.down) o.up r.some_up in
        let big : from.period * o.up ≤ rest * from.period / o.up * o.up = mul-le-mul_right o.up more in
        let small = div-mul-le_self (rest * from.period) o.up in
        let next : suc rest * from.period ≤ o.up * from.period = mul-le-mul_right from.period low in
        absurd (omega (arith, big, small, next, positive))
  ]

  -- the moment of an output, so many ticks after its first slot
  pub late_moment : (wait n s t : ℕ) → s < o.period → t ≡ from.offset + suc wait + n * o.period + s → (fold_pace from o wait).at t ≡ record { newest = pos (n * o.down / o.up); phase = n % o.round * o.slots + min s (o.slots - 1) }
  late_moment wait n s t h e =
      let one : suc n - 1 ≡ n = omega arith in
      let now : HasTaken o.period (from.offset + wait) (suc n) t = (omega arith, omega arith) in
      let count : taken_before o.period (from.offset + wait) t ≡ suc n = taken_is o.period (from.offset + wait) (suc n) t some_period now in
      let since : t - suc (from.offset + wait + n * o.period) ≡ s = omega arith in
      ap (λ (c : ℕ). moment_in o c (t - suc (from.offset + wait + (c - 1) * o.period))) count
      ∙ same (t - suc (from.offset + wait + (suc n - 1) * o.period)) s (ap (λ (c : ℕ). t - suc (from.offset + wait + c * o.period)) one ∙ since)
    where
      same : (p q : ℕ) → p ≡ q → moment_in o (suc n) p ≡ moment_in o (suc n) q
      same p q e = ap (moment_in o (suc n)) e

  -- of one of its slots
  pub slot_moment : (wait n s t : ℕ) → s < o.slots → t ≡ from.offset + suc wait + n * o.period + s → (fold_pace from o wait).at t ≡ record { newest = pos (n * o.down / o.up); phase = n % o.round * o.slots + s }
  slot_moment wait n s t h e =
      let fit = r.fit in
      let least : min s (o.slots - 1) ≡ s = omega arith in
      late_moment wait n s t (omega (arith, h, fit)) e ∙ ap (λ (q : ℕ). let m : Moment = record { newest = pos (n * o.down / o.up); phase = n % o.round * o.slots + q } in m) least

  -- before the first
  pub early_moment : (wait t : ℕ) → t ≤ from.offset + wait → ((fold_pace from o wait).at t).newest <ℤ pos 0
  early_moment wait t early =
      let none : taken_before o.period (from.offset + wait) t ≡ 0 = taken_is o.period (from.offset + wait) 0 t some_period early in
      subst (λ (c : ℕ). (moment_in o c (t - suc (from.offset + wait + (c - 1) * o.period))).newest <ℤ pos 0) (sym none) (omega (arith, ints))

  pub fold_is_pace : (wait : ℕ) → IsPace from (fold_pace from o wait)
  fold_is_pace wait = record {
    proper = λ φ h. below_step (φ / o.slots) (in_round φ h);
    below = λ s. below_after (taken_before o.period (from.offset + wait) s) (s - suc (from.offset + wait + (taken_before o.period (from.offset + wait) s - 1) * o.period));
    stands = λ s. stands_after (taken_before o.period (from.offset + wait) s) (s - suc (from.offset + wait + (taken_before o.period (from.offset + wait) s - 1) * o.period));
    due = λ φ k h in_class.
        let b = φ / o.slots in
        let s = φ % o.slots in
        let a = k / o.step in
        let n = a * o.round + b in
        let split : k % o.step + k / o.step * o.step ≡ k = mod-add-div' k o.step in
        let k_is : a * o.step + b * o.down / o.up ≡ k = omega (arith, split, in_class) in
        let time = output_time a b in
        let far : (a * o.step + b * o.down / o.up) * from.period ≡ k * from.period = ap (λ (m : ℕ). m * from.period) k_is in
        let small : s < o.slots = mod_below φ o.slots r.some_slots in
        let tick : from.offset + k * from.period + (φ / o.slots * o.down % o.up * from.period / o.up + suc wait + φ % o.slots) ≡ from.offset + suc wait + n * o.period + s = omega (arith, time, far) in
        let newest : n * o.down / o.up ≡ k = newest_at a b ∙ k_is in
        let own : n % o.round ≡ b = mod-mul-add a o.round b (in_round φ h) in
        let whole : φ % o.slots + φ / o.slots * o.slots ≡ φ = mod-add-div' φ o.slots in
        let phase : n % o.round * o.slots + s ≡ φ = ap (λ (m : ℕ). m * o.slots + s) own ∙ omega (arith, whole) in
        slot_moment wait n s (from.offset + k * from.period + (fold_pace from o wait).lag φ) small tick
        ∙ ap (λ (m : ℕ). let x : Moment = record { newest = pos m; phase = n % o.round * o.slots + s } in x) newest
        ∙ ap (λ (m : ℕ). let x : Moment = record { newest = pos k; phase = m } in x) phase;
  }
    where
      in_round : (φ : ℕ) → φ < o.round * o.slots → φ / o.slots < o.round
      in_round φ h = elim (cases_lt (φ / o.slots) o.round) [
        | inl less ↦ less
        | inr more ↦ let big : o.round * o.slots ≤ φ / o.slots * o.slots = mul-le-mul_right o.slots more in let small = div-mul-le_self φ o.slots in absurd (omega (arith, h, big, small))
      ]

      below_after : (count since : ℕ) → (moment_in o count since).phase < o.round * o.slots
      below_after zero since = let a : 1 * o.slots ≤ o.round * o.slots = mul-le-mul_right o.slots r.some_round in let b = r.some_slots in omega (arith, a, b)
      below_after (suc n) since =
          let low : n % o.round < o.round = mod_below n o.round r.some_round in
          let a : suc (n % o.round) * o.slots ≤ o.round * o.slots = mul-le-mul_right o.slots low in
          let b = r.some_slots in
          omega (arith, a, b)

      stands_after : (count since : ℕ) → Stands (fold_pace from o wait).class (moment_in o count since)
      stands_after zero since = inl (omega (arith, ints))
      stands_after (suc n) since =
          let b = n % o.round in
          let a = n / o.round in
          let low : b < o.round = mod_below n o.round r.some_round in
          let split : n ≡ a * o.round + b = let whole = mod-add-div' n o.round in omega (arith, whole) in
          let newest : n * o.down / o.up ≡ a * o.step + b * o.down / o.up = ap (λ (m : ℕ). m * o.down / o.up) split ∙ newest_at a b in
          let some = r.some_slots in
          let slot : (b * o.slots + min since (o.slots - 1)) / o.slots ≡ b = slot_round b (min since (o.slots - 1)) (omega arith) in
          inr (
            n * o.down / o.up,
            refl,
            ap (λ (m : ℕ). m % o.step) newest ∙ mod-mul-add a o.step (b * o.down / o.up) (below_step b low) ∙ ap (λ (m : ℕ). m * o.down / o.up) (sym slot),
          )

  -- the outputs as wholes
  pub whole_rounds : AreRounds from (whole_outputs o)
  whole_rounds = record { some_up = r.some_up; some_down = r.some_down; some_round = r.some_round; some_slots = omega arith; fit = some_period; whole = r.whole; same_time = r.same_time }
