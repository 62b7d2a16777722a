-- An accumulator that is cleared at each output's first slot holds the sum of its terms of the slots so far.
use Rattle.std.proofs.Common.{◌≡◌, ℕ, zero, suc, ◌+◌, ◌-◌, ◌*◌, ◌/◌, ◌%◌, ◌<◌, ◌≤◌, List, min, sym, ◌∙◌, ap, arith, inl, inr, subst, Option, None, ℤ, pos, negsuc, ◌+ℤ◌, ◌-ℤ◌}
use Rattle.std.proofs.lemmas.Bool.{cases_lt}
use Rattle.std.proofs.lemmas.Int.{ints}
use Rattle.std.proofs.lemmas.Nat.{mod-mul-add}
use Rattle.mr_values.specs.Sequence.{Sequence, weighted_sum}
use Rattle.mr_values.specs.Width.{FitsWidth, chosen}
use Rattle.net_graph.specs.declared.cell.Cell.{Cell}
use Rattle.net_graph.specs.declared.cell.Node.{Node}
use Rattle.net_graph.specs.declared.cell.Stream.{Stream}
use Rattle.net_graph.specs.declared.name.Name.{Name}
use Rattle.net_graph.specs.Cut.{Cut, IsCut}
use Rattle.net_graph.specs.Run.{Values, IsRun}
use Rattle.pipeline_balance.specs.Gate.{Carries, HasTaken, IsBitOf, IsTickOf}
use Rattle.pipeline_balance.proofs.TakenLemmas.{off_tick}
use Rattle.signed_digit.specs.declared.term_list.Term.{Term}
use Rattle.stage_law.specs.Streams.{Streams, AreCausal}
use Rattle.fold_schedule.specs.Forms.{form_to}
use Rattle.fold_schedule.specs.Sums.{held, taken}
use Rattle.fold_schedule.proofs.FormLemmas.{form_law}
use Rattle.fir_pieces.specs.Moment.{Moment, sum_at, HoldsForms}
use Rattle.fir_pieces.specs.Split.{taken_before}
use Rattle.fir_pieces.specs.PhaseSums.{IsFormsWidth}
use Rattle.fir_pieces.proofs.GiveLemmas.{nothing_before, sum_fits}
use Rattle.fir_pieces.proofs.MomentLemmas.{has_taken}
use Rattle.folded_fir.specs.Rounds.{Rounds, AreRounds, newest_of, sum_pace}
use Rattle.folded_fir.specs.Cells.{Table, IsTable, sum_forms}
use Rattle.folded_fir.specs.Accumulators.{GivesCells, IsAccumulator, kept_sum}
use Rattle.folded_fir.proofs.RoundLemmas.{some_period, slot_round, late_moment, early_moment, fold_is_pace}

two_sums : (a b c d : ℤ) → a ≡ c → b ≡ d → a +ℤ b ≡ c +ℤ d
two_sums a b c d p q = omega (arith, ints, p, q)

no_more : (a b : ℤ) → b ≡ pos 0 → a +ℤ b ≡ a
no_more a b e = omega (arith, ints, e)

-- one slot more, or none behind the last
more_slots : (slots : ℕ) (f : ℕ → ℤ) (row : ℕ → ℕ → Option Term) (adder s : ℕ) → ((q : ℕ) → slots ≤ q → row adder q ≡ None)
    → held row f adder (suc (min s (slots - 1))) +ℤ taken f (row adder (suc s)) ≡ held row f adder (suc (min (suc s) (slots - 1)))
more_slots slots f row adder s idle = elim (cases_lt (suc s) slots) [
  | inl less ↦
      let a : min s (slots - 1) ≡ s = omega arith in
      let b : min (suc s) (slots - 1) ≡ suc s = omega arith in
      ap (λ (q : ℕ). held row f adder (suc q) +ℤ taken f (row adder (suc s))) a ∙ ap (λ (q : ℕ). held row f adder (suc q)) (sym b)
  | inr past ↦
      let a : min s (slots - 1) ≡ min (suc s) (slots - 1) = omega arith in
      no_more (held row f adder (suc (min s (slots - 1)))) (taken f (row adder (suc s))) (ap (taken f) (idle (suc s) past)) ∙ ap (λ (q : ℕ). held row f adder (suc q)) a
]

module _ {from : Stream} {cells : List Cell} {group width : ℕ} {name : Name} {clear operand sum : Node} {table : Table} {depth adder : ℕ} (streams : Streams) (causal : AreCausal streams) (o : Rounds) (r : AreRounds from o) (positive : 1 ≤ from.period)
    (is_table : IsTable o depth table) (gives : GivesCells streams cells from o table adder operand) (clears : IsBitOf cells (IsTickOf o.period (from.offset + 2)) clear)
    (accumulator : IsAccumulator cells group name clear operand width sum) (ticks : ℕ) (order : List ℕ) (w : IsFormsWidth streams (sum_pace from o) (sum_forms o depth table adder) ticks order width) where
  -- what is held of an output's cells after a slot
  sum_of : (v : Sequence) (z : ℤ) (b s : ℕ) → s < o.slots → sum_at (sum_forms o depth table adder) (record { newest = z; phase = b * o.slots + s }) v ≡ held (table b) (λ i. v (z -ℤ pos (i / o.up))) adder (suc s)
  sum_of v z b s h =
      let y : ℕ → ℤ = λ i. v (z -ℤ pos i) in
      ap (λ (c : ℕ). weighted_sum (form_to o.up depth (table c) adder (suc ((b * o.slots + s) % o.slots))) y) (slot_round o r positive b s h)
      ∙ ap (λ (c : ℕ). weighted_sum (form_to o.up depth (table b) adder (suc c)) y) (mod-mul-add b o.slots s h)
      ∙ (form_law o.up depth (table b) adder (is_table.reads b adder) (suc s) y).1

  module _ (cut : Cut) (law : IsCut cut) (x : ℕ → ℤ) (values : Values) (v : Sequence) (is : streams v) (run : IsRun cut cells x values) (carried : Carries values from v) where
    none : (n : ℕ) → v (negsuc n) ≡ pos 0
    none n = causal.each v is n

    off : (t : ℕ) → (IsTickOf o.period (from.offset + 2) t → ⊥) → kept_sum values t clear sum ≡ values t sum.place
    off t h = ap (λ (b : ℤ). chosen b (pos 0) (values t sum.place)) (clears.clears cut law x values run t h)

    on : (t : ℕ) → IsTickOf o.period (from.offset + 2) t → kept_sum values t clear sum ≡ pos 0
    on t h = ap (λ (b : ℤ). chosen b (pos 0) (values t sum.place)) (clears.sets cut law x values run t h)

    held_after : (n s t : ℕ) → s < o.period → t ≡ from.offset + 3 + n * o.period + s
        → sum_at (sum_forms o depth table adder) ((sum_pace from o).at t) v ≡ held (table (n % o.round)) (λ i. v (pos (newest_of o n) -ℤ pos (i / o.up))) adder (suc (min s (o.slots - 1)))
    held_after n s t h e =
        let some = r.some_slots in
        ap (λ (m : Moment). sum_at (sum_forms o depth table adder) m v) (late_moment o r positive 2 n s t h e) ∙ sum_of v (pos (newest_of o n)) (n % o.round) (min s (o.slots - 1)) (omega (arith, some))

    before_first : (t : ℕ) → t ≤ from.offset + 2 → sum_at (sum_forms o depth table adder) ((sum_pace from o).at t) v ≡ pos 0
    before_first t early = nothing_before (sum_forms o depth table adder ((sum_pace from o).at t).phase) v ((sum_pace from o).at t).newest none (early_moment o r positive 2 t early)

    step : (t count : ℕ) → HasTaken o.period (from.offset + 1) count t → values t sum.place ≡ sum_at (sum_forms o depth table adder) ((sum_pace from o).at t) v
        → kept_sum values t clear sum +ℤ values t operand.place ≡ sum_at (sum_forms o depth table adder) ((sum_pace from o).at (suc t)) v
    step t zero now before =
        let zero_operand : values t operand.place ≡ pos 0 = gives.early cut law x values v is run carried t (omega (arith, now)) in
        two_sums (kept_sum values t clear sum) (values t operand.place) (pos 0) (pos 0) (off t (λ tick. let e = tick.1 in omega (arith, e, now)) ∙ before ∙ before_first t (omega (arith, now))) zero_operand
        ∙ sym (before_first (suc t) (omega (arith, now)))
    step t (suc n) now before = by_slot (t - (from.offset + 2 + n * o.period)) (let a = now.0 in omega (arith, a)) (let b = now.1 in omega (arith, b, now.0))
      where
        by_slot : (s : ℕ) → t ≡ from.offset + 2 + n * o.period + s → s < o.period
            → kept_sum values t clear sum +ℤ values t operand.place ≡ sum_at (sum_forms o depth table adder) ((sum_pace from o).at (suc t)) v
        by_slot zero e h =
            let y : ℕ → ℤ = λ i. v (pos (newest_of o n) -ℤ pos (i / o.up)) in
            let row = table (n % o.round) in
            let first : min 0 (o.slots - 1) ≡ 0 = omega arith in
            two_sums (kept_sum values t clear sum) (values t operand.place) (pos 0) (taken y (row adder 0)) (on t (n, omega (arith, e))) (gives.slots cut law x values v is run carried n 0 t h e)
            ∙ ap (λ (q : ℕ). held row y adder (suc q)) (sym first) ∙ sym (held_after n 0 (suc t) h (omega (arith, e)))
        by_slot (suc s) e h =
            let y : ℕ → ℤ = λ i. v (pos (newest_of o n) -ℤ pos (i / o.up)) in
            let row = table (n % o.round) in
            let between : (IsTickOf o.period (from.offset + 2) t → ⊥) = off_tick o.period (from.offset + 2) n t (omega (arith, e)) (omega (arith, e, h)) in
            two_sums (kept_sum values t clear sum) (values t operand.place) (held row y adder (suc (min s (o.slots - 1)))) (taken y (row adder (suc s)))
            (off t between ∙ before ∙ held_after n s t (omega (arith, h)) (omega (arith, e))) (gives.slots cut law x values v is run carried n (suc s) t h e)
            ∙ more_slots o.slots y row adder s (is_table.idle (n % o.round) adder) ∙ sym (held_after n (suc s) (suc t) h (omega (arith, e)))

    at_tick : (t : ℕ) → values t sum.place ≡ sum_at (sum_forms o depth table adder) ((sum_pace from o).at t) v
    at_tick zero = accumulator.starts cut law x values run ∙ sym (before_first 0 (omega arith))
    at_tick (suc t) =
        let now = step t (taken_before o.period (from.offset + 1) t) (has_taken o.period (from.offset + 1) t (some_period o r positive)) (at_tick t) in
        let fits = sum_fits streams causal from (sum_pace from o) (fold_is_pace o r positive 2) (sum_forms o depth table adder) ticks order width w v is (suc t) in
        accumulator.takes cut law x values run t (subst (FitsWidth width) (sym now) fits) ∙ now

  -- where it has the least width for all its sums, it holds them
  pub accumulator_holds : HoldsForms streams cells from (sum_pace from o) (sum_forms o depth table adder) 0 sum
  accumulator_holds = record {
    early = λ cut law x values v is run carried t h. absurd (omega arith);
    late = λ cut law x values v is run carried s. let tick : s + 0 ≡ s = omega arith in ap (λ (u : ℕ). values u sum.place) tick ∙ at_tick cut law x values v is run carried s;
  }
