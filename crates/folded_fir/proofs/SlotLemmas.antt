-- In which slot each bit is set, and what an operand then gives.
use Rattle.std.proofs.Common.{◌≡◌, ℕ, ◌+◌, ◌*◌, ◌/◌, ◌%◌, ◌^◌, ◌<◌, ◌≤◌, List, length, get_or, refl, sym, ◌∙◌, ap, arith, subst, inl, inr, Option, None, Some, slice_get, ℤ, pos, ◌-ℤ◌, ◌*ℤ◌}
use Rattle.std.proofs.lemmas.Bool.{cases_lt}
use Rattle.std.proofs.lemmas.Nat.{div-add-mod', mod-mul-add, mod_below, same_from_place}
use Rattle.std.proofs.lemmas.Option.{slice_get_within, slice_get-get_or, get_or_from_slice_get}
use Rattle.net_graph.specs.declared.cell.Cell.{Cell}
use Rattle.net_graph.specs.declared.cell.Node.{Node}
use Rattle.net_graph.specs.declared.cell.Stream.{Stream}
use Rattle.net_graph.specs.Cells.{NetView}
use Rattle.net_graph.specs.Cut.{Cut, IsCut}
use Rattle.net_graph.specs.Run.{Values, IsRun}
use Rattle.pipeline_balance.specs.Gate.{IsTickOf}
use Rattle.pipeline_balance.specs.Phase.{IsOnlySet}
use Rattle.signed_digit.specs.declared.term_list.Term.{Term}
use Rattle.stage_law.specs.Streams.{Streams}
use Rattle.fold_schedule.specs.Fold.{Fold}
use Rattle.fold_schedule.specs.Sums.{taken}
use Rattle.fir_pieces.specs.Listed.{unit_form}
use Rattle.fir_pieces.specs.Moment.{HoldsForms}
use Rattle.fir_pieces.proofs.UnitLemmas.{unit_form-sum}
use Rattle.folded_fir.specs.declared.cells.Slot.{Slot}
use Rattle.folded_fir.specs.Rounds.{Rounds, AreRounds, newest_of, copy_pace}
use Rattle.folded_fir.specs.Cells.{fold_table}
use Rattle.folded_fir.specs.Slots.{used_in, ListsSlots, AreCellsAt, AreSlotBits, distance_of}
use Rattle.folded_fir.specs.Accumulators.{GivesCells}
use Rattle.folded_fir.specs.Operands.{node_at, AddsOperand}
use Rattle.folded_fir.proofs.CellLemmas.{cells_used}
use Rattle.folded_fir.proofs.CopyLemmas.{copy_at}

-- ---- ticks

module _ (from : Stream) (o : Rounds) (some_round : 1 ≤ o.round) where
  -- the slot of a tick in its round
  pub tick_is : (n s t : ℕ) (x : Slot) → s < o.period → t ≡ from.offset + 2 + n * o.period + s → x.output < o.round → x.slot < o.period → IsTickOf (o.round * o.period) (from.offset + 2 + distance_of o.period x) t → (x.output ≡ n % o.round) × (x.slot ≡ s)
  tick_is n s t x small e below less tick =
      let a = tick.0 in
      let at : t ≡ from.offset + 2 + (x.output * o.period + x.slot) + a * (o.round * o.period) = tick.1 in
      let whole : n * o.period + s ≡ (a * o.round + x.output) * o.period + x.slot = omega (arith, e, at) in
      let same = same_from_place n s (a * o.round + x.output) x.slot o.period small less whole in
      (sym (ap (λ (k : ℕ). k % o.round) same.0 ∙ mod-mul-add a o.round x.output below), sym same.1)

  pub tick_at : (n s t : ℕ) → t ≡ from.offset + 2 + n * o.period + s → IsTickOf (o.round * o.period) (from.offset + 2 + distance_of o.period (record { output = n % o.round; slot = s })) t
  tick_at n s t e =
      let split : n / o.round * o.round + n % o.round ≡ n = div-add-mod' n o.round in
      let far : (n / o.round * o.round + n % o.round) * o.period ≡ n * o.period = ap (λ (k : ℕ). k * o.period) split in
      (n / o.round, omega (arith, e, far))

-- ---- bits

module _ {from : Stream} {cells : List Cell} {used : ℕ → ℕ} {slots : List Slot} {bits : List Node} (o : Rounds) (some_round : 1 ≤ o.round) (fit : (output : ℕ) → used output ≤ o.period) (listed : ListsSlots used o.round 0 slots) (are : AreSlotBits cells from o slots bits)
    (cut : Cut) (law : IsCut cut) (x : ℕ → ℤ) (values : Values) (run : IsRun cut cells x values) where
  slot_of : (k : ℕ) (bit : Node) → slice_get bits k ≡ Some bit → (y : Slot) × (slice_get slots k ≡ Some y)
  slot_of k bit at =
      let none : Slot = record { output = 0; slot = 0 } in
      let inside = slice_get_within bits k bit at in
      let many = are.many in
      (get_or slots k (record { output = 0; slot = 0 }), slice_get-get_or slots k (record { output = 0; slot = 0 }) (omega (arith, inside, many)))

  in_round : (k : ℕ) (y : Slot) → slice_get slots k ≡ Some y → (y.output < o.round) × (y.slot < o.period)
  in_round k y at =
      let b = listed.below k y at in
      let room = fit y.output in
      let less = b.0 in
      (elim b.1 [ inl low ↦ low | inr last ↦ absurd (omega (arith, last.1)) ], omega (arith, less, room))

  -- where no slot of the list is this one, no bit is set
  clear_at : (n s t k : ℕ) (bit : Node) → s < o.period → t ≡ from.offset + 2 + n * o.period + s → slice_get bits k ≡ Some bit → (slice_get slots k ≡ Some (record { output = n % o.round; slot = s }) → ⊥) → values t bit.place ≡ pos 0
  clear_at n s t k bit small e at other =
      let y = slot_of k bit at in
      let inside = in_round k y.0 y.1 in
      (are.each k y.0 bit y.1 at).clears cut law x values run t (λ tick.
      let same = tick_is from o some_round n s t y.0 small e inside.0 inside.1 tick in
      other (subst (λ (z : Slot). slice_get slots k ≡ Some z) (one_slot y.0 (n % o.round) s same.0 same.1) y.1))
    where
      one_slot : (y : Slot) (b c : ℕ) → y.output ≡ b → y.slot ≡ c → y ≡ record { output = b; slot = c }
      one_slot y b c p q = λ i. record { output = p i; slot = q i }

  pub only_set : (n s t k : ℕ) → s < o.period → t ≡ from.offset + 2 + n * o.period + s → slice_get slots k ≡ Some (record { output = n % o.round; slot = s }) → IsOnlySet values bits t k
  only_set n s t k small e there = record {
    sets = λ bit at. (are.each k (record { output = n % o.round; slot = s }) bit there at).sets cut law x values run t (tick_at from o some_round n s t e);
    clears = λ other bit apart at. clear_at n s t other bit small e at (λ same. apart (listed.apart other k (record { output = n % o.round; slot = s }) same there));
  }

  pub none_set : (n s t : ℕ) → s < o.period → t ≡ from.offset + 2 + n * o.period + s → used (n % o.round) ≤ s → (k : ℕ) (bit : Node) → slice_get bits k ≡ Some bit → values t bit.place ≡ pos 0
  none_set n s t small e past k bit at = clear_at n s t k bit small e at (λ same. absurd (let b = (listed.below k (record { output = n % o.round; slot = s }) same).0 in omega (arith, b, past)))

  pub none_before : (t : ℕ) → t < from.offset + 2 → (k : ℕ) (bit : Node) → slice_get bits k ≡ Some bit → values t bit.place ≡ pos 0
  none_before t early k bit at =
      let y = slot_of k bit at in
      (are.each k y.0 bit y.1 at).clears cut law x values run t (λ tick. let when = tick.1 in absurd (omega (arith, when, early)))

-- ---- what an operand gives

-- terms of the same values
taken_same : (f g : ℕ → ℤ) (p : Option Term) → ((t : Term) → p ≡ Some t → f t.index ≡ g t.index) → taken f p ≡ taken g p
taken_same f g None e = refl
taken_same f g (Some t) e = ap (λ (z : ℤ). pos (2 ^ t.place) *ℤ z) (e t refl)

pub operand_gives : {from : Stream} {old new : NetView} {fold : Fold} {slots : List Slot} {bits copies : List Node} {terms : List (Option Term)} {width adder : ℕ} {to : Node} (streams : Streams) (o : Rounds) (r : AreRounds from o) → 1 ≤ from.period → 1 ≤ fold.slots
    → ((output : ℕ) → used_in fold (output * o.down % o.up) ≤ o.period) → ListsSlots (λ output. used_in fold (output * o.down % o.up)) o.round 0 slots → AreSlotBits new.cells from o slots bits → AreCellsAt fold o.up o.down adder slots terms
    → ((k : ℕ) (t : Term) → slice_get terms k ≡ Some (Some t) → t.index / o.up < length copies)
    → ((age : ℕ) (copy : Node) → slice_get copies age ≡ Some copy → HoldsForms streams new.cells from (copy_pace from o) (λ φ. unit_form age) 0 copy)
    → AddsOperand old new bits copies o.up terms (length terms) width to → GivesCells streams new.cells from o (fold_table fold o) adder to
operand_gives {from} {old} {new} {fold} {slots} {bits} {copies} {terms} {width} {adder} {to} streams o r positive some fit listed are cells reads hold operand = record {
  early = λ cut law x values v is run carried t early. operand.rests cut law x values run t (λ k bit less at. none_before o r.some_round fit listed are cut law x values run t early k bit at);
  slots = λ cut law x values v is run carried n s t small e. elim (cases_lt s (used_in fold (n % o.round * o.down % o.up))) [
    | inl used ↦
        let low : n % o.round < o.round = mod_below n o.round r.some_round in
        let place = listed.all (n % o.round) s (inl low) used in
        let term = cells.each place.0 (record { output = n % o.round; slot = s }) place.1 in
        let inside = slice_get_within terms place.0 (fold_table fold o (n % o.round) adder s) term in
        let many : length bits ≡ length terms = are.many ∙ sym cells.many in
        let only = only_set o r.some_round fit listed are cut law x values run n s t place.0 small e place.1 in
        operand.alone cut law x values run t place.0 inside (omega (arith, inside, many)) only
        ∙ ap (taken (λ i. values t (node_at copies (i / o.up)).place)) (get_or_from_slice_get terms place.0 (fold_table fold o (n % o.round) adder s) None term)
        ∙ taken_same (λ i. values t (node_at copies (i / o.up)).place) (λ i. v (pos (newest_of o n) -ℤ pos (i / o.up))) (fold_table fold o (n % o.round) adder s)
        (λ u is_u.
        let there : slice_get terms place.0 ≡ Some (Some u) = term ∙ ap (λ (p : Option Term). Some p) is_u in
        let age = u.index / o.up in
        let near = reads place.0 u there in
        let copy = slice_get-get_or copies (u.index / o.up) (record { place = 0 }) near in
        copy_at o r positive streams (unit_form (u.index / o.up)) (hold (u.index / o.up) (node_at copies (u.index / o.up)) copy) cut law x values v is run carried n s t small e
        ∙ unit_form-sum (u.index / o.up) (λ i. v (pos (newest_of o n) -ℤ pos i)))
    | inr past ↦
        operand.rests cut law x values run t (λ k bit less at. none_set o r.some_round fit listed are cut law x values run n s t small e past k bit at)
        ∙ sym (ap (taken (λ i. v (pos (newest_of o n) -ℤ pos (i / o.up)))) (cells_used fold (n % o.round * o.down % o.up) adder s some past))
  ];
}
