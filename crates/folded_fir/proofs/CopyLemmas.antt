-- Copies of a window, taken once for each output, hold its forms at their pace.
use Rattle.std.proofs.Common.{◌≡◌, ℕ, zero, suc, ◌+◌, ◌-◌, ◌*◌, ◌/◌, ◌%◌, ◌<◌, ◌≤◌, List, sym, ◌∙◌, ap, arith, subst, ℤ, pos, negsuc, ◌-ℤ◌, ◌<ℤ◌}
use Rattle.std.proofs.Math.Nat.{mod-add-div'}
use Rattle.mr_values.specs.Sequence.{Sequence, weighted_sum}
use Rattle.mr_values.specs.Width.{FitsWidth}
use Rattle.net_graph.specs.Cut.{Cut, IsCut}
use Rattle.net_graph.specs.Run.{Values, IsRun}
use Rattle.net_graph.specs.declared.cell.Cell.{Cell}
use Rattle.net_graph.specs.declared.cell.Node.{Node}
use Rattle.net_graph.specs.declared.cell.Stream.{Stream}
use Rattle.pipeline_balance.specs.Gate.{Carries, HasTaken, Holds, taken_value}
use Rattle.stage_law.specs.Streams.{Streams, AreCausal}
use Rattle.fir_pieces.specs.Moment.{Moment, Pace, Forms, sum_at, HoldsForms}
use Rattle.fir_pieces.specs.Split.{moment_after, taken_before, split_pace}
use Rattle.fir_pieces.specs.PhaseSums.{IsFormsWidth}
use Rattle.fir_pieces.proofs.GiveLemmas.{nothing_before, sum_fits}
use Rattle.fir_pieces.proofs.MomentLemmas.{taken_is, has_taken}
use Rattle.folded_fir.specs.Rounds.{Rounds, AreRounds, moment_in, fold_pace, copy_pace, whole_outputs}
use Rattle.folded_fir.proofs.RoundLemmas.{some_period, newest_at, output_time, rest_short, late_moment, early_moment, fold_is_pace, whole_rounds}

-- ---- a register that takes a node's value at ticks of its own

-- it holds at its pace what the node had when it was taken
pub HoldsForms-taken : {cells : List Cell} {from : Stream} {next : Pace} {more : Forms} {node to : Node} (streams : Streams) → AreCausal streams → (period first : ℕ) → 1 ≤ period → Holds cells (record { node = node; period = period; offset = first }) 0 to
    → ((t : ℕ) → t ≤ first → (next.at t).newest <ℤ pos 0)
    → ((cut : Cut) → IsCut cut → (x : ℕ → ℤ) (values : Values) (v : Sequence) → streams v → IsRun cut cells x values → Carries values from v → (n t : ℕ) → HasTaken period first (suc n) t → values (first + n * period) node.place ≡ sum_at more (next.at t) v)
    → HoldsForms streams cells from next more 0 to
HoldsForms-taken {cells} {from} {next} {more} {node} {to} streams causal period first positive g before same = record {
  early = λ cut law x values v is run carried t less. absurd (omega arith);
  late = λ cut law x values v is run carried s.
      let tick : s + 0 ≡ s = omega arith in
      let count = taken_before period first s in
      let now = has_taken period first s positive in
      ap (λ (u : ℕ). values u to.place) tick ∙ g.holds cut law x values run s count now
      ∙ by_count s v (λ k. values (first + k * period) node.place) (λ k. causal.each v is k) (same cut law x values v is run carried) count now;
}
  where
    by_count : (s : ℕ) (v : Sequence) (f : ℕ → ℤ) → ((k : ℕ) → v (negsuc k) ≡ pos 0) → ((n t : ℕ) → HasTaken period first (suc n) t → f n ≡ sum_at more (next.at t) v) → (count : ℕ) → HasTaken period first count s → taken_value f count 0 ≡ sum_at more (next.at s) v
    by_count s v f none e zero now = sym (nothing_before (more (next.at s).phase) v (next.at s).newest none (before s now))
    by_count s v f none e (suc n) now = e n s now

-- ---- outputs

module _ {from : Stream} (o : Rounds) (r : AreRounds from o) (positive : 1 ≤ from.period) where
  -- what one window register holds where an output's values are taken
  window_at : (form : List ℤ) (v : Sequence) (n : ℕ) → sum_at (λ φ. form) ((split_pace from 1).at (from.offset + 1 + n * o.period)) v ≡ weighted_sum form (λ i. v (pos (n * o.down / o.up) -ℤ pos i))
  window_at form v n =
      let a = n / o.round in
      let b = n % o.round in
      let split : n ≡ a * o.round + b = let whole = mod-add-div' n o.round in omega (arith, whole) in
      let k = a * o.step + b * o.down / o.up in
      let time : n * o.period ≡ k * from.period + b * o.down % o.up * from.period / o.up = ap (λ (m : ℕ). m * o.period) split ∙ output_time o r positive a b in
      let short = rest_short o r positive b in
      let u = from.offset + 1 + n * o.period in
      let due : HasTaken from.period from.offset (suc k) u = (omega (arith, time), omega (arith, time, short)) in
      let newest : n * o.down / o.up ≡ k = ap (λ (m : ℕ). m * o.down / o.up) split ∙ newest_at o r positive a b in
      ap (λ (c : ℕ). sum_at (λ φ. form) (moment_after 1 c) v) (taken_is from.period from.offset (suc k) u positive due) ∙ ap (λ (m : ℕ). weighted_sum form (λ i. v (pos m -ℤ pos i))) (sym newest)

  -- and what a copy is to hold from the next tick on
  pub copied_at : (form : List ℤ) (v : Sequence) (n t : ℕ) → HasTaken o.period (from.offset + 1) (suc n) t → sum_at (λ φ. form) ((fold_pace from o 1).at t) v ≡ weighted_sum form (λ i. v (pos (n * o.down / o.up) -ℤ pos i))
  copied_at form v n t now = ap (λ (c : ℕ). sum_at (λ φ. form) (moment_in o c (t - suc (from.offset + 1 + (c - 1) * o.period))) v) (taken_is o.period (from.offset + 1) (suc n) t (some_period o r positive) now)

  -- the window's register at the tick where it is copied
  pub window_value : {cells : List Cell} {window : Node} (streams : Streams) (form : List ℤ) → HoldsForms streams cells from (split_pace from 1) (λ φ. form) 0 window
      → (cut : Cut) → IsCut cut → (x : ℕ → ℤ) (values : Values) (v : Sequence) → streams v → IsRun cut cells x values → Carries values from v
      → (n t : ℕ) → HasTaken o.period (from.offset + 1) (suc n) t → values (from.offset + 1 + n * o.period) window.place ≡ sum_at (λ φ. form) ((fold_pace from o 1).at t) v
  window_value {cells} {window} streams form h cut law x values v is run carried n t now =
      let tick : from.offset + 1 + n * o.period ≡ from.offset + 1 + n * o.period + 0 = omega arith in
      ap (λ (u : ℕ). values u window.place) tick ∙ h.late cut law x values v is run carried (from.offset + 1 + n * o.period) ∙ window_at form v n ∙ sym (copied_at form v n t now)

  -- A copy, taken where a bit is set a tick after each output's time, holds what the window's register held then, also where it is as
  -- narrow as the values in its classes allow and the window is wider.
  pub copy_holds : {cells : List Cell} {window narrow copy : Node} (streams : Streams) → AreCausal streams → (form : List ℤ) → HoldsForms streams cells from (split_pace from 1) (λ φ. form) 0 window
      → (lag : ℕ) (order : List ℕ) (width : ℕ) → IsFormsWidth streams (fold_pace from o 1) (λ φ. form) lag order width
      → ((cut : Cut) → IsCut cut → (x : ℕ → ℤ) (values : Values) → IsRun cut cells x values → (t : ℕ) → FitsWidth width (values t window.place) → values t narrow.place ≡ values t window.place)
      → Holds cells (record { node = narrow; period = o.period; offset = from.offset + 1 }) 0 copy → HoldsForms streams cells from (fold_pace from o 1) (λ φ. form) 0 copy
  copy_holds {cells} {window} streams causal form h lag order width w keeps g = HoldsForms-taken streams causal o.period (from.offset + 1) (some_period o r positive) g
      (λ t early. early_moment o r positive 1 t early)
      (λ cut law x values v is run carried n t now.
      let same = window_value streams form h cut law x values v is run carried n t now in
      let fits = sum_fits streams causal from (fold_pace from o 1) (fold_is_pace o r positive 1) (λ φ. form) lag order width w v is t in
      keeps cut law x values run (from.offset + 1 + n * o.period) (subst (FitsWidth width) (sym same) fits) ∙ same)

  -- the value of a copy at each tick of an output
  pub copy_at : {cells : List Cell} {copy : Node} (streams : Streams) (form : List ℤ) → HoldsForms streams cells from (copy_pace from o) (λ φ. form) 0 copy
      → (cut : Cut) → IsCut cut → (x : ℕ → ℤ) (values : Values) (v : Sequence) → streams v → IsRun cut cells x values → Carries values from v
      → (n s t : ℕ) → s < o.period → t ≡ from.offset + 2 + n * o.period + s → values t copy.place ≡ weighted_sum form (λ i. v (pos (n * o.down / o.up) -ℤ pos i))
  copy_at {cells} {copy} streams form h cut law x values v is run carried n s t small e =
      let tick : t ≡ t + 0 = omega arith in
      ap (λ (u : ℕ). values u copy.place) tick ∙ h.late cut law x values v is run carried t ∙ ap (λ (m : Moment). sum_at (λ φ. form) m v) (late_moment (whole_outputs o) (whole_rounds o r positive) positive 1 n s t small e)

  -- and before the first output
  pub copy_before : {cells : List Cell} {copy : Node} (streams : Streams) → AreCausal streams → (form : List ℤ) → HoldsForms streams cells from (copy_pace from o) (λ φ. form) 0 copy
      → (cut : Cut) → IsCut cut → (x : ℕ → ℤ) (values : Values) (v : Sequence) → streams v → IsRun cut cells x values → Carries values from v → (t : ℕ) → t < from.offset + 2 → values t copy.place ≡ pos 0
  copy_before {cells} {copy} streams causal form h cut law x values v is run carried t early =
      let tick : t ≡ t + 0 = omega arith in
      ap (λ (u : ℕ). values u copy.place) tick ∙ h.late cut law x values v is run carried t
      ∙ nothing_before form v ((copy_pace from o).at t).newest (λ n. causal.each v is n) (early_moment (whole_outputs o) (whole_rounds o r positive) positive 1 t (omega arith))
