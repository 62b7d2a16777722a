-- One form at every index is the case of one phase.
use Rattle.std.proofs.Common.{◌≡◌, ℕ, zero, suc, ◌+◌, ◌≤◌, List, [], ◌∷◌, max, refl, ◌∙◌, ap, arith, subst, ℤ, pos, ◌-ℤ◌}
use Rattle.mr_values.specs.Sequence.{weighted_sum}
use Rattle.net_graph.specs.declared.cell.Cell.{Cell}
use Rattle.net_graph.specs.declared.cell.Node.{Node}
use Rattle.net_graph.specs.declared.cell.Stream.{Stream}
use Rattle.mr_values.specs.Width.{IsLeastWidth}
use Rattle.stage_law.specs.Range.{IsRange}
use Rattle.stage_law.specs.Registers.{HeldSum}
use Rattle.stage_law.specs.Streams.{Streams}
use Rattle.stage_law.specs.declared.ranges.Range.{Range}
use Rattle.fir_pieces.specs.PhaseSums.{sums_in_phases, last_first, IsFormsWidth}
use Rattle.fir_pieces.proofs.PhaseDueLemmas.{last_first-order}
use Rattle.fir_pieces.proofs.PhaseWidthLemmas.{IsSumsWidth-none, IsSumsWidth-more}
use Rattle.fir_pieces.specs.Moment.{Forms, HoldsForms}
use Rattle.fir_pieces.specs.Split.{moment_after, taken_before, split_pace}
use Rattle.fir_pieces.specs.Peaks.{HoldsForm}
use Rattle.fir_pieces.specs.Listed.{every}
use Rattle.fir_pieces.proofs.MomentLemmas.{has_taken, same_sum, HoldsForm-late}

-- one form at the pace of any modulus
pub HoldsForm-forms : {cells : List Cell} {from : Stream} {form : List ℤ} {ticks : ℕ} {node : Node} (streams : Streams) (modulus : ℕ) → 1 ≤ from.period → HoldsForm streams cells from form ticks node → HoldsForms streams cells from (split_pace from modulus) (λ φ. form) ticks node
HoldsForm-forms {cells} {from} {form} {ticks} {node} streams modulus positive h = record {
  early = h.early;
  late = λ cut law x values v is run carried s.
      let count = taken_before from.period from.offset s in
      HoldsForm-late streams cells from form ticks node positive h cut law x values v is run carried s count (has_taken from.period from.offset s positive) ∙ same_sum modulus count form v;
}

-- forms of one phase are one form
pub HoldsForms-one : {cells : List Cell} {from : Stream} {forms : Forms} {ticks : ℕ} {node : Node} (streams : Streams) → HoldsForms streams cells from (split_pace from 1) forms ticks node → HoldsForm streams cells from (forms 0) ticks node
HoldsForms-one {cells} {from} {forms} {ticks} {node} streams h = record {
  early = h.early;
  late = λ cut law x values v is run carried s.
      h.late cut law x values v is run carried s ∙ ap (λ (φ : ℕ). let m = (split_pace from 1).at s in weighted_sum (forms φ) (λ i. v (m.newest -ℤ pos i))) (alone (taken_before from.period from.offset s));
}
  where
    alone : (count : ℕ) → (moment_after 1 count).phase ≡ 0
    alone zero = refl
    alone (suc k) = omega arith

-- ---- its sums and widths

-- of one phase there is one sum, at every index
pub one_sum : (from : Stream) (forms : Forms) (ticks : ℕ) → sums_in_phases (split_pace from 1) forms ticks (last_first 1) ≡ record { form = forms 0; class = every; lag = suc ticks } ∷ []
one_sum from forms ticks = let lag : 1 + ticks ≡ suc ticks = omega arith in ap (λ (n : ℕ). let s : HeldSum = record { form = forms 0; class = every; lag = n } in s ∷ []) lag

-- whose least width is that of its range
pub one_width : (streams : Streams) (from : Stream) (forms : Forms) (ticks width : ℕ) (range : Range) → IsRange streams (forms 0) every range → IsLeastWidth range.lo range.hi width → IsFormsWidth streams (split_pace from 1) forms ticks (last_first 1) width
one_width streams from forms ticks width range is_range least =
    let more : max width 1 ≡ width = let some = least.positive in omega (arith, some) in
    subst (λ (n : ℕ). IsFormsWidth streams (split_pace from 1) forms ticks (last_first 1) n) more
    (record {
      in_order = last_first-order 1;
      wide = IsSumsWidth-more streams [] 1 (IsSumsWidth-none streams) (record { form = forms 0; class = every; lag = 1 + ticks }) range width is_range least;
    })
