-- Integrators, every so many values, and combs.
use Rattle.std.proofs.Common.{◌≡◌, ℕ, suc, ◌+◌, ◌-◌, ◌*◌, ◌≤◌, sym, ◌∙◌, ap, arith, ℤ, pos, negsuc, ◌-ℤ◌, ◌*ℤ◌, false}
use Rattle.std.proofs.Math.Path.{fun_ext}
use Rattle.std.proofs.lemmas.Int.{ints}
use Rattle.mr_values.specs.Sequence.{Sequence, down}
use Rattle.net_graph.specs.declared.cell.Node.{Node}
use Rattle.net_graph.specs.declared.cell.Stream.{Stream}
use Rattle.net_graph.specs.Cells.{NetView}
use Rattle.net_graph.specs.Cut.{Cut, IsCut}
use Rattle.net_graph.specs.Run.{Values, IsRun}
use Rattle.pipeline_balance.specs.Gate.{HasTaken}
use Rattle.cic_chain.specs.Cascade.{integrators, combs}
use Rattle.cic_chain.specs.Pieces.{AddsIntegrators, AddsCombs, AddsDecimator, sampled}
use Rattle.cic_chain.proofs.PieceLemmas.{IsPiece-then}
use Rattle.cic_chain.proofs.SampleLemmas.{cut_zero, integrators-causal, sampled-causal}

pub AddsDecimator-both : {old mid new : NetView} {last : Node} {to : Stream} (from : Stream) (width factor stages delay : ℕ) → 1 ≤ from.period → 1 ≤ width → 1 ≤ factor → 1 ≤ stages
    → AddsIntegrators old mid from width stages last → AddsCombs mid new (record { node = last; period = from.period * factor; offset = from.offset + (stages - 1) * from.period + 1 }) width stages delay to → AddsDecimator old new from width factor stages delay to
AddsDecimator-both {old} {mid} {new} {last} {to} from width factor stages delay positive wide factor_some some i p = record {
  piece = IsPiece-then i.piece p.piece;
  period = p.period;
  offset = p.offset ∙ omega arith;
  decimates = λ cut law inputs values run n.
      p.differs cut law inputs values run n ∙ ap (λ (y : Sequence). combs (cut false width) stages delay y n) (fun_ext (every cut law inputs values (p.piece.grows.extends.runs cut law inputs values run)));
}
  where
    every : (cut : Cut) → IsCut cut → (inputs : ℕ → ℤ) (values : Values) → IsRun cut mid.cells inputs values
        → (n : ℤ) → sampled values (record { node = last; period = from.period * factor; offset = from.offset + (stages - 1) * from.period + 1 }) n ≡ down factor (integrators (cut false width) stages (sampled values from)) n
    every cut law inputs values run (pos m) =
        let t : ℕ = from.offset + (stages - 1) * from.period + 1 + m * (from.period * factor) in
        let k : ℕ = stages - 1 + m * factor in
        let tick : t ≡ from.offset + k * from.period + 1 = omega arith in
        let taken : HasTaken from.period from.offset (suc k) t = rw tick (omega arith, omega arith) in
        let index : pos (suc k) -ℤ pos stages ≡ pos m *ℤ pos factor = omega (arith, ints) in
        i.holds.sums cut law inputs values run t (suc k) taken ∙ ap (integrators (cut false width) stages (sampled values from)) index
    every cut law inputs values run (negsuc m) =
        let index : negsuc m *ℤ pos factor ≡ negsuc (suc m * factor - 1) = omega (arith, ints) in
        sym (ap (integrators (cut false width) stages (sampled values from)) index ∙ integrators-causal (cut false width) (cut_zero cut law width wide) stages (sampled values from) (sampled-causal values from) (suc m * factor - 1))
