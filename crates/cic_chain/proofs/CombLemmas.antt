-- Combs in a row, and the registers of each.
use Rattle.std.proofs.Common.{◌≡◌, ℕ, suc, ◌+◌, ◌<◌, ◌≤◌, ◌≢◌, ◌⊎◌, inl, inr, List, length, set, refl, sym, ◌∙◌, ap, arith, subst, ℤ, pos, ◌-ℤ◌, false}
use Rattle.std.proofs.Math.Path.{fun_ext}
use Rattle.std.proofs.lemmas.Bool.{cases_lt}
use Rattle.std.proofs.lemmas.List.{get_or-set_same, get_or-set_other}
use Rattle.mr_values.specs.Sequence.{Sequence}
use Rattle.net_graph.specs.declared.cell.Cell.{Cell}
use Rattle.net_graph.specs.declared.cell.Stream.{Stream}
use Rattle.net_graph.specs.Cells.{NetView}
use Rattle.net_graph.specs.Cut.{Cut, IsCut}
use Rattle.net_graph.specs.Grow.{Extends}
use Rattle.net_graph.specs.Run.{Values, IsRun}
use Rattle.pipeline_balance.specs.Gate.{HasTaken}
use Rattle.cic_chain.specs.declared.cascades.Comb.{Comb}
use Rattle.cic_chain.specs.Cascade.{earlier, comb, combs}
use Rattle.cic_chain.specs.Pieces.{AddsComb, AddsCombs, AddsCombRow, HoldsComb, comb_at, sampled, after_ticks}
use Rattle.cic_chain.proofs.PieceLemmas.{IsPiece-none, IsPiece-then, IsPiece-counts}

pub AddsCombs-none : (net : NetView) (from : Stream) (width delay : ℕ) → from.node.place < length net.cells → AddsCombs net net from width 0 delay from
AddsCombs-none net from width delay inside = record {
  piece = IsPiece-counts (omega arith) refl (IsPiece-none net from.node width inside);
  period = refl;
  offset = omega arith;
  differs = λ cut law inputs values run n. refl;
}

pub AddsCombs-more : {old mid new : NetView} {last : Stream} {count : ℕ} (from : Stream) (width delay : ℕ) {one : Comb delay} → AddsCombs old mid from width count delay last → AddsComb mid new last width delay one
    → AddsCombs old new from width (count + 1) delay (after_ticks last 1 one.difference)
AddsCombs-more {old} {mid} {new} {last} {count} from width delay {one} p a = record {
  piece = IsPiece-counts (omega arith) refl (IsPiece-then p.piece a.piece);
  period = p.period;
  offset = ap (λ (k : ℕ). k + 1) p.offset ∙ omega arith;
  differs = λ cut law inputs values run n.
      let before : sampled values last ≡ combs (cut false width) count delay (sampled values from) = fun_ext (p.differs cut law inputs values (a.piece.grows.extends.runs cut law inputs values run)) in
      let next : suc count ≡ count + 1 = omega arith in
      a.differs cut law inputs values run n ∙ ap (λ (y : Sequence). comb (cut false width) delay y n) before
      ∙ ap (λ (k : ℕ). combs (cut false width) k delay (sampled values from) n) next;
}

-- the new comb holds its values of those that the combs before it make
HoldsComb-last : {old mid new : NetView} {last : Stream} {count : ℕ} (from : Stream) (width delay : ℕ) {one : Comb delay} → AddsCombs old mid from width count delay last → AddsComb mid new last width delay one → HoldsComb new.cells from width count delay one
HoldsComb-last {old} {mid} {new} {last} {count} from width delay {one} p a = record {
  delays = λ age less cut law inputs values run t taken h.
      (a.delays age less).earlier_value cut law inputs values run t taken (ticks t taken h) ∙ ap (λ (y : Sequence). earlier (cut false width) (suc age) y (pos taken)) (before cut law inputs values run);
  difference = λ cut law inputs values run t taken h.
      a.holds cut law inputs values run t taken (ticks t taken h) ∙ ap (λ (y : Sequence). comb (cut false width) delay y (pos taken -ℤ pos 1)) (before cut law inputs values run);
}
  where
    ticks : (t taken : ℕ) → HasTaken from.period (from.offset + count) taken t → HasTaken last.period last.offset taken t
    ticks t taken h = subst (λ (k : ℕ). HasTaken k last.offset taken t) (sym p.period) (subst (λ (k : ℕ). HasTaken from.period k taken t) (sym p.offset) h)

    before : (cut : Cut) → IsCut cut → (inputs : ℕ → ℤ) (values : Values) → IsRun cut new.cells inputs values → sampled values last ≡ combs (cut false width) count delay (sampled values from)
    before cut law inputs values run = fun_ext (p.differs cut law inputs values (a.piece.grows.extends.runs cut law inputs values run))

HoldsComb-later : {old new : List Cell} {from : Stream} {width stage delay : ℕ} {one : Comb delay} → Extends old new → HoldsComb old from width stage delay one → HoldsComb new from width stage delay one
HoldsComb-later e h = record {
  delays = λ age less cut law inputs values run. h.delays age less cut law inputs values (e.runs cut law inputs values run);
  difference = λ cut law inputs values run. h.difference cut law inputs values (e.runs cut law inputs values run);
}

-- ---- the registers of a row

pub AddsCombRow-none : (net : NetView) (from : Stream) (width delay : ℕ) (each : List (Comb delay)) → from.node.place < length net.cells → AddsCombRow net net from width 0 delay each from
AddsCombRow-none net from width delay each inside = record { row = AddsCombs-none net from width delay inside; holds = λ stage less. absurd (omega arith) }

pub AddsCombRow-more : {old mid new : NetView} {from last : Stream} {width delay count : ℕ} {each : List (Comb delay)} {one : Comb delay} → count < length each → AddsCombRow old mid from width count delay each last → AddsComb mid new last width delay one
    → AddsCombRow old new from width (count + 1) delay (set each count one) (after_ticks last 1 one.difference)
AddsCombRow-more {old} {mid} {new} {from} {last} {width} {delay} {count} {each} {one} room p a = record { row = AddsCombs-more from width delay p.row a; holds = λ stage less. at stage less (cases_lt stage count) }
  where
    here : comb_at (set each count one) count ≡ one
    here = get_or-set_same each count one _ room

    at : (stage : ℕ) → stage < count + 1 → (stage < count) ⊎ (count ≤ stage) → HoldsComb new.cells from width stage delay (comb_at (set each count one) stage)
    at stage less (inl early) =
        let other : stage ≢ count = λ same. absurd (omega (arith, same, early)) in
        subst (HoldsComb new.cells from width stage delay) (sym (get_or-set_other each count stage one _ other)) (HoldsComb-later a.piece.grows.extends (p.holds stage early))
    at stage less (inr last_one) =
        let same : count ≡ stage = omega arith in
        subst (λ (k : ℕ). HoldsComb new.cells from width k delay (comb_at (set each count one) k)) same
        (subst (HoldsComb new.cells from width count delay) (sym here) (HoldsComb-last from width delay p.row a))
