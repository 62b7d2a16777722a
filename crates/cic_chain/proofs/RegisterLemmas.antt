-- The registers of a cascade, and their width.
use Rattle.std.proofs.Common.{◌≡◌, ℕ, ◌+◌, ◌*◌, ◌/◌, ◌<◌, ◌≤◌, List, sym, ◌∙◌, ap, arith, inl, inr, subst, refl, ℤ, pos, ◌+ℤ◌, ◌*ℤ◌}
use Rattle.std.proofs.lemmas.Int.{ints}
use native.Mathlib.Nat.{div-add-mod'}
use Rattle.mr_values.specs.Sequence.{Sequence, up, filter, phase, cic_down, cic_up}
use Rattle.mr_values.proofs.Polyphase.{filter-up}
use Rattle.mr_values.specs.Width.{FitsWidth, IsLeastWidth}
use Rattle.mr_values.proofs.WidthLemmas.{FitsWidth-zero}
use Rattle.net_graph.specs.declared.cell.Cell.{Cell}
use Rattle.net_graph.specs.declared.cell.Node.{Node}
use Rattle.net_graph.specs.declared.name.NameKind.{NameKind}
use Rattle.net_graph.specs.declared.name.NameKind.TheVariants.{Control, Window, Copy, PreAdder, Register, Table, Output, Valid}
use Rattle.net_graph.specs.Cells.{NetView}
use Rattle.net_graph.specs.WellFormed.{IsFree}
use Rattle.pipeline_balance.specs.Numbered.{IsCounted, name_of}
use Rattle.stage_law.specs.Alike.{IsOutputWidth, HasRegister, HasRegistersOf, HasAlike}
use Rattle.stage_law.specs.Range.{IsRange, IsReached}
use Rattle.stage_law.specs.Realises.{IsUnused, IsFreeIn}
use Rattle.stage_law.specs.Streams.{Streams}
use Rattle.stage_law.specs.declared.ranges.Range.{Range}
use Rattle.cic_chain.specs.Phases.{every, IsPhaseRange}
use Rattle.cic_chain.specs.Pieces.{IsPiece}
use Rattle.running_sums.specs.Weights.{cic_weights}
use Rattle.cic_chain.proofs.RealisesLemmas.{down_value, down_fits, up_fits}
use Rattle.cic_chain.proofs.WeightLemmas.{filter-sums}

free_of : (cells : List Cell) (group : ℕ) (kind : NameKind) (number : ℕ) → (kind ≡ Control → ⊥) → IsFreeIn cells group kind number → IsFree cells (name_of group kind number)
free_of cells group Control number own f = absurd (own refl)
free_of cells group Window number own f = f
free_of cells group Copy number own f = f
free_of cells group PreAdder number own f = f
free_of cells group Register number own f = f
free_of cells group Table number own f = f
free_of cells group Output number own f = f
free_of cells group Valid number own f = f

none_yet : {old : NetView} → IsUnused old.cells old.group → IsCounted old.cells old.group Register 0
none_yet unused = record { used = λ number less. absurd (omega arith); free = λ number more. unused.free Register number }

pub HasRegistersOf-piece : {old new : NetView} {from to : Node} {width registers adders : ℕ} → IsUnused old.cells old.group → IsPiece old new from to width registers adders → HasRegistersOf new.cells old.group registers width
HasRegistersOf-piece {old} {new} {from} {to} {width} {registers} unused p = record {
  counted = let same : 0 + registers ≡ registers = omega arith in subst (λ (n : ℕ). IsCounted new.cells old.group Register n) same (p.counted 0 (none_yet unused));
  each = λ number less. let same : 0 + number ≡ number = omega arith in subst (λ (n : ℕ). HasRegister new.cells old.group n width) same (p.wide 0 (none_yet unused) number less);
  only = λ kind number other own_kind. p.names.free (name_of old.group kind number) (λ h. elim h [
    | inl own ↦ other own.1
    | inr control ↦ own_kind control
  ]) (free_of old.cells old.group kind number own_kind (unused.free kind number));
}

module _ (streams : Streams) (factor stages delay : ℕ) where
  pub down_width : (range : Range) (width : ℕ) → 1 ≤ factor → IsRange streams (cic_weights stages (factor * delay)) (record { modulus = factor; residue = 0 }) range → IsLeastWidth range.lo range.hi width → IsOutputWidth streams (cic_down factor stages delay) width
  down_width range width some r w = record {
    holds = λ v is n. down_fits streams factor stages delay range width r w v is n;
    least = λ fewer positive fits. w.least fewer positive (end range.lo r.low_reached fewer fits) (end range.hi r.high_reached fewer fits);
  }
    where
      end : (z : ℤ) → IsReached streams (cic_weights stages (factor * delay)) (record { modulus = factor; residue = 0 }) z → (fewer : ℕ) → ((v : Sequence) → streams v → (n : ℕ) → FitsWidth fewer (cic_down factor stages delay v (pos n))) → FitsWidth fewer z
      end z a fewer fits =
          let n = a.index / factor in
          let in_class = a.in_class in
          let index : n * factor ≡ a.index = omega (arith, div-add-mod' a.index factor, in_class) in
          subst (FitsWidth fewer) (down_value streams factor stages delay a.stream n ∙ ap (λ (k : ℕ). filter (cic_weights stages (factor * delay)) a.stream (pos k)) index ∙ a.is) (fits a.stream a.is_one n)

  up_at : (v : Sequence) (k r : ℕ) → r < factor → cic_up factor stages delay v (pos (k * factor + r)) ≡ filter (phase factor r (cic_weights stages (factor * delay))) v (pos k)
  up_at v k r h =
      let w : List ℤ = cic_weights stages (factor * delay) in
      let split : pos (k * factor + r) ≡ pos k *ℤ pos factor +ℤ pos r = omega (arith, ints) in
      sym (filter-sums stages (factor * delay) (up factor v) (pos (k * factor + r))) ∙ ap (filter w (up factor v)) split ∙ filter-up w factor v (pos k) r h

  pub up_width : (range : Range) (width : ℕ) → 1 ≤ factor → IsPhaseRange streams (cic_weights stages (factor * delay)) factor factor range → IsLeastWidth range.lo range.hi width → IsOutputWidth streams (cic_up factor stages delay) width
  up_width range width some r w = record {
    holds = λ v is n. up_fits streams factor stages delay range width some r w v is n;
    least = λ fewer positive fits. w.least fewer positive
        (elim r.low_reached [
          | inl none ↦ subst (FitsWidth fewer) (sym none) (FitsWidth-zero fewer)
          | inr one ↦ subst (FitsWidth fewer) one.4 (end one.0 one.1 one.2.lo one.3.is_range.low_reached fewer fits)
        ])
        (elim r.high_reached [
          | inl none ↦ subst (FitsWidth fewer) (sym none) (FitsWidth-zero fewer)
          | inr one ↦ subst (FitsWidth fewer) one.4 (end one.0 one.1 one.2.hi one.3.is_range.high_reached fewer fits)
        ]);
  }
    where
      end : (r : ℕ) → r < factor → (z : ℤ) → IsReached streams (phase factor r (cic_weights stages (factor * delay))) every z → (fewer : ℕ) → ((v : Sequence) → streams v → (n : ℕ) → FitsWidth fewer (cic_up factor stages delay v (pos n))) → FitsWidth fewer z
      end r inside z a fewer fits = subst (FitsWidth fewer) (up_at a.stream a.index r inside ∙ a.is) (fits a.stream a.is_one (a.index * factor + r))

pub HasAlike-piece : {streams : Streams} {made : Sequence → Sequence} {old new : NetView} {from to : Node} {width registers adders : ℕ} → IsUnused old.cells old.group → IsPiece old new from to width registers adders → IsOutputWidth streams made width → HasAlike streams made new.cells old.group registers
HasAlike-piece {width = width} unused p w = record { width = width; least = w; registers = HasRegistersOf-piece unused p }
