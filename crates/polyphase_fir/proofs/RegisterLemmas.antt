-- The registers of the phases' trees, one tree after another.
use Rattle.std.proofs.Common.{◌≡◌, ℕ, ◌+◌, ◌-◌, ◌<◌, ◌≤◌, List, [], ◌++◌, length, length-append, refl, sym, ◌∙◌, arith, inl, inr, subst, Some, slice_get, All}
use Rattle.std.proofs.lemmas.Bool.{cases_lt}
use Rattle.net_graph.specs.declared.cell.Node.{Node}
use Rattle.net_graph.specs.declared.cell.Stream.{Stream}
use Rattle.net_graph.specs.declared.name.NameKind.TheVariants.{Register}
use Rattle.net_graph.specs.Cells.{NetView}
use Rattle.signed_digit.specs.declared.term_list.Term.{Term}
use Rattle.pipeline_balance.specs.Numbered.{IsCounted, name_of}
use Rattle.stage_law.specs.Registers.{HeldSum}
use Rattle.stage_law.specs.Streams.{Streams, AreCausal}
use Rattle.fir_pieces.specs.declared.held.Held.{Held}
use Rattle.fir_pieces.specs.declared.reading.Reading.{Reading}
use Rattle.fir_pieces.specs.Listed.{tree_sums}
use Rattle.fir_pieces.specs.Peaks.{IsDue}
use Rattle.fir_pieces.specs.Reading.{ReadsWithin}
use Rattle.fir_pieces.specs.Sums.{AreShown, AddsTree}
use Rattle.fir_pieces.proofs.DueLemmas.{IsDue-later, IsDue-soon, tree_due, tree_many}
use Rattle.fir_pieces.proofs.ListLemmas.{slice_get-append_first, slice_get_past}
use Rattle.polyphase_fir.specs.Roots.{AddsRegisters}

pub AddsRegisters-none : (streams : Streams) (net : NetView) (from : Stream) (depth levels : ℕ) → AddsRegisters streams net net from depth levels [] []
AddsRegisters-none streams net from depth levels = record {
  many = refl;
  counted = λ count c. let same : count ≡ count + 0 = omega arith in subst (λ (n : ℕ). IsCounted net.cells net.group Register n) same c;
  each = λ count k s node c is. absurd (cc);
}

pub AddsRegisters-push : {old mid new : NetView} {from : Stream} {nodes before : List Node} {readings : List Reading} {held : List Held} {registers : List Node} {root : Node} {depth levels : ℕ} {sums : List HeldSum} {terms : List Term} (streams : Streams) → AreCausal streams → 1 ≤ from.period → AreShown streams mid.cells from readings 0 nodes
    → All (λ (u : Term). u.index < length readings) terms → All (ReadsWithin depth) readings → mid.group ≡ old.group → AddsRegisters streams old mid from depth levels sums before → AddsTree streams mid new nodes readings 0 terms levels held registers root
    → AddsRegisters streams old new from depth levels (sums ++ tree_sums readings 0 terms levels) (before ++ registers)
AddsRegisters-push {old} {mid} {new} {from} {nodes} {before} {readings} {held} {registers} {root} {depth} {levels} {sums} {terms} streams causal positive shown places reads same p t =
    let more = tree_sums readings 0 terms levels in
    let first = p.many in
    let own = tree_many streams causal positive shown places t in
    let whole = length-append sums more in
    record {
      many = let all = length-append before registers in omega (arith, first, own, whole, all);
      counted = λ count c.
          let next : count + length sums + length registers ≡ count + length (sums ++ more) = omega (arith, own, whole) in
          subst (λ (n : ℕ). IsCounted new.cells old.group Register n) next
          (subst (λ (g : ℕ). IsCounted new.cells g Register (count + length sums + length registers)) same (t.tree.counted (count + length sums) (subst (λ (g : ℕ). IsCounted mid.cells g Register (count + length sums)) (sym same) (p.counted count c))));
      each = λ count k s node c is there. elim (cases_lt k (length sums)) [
        | inl less ↦
            let less' : k < length before = omega (arith, first) in
            IsDue-later t.tree.grows.extends (p.each count k s node c (sym (slice_get-append_first sums more k less) ∙ is) (sym (slice_get-append_first before registers k less') ∙ there))
        | inr later ↦
            let n = k - length sums in
            let at : count + length sums + n ≡ count + k = omega arith in
            let here : slice_get registers n ≡ Some node = subst (λ (m : ℕ). slice_get registers (k - m) ≡ Some node) first (slice_get_past before registers k node (omega (arith, first)) there) in
            let due = IsDue-soon {more = levels} (omega arith) (tree_due streams causal positive shown places t depth reads (count + length sums) n s node (subst (λ (g : ℕ). IsCounted mid.cells g Register (count + length sums)) (sym same) (p.counted count c)) (slice_get_past sums more k s later is) here) in
            subst (λ (m : ℕ). IsDue streams new.cells from depth levels old.group (name_of old.group Register m) s node) at
            (subst (λ (g : ℕ). IsDue streams new.cells from depth levels g (name_of g Register (count + length sums + n)) s node) same due)
      ];
    }
