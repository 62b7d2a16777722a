-- The trees of the phases, one after another.
use Rattle.std.proofs.Common.{◌≡◌, ℕ, suc, ◌+◌, ◌<◌, ◌≤◌, List, [], ◌∷◌, ◌++◌, length, length-append, map, refl, sym, ◌∙◌, ap, arith, subst, inl, inr, ℤ, pos, ◌-ℤ◌, All}
use Rattle.std.proofs.lemmas.Int.{ints}
use Rattle.mr_values.specs.Sequence.{phase}
use Rattle.mr_values.proofs.Polyphase.{weighted_sum-same}
use Rattle.net_graph.specs.declared.cell.Cell.{Cell}
use Rattle.net_graph.specs.declared.cell.Node.{Node}
use Rattle.net_graph.specs.declared.cell.Stream.{Stream}
use Rattle.net_graph.specs.declared.name.NameKind.TheVariants.{Register}
use Rattle.net_graph.specs.Cells.{NetView}
use Rattle.net_graph.specs.Count.{adders_in}
use Rattle.net_graph.specs.Grow.{Extends}
use Rattle.net_graph.proofs.Lists.{slice_get_push_cases}
use Rattle.net_graph.proofs.GrowLemmas.{Grows-refl, Grows-trans}
use Rattle.signed_digit.specs.declared.term_list.Term.{Term}
use Rattle.signed_digit.specs.Terms.{terms_of}
use Rattle.pipeline_balance.specs.Numbered.{IsTouched}
use Rattle.pipeline_balance.proofs.CostLemmas.{SameNamed-refl, SameNamed-trans}
use Rattle.pipeline_balance.specs.Shallow.{ArePlain}
use Rattle.pipeline_balance.proofs.ShallowLemmas.{ArePlain-later}
use Rattle.pipeline_balance.proofs.ShapeLemmas.{KeepsShapes-refl, KeepsShapes-trans}
use Rattle.stage_law.specs.Streams.{Streams, AreCausal}
use Rattle.net_graph.specs.Depth.{IsShallow}
use Rattle.pipeline_balance.specs.Tree.{tree_adders}
use Rattle.pipeline_balance.proofs.NumberedLemmas.{LeavesFree-refl, LeavesFree-trans}
use Rattle.fir_pieces.specs.declared.held.Held.{Held}
use Rattle.fir_pieces.specs.Cutting.{IsCutWindow}
use Rattle.fir_pieces.specs.Placed.{leaf_of, term_adders}
use Rattle.fir_pieces.specs.Reading.{ages}
use Rattle.fir_pieces.specs.Sums.{AddsTree}
use Rattle.fir_pieces.proofs.AgeLemmas.{term_sum-ages, window_shown}
use Rattle.fir_pieces.proofs.DueLemmas.{tree_root}
use Rattle.fir_pieces.proofs.TreeLemmas.{tree_adders-terms, plain_leaves}
use Rattle.polyphase_fir.specs.Facts.{adders_below, depth_of}
use Rattle.polyphase_fir.specs.Placed.{placed_terms}
use Rattle.polyphase_fir.specs.Roots.{IsRoot, AddsRoots, SumsWindow}
use Rattle.polyphase_fir.proofs.PhaseBounds.{placed_places}
use Rattle.polyphase_fir.proofs.TermLemmas.{term_sum-placed, placed_below, term_adders-placed}

-- ---- one phase

pub IsRoot-later : {old new : List Cell} {from : Stream} {levels : ℕ} {taps : List ℤ} {up r : ℕ} {root : Node} (streams : Streams) → Extends old new → IsRoot streams old from levels taps up r root → IsRoot streams new from levels taps up r root
IsRoot-later {old} {new} {from} {levels} {taps} {up} {r} {root} streams e p = record {
  within = let inside = p.within in let longer = e.longer in omega arith;
  shows = λ cut law x values run. p.shows cut law x values (e.runs cut law x values run);
}

pub IsRoot-tree : {mid new : NetView} {from : Stream} {window : List Node} {held : List Held} {registers : List Node} {root : Node} {levels : ℕ} (streams : Streams) → AreCausal streams → (taps : List ℤ) (up r : ℕ) → r < up → 1 ≤ from.period → IsCutWindow streams mid.cells from window → depth_of taps up ≡ length window
    → AddsTree streams mid new window (ages (depth_of taps up)) 0 (placed_terms up r taps) levels held registers root → IsRoot streams new.cells from levels taps up r root
IsRoot-tree {mid} {new} {from} {window} {held} {registers} {root} {levels} streams causal taps up r inside positive w long t = record {
  within = t.tree.within;
  shows = λ cut law x values run v is carried s k taken.
      let ts = placed_terms up r taps in
      let f : ℕ → ℤ = λ i. v (pos (suc k) -ℤ pos 1 -ℤ pos i) in
      let some : 1 ≤ up = omega (arith, inside) in
      let at : (i : ℕ) → pos (suc k) -ℤ pos 1 -ℤ pos i ≡ pos k -ℤ pos i = λ i. omega (arith, ints) in
      let tick : s + levels ≡ s + 0 + levels = omega arith in
      ap (λ (n : ℕ). values n root.place) tick
      ∙ tree_root streams causal positive (window_shown streams causal positive (depth_of taps up) long w) (placed_places up r taps some) t cut law x values v is run carried s (suc k) taken
      ∙ term_sum-ages (depth_of taps up) f ts (placed_below up r taps some)
      ∙ term_sum-placed f up r taps inside
      ∙ weighted_sum-same (phase up r taps) f (λ i. v (pos k -ℤ pos i)) (λ i. ap v (at i));
}

-- ---- adders one behind another

pub SumsWindow-none : (net : NetView) (window : List Node) → SumsWindow net net window
SumsWindow-none net window = record { shallow = λ s plain. s }

pub SumsWindow-push : {old mid new : NetView} {window : List Node} {held : List Held} {registers : List Node} {root : Node} {levels : ℕ} (streams : Streams) (taps : List ℤ) (up r : ℕ) → r < up → depth_of taps up ≡ length window → mid.group ≡ old.group → Extends old.cells mid.cells
    → SumsWindow old mid window → AddsTree streams mid new window (ages (depth_of taps up)) 0 (placed_terms up r taps) levels held registers root → SumsWindow old new window
SumsWindow-push {old} {mid} {new} {window} streams taps up r inside long same e p t = record {
  shallow = λ s plain.
      let places : All (λ (u : Term). u.index < length window) (placed_terms up r taps) = subst (λ (n : ℕ). All (λ (u : Term). u.index < n) (placed_terms up r taps)) long (placed_below up r taps (omega arith)) in
      let s1 : IsShallow mid.cells mid.group = subst (λ (g : ℕ). IsShallow mid.cells g) (sym same) (p.shallow s plain) in
      let plain1 : ArePlain mid.cells mid.group window = subst (λ (g : ℕ). ArePlain mid.cells g window) (sym same) (ArePlain-later old.cells mid.cells old.group window s.bound e plain) in
      subst (λ (g : ℕ). IsShallow new.cells g) same (t.tree.shallow.shallow s1 (record { each = plain_leaves mid.cells mid.group window plain1 (placed_terms up r taps) places }));
}

-- ---- all phases

pub AddsRoots-none : (streams : Streams) (net : NetView) (from : Stream) (levels : ℕ) (taps : List ℤ) (up : ℕ) → AddsRoots streams net net from levels taps up []
AddsRoots-none streams net from levels taps up = record {
  grows = Grows-refl net;
  each = λ r root is. absurd (cc);
  adders = omega arith;
  named = SameNamed-refl net.cells;
  names = LeavesFree-refl net.cells (IsTouched net.group Register);
  linear = KeepsShapes-refl net.cells;
}

pub AddsRoots-push : {old mid new : NetView} {from : Stream} {window roots : List Node} {held : List Held} {registers : List Node} {root : Node} {levels : ℕ} (streams : Streams) → AreCausal streams → (taps : List ℤ) (up : ℕ) → length roots < up → 1 ≤ from.period → IsCutWindow streams mid.cells from window → depth_of taps up ≡ length window
    → AddsRoots streams old mid from levels taps up roots → AddsTree streams mid new window (ages (depth_of taps up)) 0 (placed_terms up (length roots) taps) levels held registers root → AddsRoots streams old new from levels taps up (roots ++ root ∷ [])
AddsRoots-push {old} {mid} {new} {from} {window} {roots} {held} {registers} {root} {levels} streams causal taps up inside positive w long p t =
    let same = p.grows.group in
    let count : length (roots ++ root ∷ []) ≡ length roots + 1 = length-append roots (root ∷ []) in
    let next : suc (length roots) ≡ length (roots ++ root ∷ []) = omega (arith, count) in
    record {
      grows = Grows-trans p.grows t.tree.grows;
      each = λ r found is. elim (slice_get_push_cases roots root r found is) [
        | inl before ↦ IsRoot-later streams t.tree.grows.extends (p.each r found before)
        | inr last ↦ rw (last.0, last.1) (IsRoot-tree streams causal taps up (length roots) inside positive w long t)
      ];
      adders =
          let before = p.adders in
          let now : adders_in old.group new.cells ≡ adders_in old.group mid.cells + tree_adders (map (leaf_of window) (placed_terms up (length roots) taps)) = subst (λ (g : ℕ). adders_in g new.cells ≡ adders_in g mid.cells + tree_adders (map (leaf_of window) (placed_terms up (length roots) taps))) same t.tree.adders in
          let terms = tree_adders-terms window (placed_terms up (length roots) taps) in
          let placed = term_adders-placed up (length roots) taps in
          let more : adders_below up taps (suc (length roots)) ≡ adders_below up taps (length roots) + term_adders (terms_of up (length roots) taps) = refl in
          let whole : adders_in old.group new.cells ≡ adders_in old.group old.cells + adders_below up taps (suc (length roots)) = omega (arith, before, now, terms, placed, more) in
          subst (λ (n : ℕ). adders_in old.group new.cells ≡ adders_in old.group old.cells + adders_below up taps n) next whole;
      named = SameNamed-trans p.named t.tree.same_named;
      names = LeavesFree-trans old.cells mid.cells new.cells (IsTouched old.group Register) (IsTouched mid.group Register) (IsTouched old.group Register) (λ name h. h) (λ name h. subst (λ (g : ℕ). IsTouched g Register name) same h) p.names t.tree.names;
      linear = KeepsShapes-trans p.linear t.tree.shallow.linear;
    }
