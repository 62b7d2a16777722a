-- Trees over nodes that show readings of a stream's values in each phase.
use Rattle.std.proofs.Common.{◌≡◌, ℕ, suc, ◌+◌, ◌^◌, ◌<◌, List, [], ◌∷◌, length, map, get_or, refl, sym, ◌∙◌, ap, arith, subst, ℤ, pos, ◌-ℤ◌, ◌+ℤ◌, ◌*ℤ◌, All, Some, slice_get}
use Rattle.std.proofs.lemmas.List.{length-map}
use Rattle.mr_values.specs.Digit.{with_sign}
use Rattle.mr_values.specs.Sequence.{weighted_sum}
use Rattle.mr_values.specs.Width.{FitsWidth}
use Rattle.net_graph.specs.declared.cell.Node.{Node}
use Rattle.net_graph.specs.declared.cell.Stream.{Stream}
use Rattle.net_graph.specs.declared.name.NameKind.TheVariants.{Register}
use Rattle.net_graph.specs.Cells.{NetView}
use Rattle.signed_digit.specs.declared.term_list.Term.{Term}
use Rattle.signed_digit.specs.Terms.{term_sum}
use Rattle.pipeline_balance.specs.Numbered.{IsCounted, name_of}
use Rattle.pipeline_balance.specs.Tree.{level_count, count_to, IsTree}
use Rattle.stage_law.specs.Registers.{HeldSum}
use Rattle.stage_law.specs.Streams.{Streams, AreCausal}
use Rattle.fir_pieces.specs.declared.held.Held.{Held}
use Rattle.fir_pieces.specs.declared.reading.Reading.{Reading}
use Rattle.fir_pieces.specs.Columns.{AreAllHeld}
use Rattle.fir_pieces.specs.Form.{form_of, reading_form}
use Rattle.fir_pieces.specs.FormSums.{times_form, terms_forms, held_forms, AllHold}
use Rattle.fir_pieces.specs.Held.{held_sum}
use Rattle.fir_pieces.specs.Moment.{Pace, IsPace, Forms}
use Rattle.fir_pieces.specs.PhaseSums.{sum_in_phase, sums_in_phases, ListsPhases, FitsSum, IsFormsWidth, ArePhasesTreeWidths, IsPhasesDue}
use Rattle.fir_pieces.specs.Placed.{all_minus, leaf_of, term_segment}
use Rattle.fir_pieces.specs.Reading.{ReadsWithin, reading_at, spread}
use Rattle.fir_pieces.specs.Widest.{widest}
use Rattle.fir_pieces.proofs.ColumnLemmas.{AreAllHeld-at}
use Rattle.fir_pieces.proofs.DueLemmas.{segment_places}
use Rattle.fir_pieces.proofs.FormSumLemmas.{weighted_sum-plus, weighted_sum-times}
use Rattle.fir_pieces.proofs.FormTreeLemmas.{signed_once, tree_holds}
use Rattle.fir_pieces.proofs.GiveLemmas.{GivesForms-same}
use Rattle.fir_pieces.proofs.HeldLemmas.{weighted_sum-form, weighted_sum-reading}
use Rattle.fir_pieces.proofs.PhaseDueLemmas.{phase_there}
use Rattle.fir_pieces.proofs.ReadingLemmas.{shown_by, within_spread}
use Rattle.fir_pieces.proofs.UnitLemmas.{short_weights}
use Rattle.fir_pieces.proofs.WidthsLemmas.{slice_get_mapped, get_or-map}

-- what the nodes of a list show, from what they show in each phase
abbrev pub shown_in : (ℕ → List Reading) → ℕ → Forms
shown_in rs k φ = reading_form (reading_at (rs φ) k)

-- ---- the same sums

pub terms_shown : (rs : ℕ → List Reading) (φ : ℕ) (ts : List Term) (f : ℕ → ℤ) → weighted_sum (terms_forms (shown_in rs) ts φ) f ≡ term_sum (shown_by (rs φ) f) ts
terms_shown rs φ [] f = refl
terms_shown rs φ (t ∷ ts) f =
    let c = with_sign t.negative (2 ^ t.place) in
    let r = reading_at (rs φ) t.index in
    weighted_sum-plus (times_form c (reading_form r)) (terms_forms (shown_in rs) ts φ) f
    ∙ ap (λ (z : ℤ). z +ℤ weighted_sum (terms_forms (shown_in rs) ts φ) f) (weighted_sum-times c (reading_form r) f ∙ ap (λ (z : ℤ). c *ℤ z) (weighted_sum-reading r f))
    ∙ ap (λ (z : ℤ). c *ℤ shown_by (rs φ) f t.index +ℤ z) (terms_shown rs φ ts f)

pub held_shown : (rs : ℕ → List Reading) (ts : List Term) (φ : ℕ) (f : ℕ → ℤ) → weighted_sum (held_forms (shown_in rs) ts φ) f ≡ weighted_sum (form_of (rs φ) ts) f
held_shown rs ts φ f =
    let sum = term_sum (shown_by (rs φ) f) ts in
    weighted_sum-times (with_sign (all_minus ts) 1) (terms_forms (shown_in rs) ts φ) f ∙ ap (λ (z : ℤ). with_sign (all_minus ts) 1 *ℤ z) (terms_shown rs φ ts f) ∙ sym (signed_once (all_minus ts) sum) ∙ sym (weighted_sum-form (rs φ) ts f)

-- ---- and the same widths

fits_same : (streams : Streams) (pace : Pace) (f g : Forms) (ticks w φ : ℕ) → ((x : ℕ → ℤ) → weighted_sum (f φ) x ≡ weighted_sum (g φ) x) → FitsSum streams w (sum_in_phase pace f ticks φ) → FitsSum streams w (sum_in_phase pace g ticks φ)
fits_same streams pace f g ticks w φ e h = record { each = λ v is k in_class. subst (FitsWidth w) (e (λ i. v (pos k -ℤ pos i))) (h.each v is k in_class) }

pub IsFormsWidth-same : (streams : Streams) (pace : Pace) (f g : Forms) (ticks : ℕ) (order : List ℕ) (width : ℕ) → ((φ : ℕ) (x : ℕ → ℤ) → weighted_sum (f φ) x ≡ weighted_sum (g φ) x) → IsFormsWidth streams pace f ticks order width → IsFormsWidth streams pace g ticks order width
IsFormsWidth-same streams pace f g ticks order width e w = record {
  in_order = w.in_order;
  wide = record {
    positive = w.wide.positive;
    most = w.wide.most;
    holds = λ j s is.
        let p = phase_there pace g ticks order j s is in
        subst (FitsSum streams width) (sym p.2) (fits_same streams pace f g ticks width p.0 (e p.0) (w.wide.holds j (sum_in_phase pace f ticks p.0) (slice_get_mapped (sum_in_phase pace f ticks) order j p.0 p.1)));
    least = λ u some h. w.wide.least u some (λ j s is.
        let p = phase_there pace f ticks order j s is in
        subst (FitsSum streams u) (sym p.2) (fits_same streams pace g f ticks u p.0 (λ x. sym (e p.0 x)) (h j (sum_in_phase pace g ticks p.0) (slice_get_mapped (sum_in_phase pace g ticks) order j p.0 p.1))));
  };
}

-- ---- the tree

-- the forms of the register number j of a level
abbrev pub tree_forms : (ℕ → List Reading) → List Term → ℕ → ℕ → Forms
tree_forms rs terms level j φ = form_of (rs φ) (term_segment (suc level) j terms)

-- the list has the sums of each register of the tree
pub record AreTreeSums (pace : Pace) (rs : ℕ → List Reading) (ticks : ℕ) (order : List ℕ) (terms : List Term) (levels : ℕ) (all : List (List HeldSum)) : Type 0 where
  pub many : length all ≡ count_to (length terms) levels
  pub at : (level j : ℕ) → level < levels → j < level_count (length terms) (suc level) → slice_get all (count_to (length terms) level + j) ≡ Some (sums_in_phases pace (tree_forms rs terms level j) (ticks + suc level) order)

module _ {pace : Pace} {ticks : ℕ} {order : List ℕ} {terms : List Term} {levels : ℕ} {all : List (List HeldSum)} {parts : List (List Held)} (streams : Streams) (rs : ℕ → List Reading) (in_order : ListsPhases pace.phases order) (sums : AreTreeSums pace rs ticks order terms levels all) (held : AreAllHeld streams all parts) where
  pub parts_many : length parts ≡ count_to (length terms) levels
  parts_many = sym (length-map parts (map held_sum)) ∙ ap length held.same ∙ sums.many

  width_at : (level j : ℕ) → level < levels → j < level_count (length terms) (suc level) → IsFormsWidth streams pace (tree_forms rs terms level j) (ticks + suc level) order (get_or (map widest parts) (count_to (length terms) level + j) 0)
  width_at level j low within =
      let place = count_to (length terms) level + j in
      let own = AreAllHeld-at streams held place (sums_in_phases pace (tree_forms rs terms level j) (ticks + suc level) order) (sums.at level j low within) in
      subst (IsFormsWidth streams pace (tree_forms rs terms level j) (ticks + suc level) order) (sym (get_or-map widest parts place own.0 own.1)) (record { in_order = in_order; wide = own.2 })

  pub tree_widths : ArePhasesTreeWidths streams pace (shown_in rs) ticks order terms levels (map widest parts)
  tree_widths = record {
    count = length-map parts widest ∙ parts_many;
    each = λ level j low within.
        IsFormsWidth-same streams pace (tree_forms rs terms level j) (held_forms (shown_in rs) (term_segment (suc level) j terms)) (ticks + suc level) order (get_or (map widest parts) (count_to (length terms) level + j) 0)
        (λ φ x. sym (held_shown rs (term_segment (suc level) j terms) φ x)) (width_at level j low within);
  }

  module _ {mid new : NetView} {from : Stream} {nodes : List Node} {registers : List Node} {root : Node} (causal : AreCausal streams) (is_pace : IsPace from pace) (s : AllHold streams mid.cells from pace (shown_in rs) ticks nodes) (places : All (λ (t : Term). t.index < length nodes) terms)
      (tree : IsTree mid new (map (leaf_of nodes) terms) (map widest parts) levels registers root) where
    -- each register is what the law asks
    pub phases_due : (depth : ℕ) → ((φ : ℕ) → All (ReadsWithin depth) (rs φ)) → ((φ : ℕ) → length (rs φ) ≡ length nodes) → (count level j : ℕ) (node : Node) → IsCounted mid.cells mid.group Register count → level < levels → j < level_count (length terms) (suc level)
        → slice_get registers (count_to (length terms) level + j) ≡ Some node
        → IsPhasesDue streams new.cells from pace depth (ticks + levels) mid.group (name_of mid.group Register (count + (count_to (length terms) level + j))) (sums_in_phases pace (tree_forms rs terms level j) (ticks + suc level) order) node
    phases_due depth reads many count level j node counted low within is =
        let part = term_segment (suc level) j terms in
        record {
          width = get_or (map widest parts) (count_to (length terms) level + j) 0;
          register = tree.named count counted (count_to (length terms) level + j) node is;
          forms = tree_forms rs terms level j;
          ticks = ticks + suc level;
          order = order;
          are_sums = refl;
          short = λ φ below.
              short_weights depth (all_minus part) (spread (rs φ) part)
              (within_spread depth (rs φ) part (reads φ) (subst (λ (n : ℕ). All (λ (u : Term). u.index < n) part) (sym (many φ)) (segment_places (length nodes) (suc level) j terms places)));
          soon = omega arith;
          holds = GivesForms-same streams (held_forms (shown_in rs) part) (tree_forms rs terms level j) (λ φ x. held_shown rs part φ x) (tree_holds streams causal is_pace (shown_in rs) s places tree tree_widths level j node low within is);
          least = width_at level j low within;
        }
