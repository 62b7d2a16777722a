-- Trees over nodes that hold forms.
use Rattle.std.proofs.Common.{◌≡◌, ℕ, suc, ◌+◌, ◌*◌, ◌^◌, ◌<◌, ◌≤◌, List, [], ◌∷◌, length, map, get_or, refl, sym, ◌∙◌, ap, arith, Bool, false, ℤ, pos, ◌+ℤ◌, ◌*ℤ◌, All, subst, Some, slice_get}
use Rattle.std.proofs.lemmas.Int.{ints}
use Rattle.std.proofs.lemmas.Option.{slice_get-get_or}
use Rattle.std.proofs.lemmas.List.{length-map}
use Rattle.std.proofs.lemmas.List.Elements.{All-head, All-tail}
use Rattle.mr_values.specs.Digit.{with_sign}
use Rattle.mr_values.specs.Sequence.{Sequence}
use Rattle.net_graph.specs.declared.cell.Cell.{Cell}
use Rattle.net_graph.specs.declared.cell.Leaf.{Leaf}
use Rattle.net_graph.specs.declared.cell.Node.{Node}
use Rattle.net_graph.specs.declared.cell.Stream.{Stream}
use Rattle.net_graph.specs.declared.name.NameKind.TheVariants.{Register}
use Rattle.net_graph.specs.Cells.{NetView}
use Rattle.net_graph.specs.Cut.{Cut, IsCut}
use Rattle.net_graph.specs.Grow.{Extends}
use Rattle.net_graph.specs.Run.{Values, IsRun}
use Rattle.signed_digit.specs.declared.term_list.Term.{Term}
use Rattle.pipeline_balance.specs.Gate.{Carries}
use Rattle.pipeline_balance.specs.Leaves.{delayed, signed_by, signed_sum, held_sum, segment}
use Rattle.pipeline_balance.specs.Numbered.{IsCounted, name_of}
use Rattle.pipeline_balance.specs.Tree.{level_count, count_to, SumsFit, IsSum, IsTree}
use Rattle.stage_law.specs.Streams.{Streams, AreCausal, magnitudes}
use Rattle.fir_pieces.specs.Moment.{Pace, IsPace, Forms, GivesForms, HoldsForms, node_value}
use Rattle.fir_pieces.specs.FormSums.{times_form, times_forms, terms_forms, held_forms, powers_of, AllHold}
use Rattle.fir_pieces.specs.Placed.{all_minus, leaf_of, term_segment}
use Rattle.fir_pieces.proofs.DueLemmas.{segment_places}
use Rattle.fir_pieces.proofs.FormLemmas.{abs_with_sign}
use Rattle.fir_pieces.proofs.HeldLemmas.{one_leaf, all_negative-leaves, segment-leaves}
use Rattle.fir_pieces.specs.PhaseSums.{sums_in_phases, IsFormsWidth, ArePhasesTreeWidths, IsPhasesDue}
use Rattle.fir_pieces.proofs.FormSumLemmas.{length-plus, length-times, magnitudes-plus, magnitudes-times}
use Rattle.fir_pieces.proofs.GiveLemmas.{GivesForms-later, GivesForms-plus, GivesForms-times, GivesForms-none, GivesForms-as, GivesForms-delayed, HoldsForms-register, value_fits}

-- ---- leaves are terms

pub signed_once : (m : Bool) (a : ℤ) → signed_by m a ≡ with_sign m 1 *ℤ a
signed_once m a = ap (signed_by m) (once a) ∙ one_leaf m a 1
  where
    once : (z : ℤ) → z ≡ z *ℤ pos 1
    once z = omega (arith, ints)

pub AllHold-later : {old new : List Cell} {from : Stream} {pace : Pace} {shown : ℕ → Forms} {ticks : ℕ} {nodes : List Node} (streams : Streams) → Extends old new → AllHold streams old from pace shown ticks nodes → AllHold streams new from pace shown ticks nodes
AllHold-later streams e s = record { each = λ k node is. GivesForms-later streams e (s.each k node is) }

-- ---- how long and how great the forms are

pub short_terms : (depth : ℕ) (shown : ℕ → Forms) (φ : ℕ) → ((k : ℕ) → length (shown k φ) ≤ depth) → (ts : List Term) → length (terms_forms shown ts φ) ≤ depth
short_terms depth shown φ h [] = omega arith
short_terms depth shown φ h (t ∷ ts) =
    let c = with_sign t.negative (2 ^ t.place) in
    let same = length-times c (shown t.index φ) in
    let own = h t.index in
    length-plus depth (times_form c (shown t.index φ)) (terms_forms shown ts φ) (omega (arith, same, own)) (short_terms depth shown φ h ts)

pub short_held : (depth : ℕ) (shown : ℕ → Forms) (φ : ℕ) → ((k : ℕ) → length (shown k φ) ≤ depth) → (ts : List Term) → length (held_forms shown ts φ) ≤ depth
short_held depth shown φ h ts = let same = length-times (with_sign (all_minus ts) 1) (terms_forms shown ts φ) in let rest = short_terms depth shown φ h ts in omega (arith, same, rest)

pub magnitudes_terms : (shown : ℕ → Forms) (φ : ℕ) (ts : List Term) → magnitudes (terms_forms shown ts φ) ≤ powers_of shown φ ts
magnitudes_terms shown φ [] = omega arith
magnitudes_terms shown φ (t ∷ ts) =
    let c = with_sign t.negative (2 ^ t.place) in
    let rest = magnitudes_terms shown φ ts in
    let both = magnitudes-plus (times_form c (shown t.index φ)) (terms_forms shown ts φ) in
    let own : magnitudes (times_form c (shown t.index φ)) ≡ 2 ^ t.place * magnitudes (shown t.index φ) = magnitudes-times c (shown t.index φ) ∙ ap (λ (n : ℕ). n * magnitudes (shown t.index φ)) (abs_with_sign t.negative (2 ^ t.place)) in
    omega (arith, rest, both, own)

pub magnitudes_held : (shown : ℕ → Forms) (φ : ℕ) (ts : List Term) → magnitudes (held_forms shown ts φ) ≤ powers_of shown φ ts
magnitudes_held shown φ ts =
    let sum = terms_forms shown ts φ in
    let own : magnitudes (times_form (with_sign (all_minus ts) 1) sum) ≡ 1 * magnitudes sum = magnitudes-times (with_sign (all_minus ts) 1) sum ∙ ap (λ (n : ℕ). n * magnitudes sum) (abs_with_sign (all_minus ts) 1) in
    let rest = magnitudes_terms shown φ ts in
    omega (arith, own, rest)

-- ---- sums of leaves

module _ {cells : List Cell} {from : Stream} {pace : Pace} {ticks : ℕ} {nodes : List Node} (streams : Streams) (shown : ℕ → Forms) (s : AllHold streams cells from pace shown ticks nodes) where
  -- the leaves' sum gives the terms' forms
  pub terms_given : (ts : List Term) → All (λ (t : Term). t.index < length nodes) ts → GivesForms streams cells from pace (terms_forms shown ts) ticks (λ values t. signed_sum values t (map (leaf_of nodes) ts))
  terms_given [] h = GivesForms-none streams
  terms_given (u ∷ ts) h =
      let node = (leaf_of nodes u).node in
      let c = with_sign u.negative (2 ^ u.place) in
      let inside = All-head (λ (t : Term). t.index < length nodes) u ts h in
      let own = GivesForms-times streams c (shown u.index) (node_value node) (s.each u.index node (slice_get-get_or nodes u.index (record { place = 0 }) inside)) in
      let rest = terms_given ts (All-tail (λ (t : Term). t.index < length nodes) u ts h) in
      GivesForms-as streams (λ values t. c *ℤ values t node.place +ℤ signed_sum values t (map (leaf_of nodes) ts)) (λ values t. signed_sum values t (map (leaf_of nodes) (u ∷ ts)))
      (λ values t. ap (λ (z : ℤ). z +ℤ signed_sum values t (map (leaf_of nodes) ts)) (one_leaf u.negative (values t node.place) (2 ^ u.place)))
      (GivesForms-plus streams (times_forms c (shown u.index)) (terms_forms shown ts) (λ values t. c *ℤ values t node.place) (λ values t. signed_sum values t (map (leaf_of nodes) ts)) own rest)

  -- and what a register over them holds gives theirs
  pub held_given : (ts : List Term) → All (λ (t : Term). t.index < length nodes) ts → GivesForms streams cells from pace (held_forms shown ts) ticks (λ values t. held_sum values t (map (leaf_of nodes) ts))
  held_given ts h =
      let c = with_sign (all_minus ts) 1 in
      GivesForms-as streams (λ values t. c *ℤ signed_sum values t (map (leaf_of nodes) ts)) (λ values t. held_sum values t (map (leaf_of nodes) ts))
      (λ values t. ap (λ (b : Bool). signed_by b (signed_sum values t (map (leaf_of nodes) ts))) (all_negative-leaves nodes ts) ∙ signed_once (all_minus ts) (signed_sum values t (map (leaf_of nodes) ts)))
      (GivesForms-times streams c (terms_forms shown ts) (λ values t. signed_sum values t (map (leaf_of nodes) ts)) (terms_given ts h))

  -- one register over leaves
  pub sum_holds : AreCausal streams → IsPace from pace → (lag : ℕ) (order : List ℕ) (width : ℕ) (ts : List Term) → All (λ (t : Term). t.index < length nodes) ts → IsFormsWidth streams pace (held_forms shown ts) lag order width
      → (term : Leaf) → IsSum cells (map (leaf_of nodes) ts) width term → HoldsForms streams cells from pace (held_forms shown ts) (suc ticks) term.node
  sum_holds causal is_pace lag order width ts h w term is =
      HoldsForms-register streams causal is_pace (held_given ts h) lag order width w term.node is.starts
      (λ cut law x values run t fits. is.holds cut law x values run t (law.fitting false width (held_sum values t (map (leaf_of nodes) ts)) w.wide.positive fits))

-- ---- a whole tree

module _ {mid new : NetView} {from : Stream} {pace : Pace} {ticks : ℕ} {nodes : List Node} {widths : List ℕ} {registers : List Node} {root : Node} {levels : ℕ} {terms : List Term} {order : List ℕ} (streams : Streams) (causal : AreCausal streams) (is_pace : IsPace from pace) (shown : ℕ → Forms)
    (s : AllHold streams mid.cells from pace shown ticks nodes) (places : All (λ (t : Term). t.index < length nodes) terms) (tree : IsTree mid new (map (leaf_of nodes) terms) widths levels registers root) (w : ArePhasesTreeWidths streams pace shown ticks order terms levels widths) where
  later : AllHold streams new.cells from pace shown ticks nodes
  later = AllHold-later streams tree.grows.extends s

  many : length (map (leaf_of nodes) terms) ≡ length terms
  many = length-map terms (leaf_of nodes)

  -- a register's leaves give its forms
  part_given : (level j : ℕ) → GivesForms streams new.cells from pace (held_forms shown (term_segment (suc level) j terms)) ticks (λ values t. held_sum values t (segment (suc level) j (map (leaf_of nodes) terms)))
  part_given level j =
      GivesForms-as streams (λ values t. held_sum values t (map (leaf_of nodes) (term_segment (suc level) j terms))) (λ values t. held_sum values t (segment (suc level) j (map (leaf_of nodes) terms)))
      (λ values t. ap (held_sum values t) (segment-leaves nodes (suc level) j terms))
      (held_given streams shown later (term_segment (suc level) j terms) (segment_places (length nodes) (suc level) j terms places))

  sums_fit : (cut : Cut) → IsCut cut → (x : ℕ → ℤ) (values : Values) (v : Sequence) → streams v → IsRun cut new.cells x values → Carries values from v → SumsFit cut values (map (leaf_of nodes) terms) widths levels
  sums_fit cut law x values v is run carried level j low within t =
      let width = get_or widths (count_to (length terms) level + j) 0 in
      let own = w.each level j low (subst (λ (n : ℕ). j < level_count n (suc level)) many within) in
      let fits = value_fits streams causal is_pace (part_given level j) (ticks + suc level) order width own cut law x values v is run carried t in
      subst (λ (n : ℕ). cut false (get_or widths (count_to n level + j) 0) (held_sum values t (segment (suc level) j (map (leaf_of nodes) terms))) ≡ held_sum values t (segment (suc level) j (map (leaf_of nodes) terms))) (sym many)
      (law.fitting false width (held_sum values t (segment (suc level) j (map (leaf_of nodes) terms))) own.wide.positive fits)

  -- each register holds the forms of the terms under it, a tick later for each level
  pub tree_holds : (level j : ℕ) (node : Node) → level < levels → j < level_count (length terms) (suc level) → slice_get registers (count_to (length terms) level + j) ≡ Some node
      → HoldsForms streams new.cells from pace (held_forms shown (term_segment (suc level) j terms)) (ticks + suc level) node
  tree_holds level j node low within is =
      let g = GivesForms-delayed streams (suc level) (λ values t. held_sum values t (segment (suc level) j (map (leaf_of nodes) terms))) (part_given level j) in
      record {
        early = λ cut law x values v in_streams run carried t h. at cut law x values v in_streams run carried t ∙ g.early cut law x values v in_streams run carried t h;
        late = λ cut law x values v in_streams run carried u. at cut law x values v in_streams run carried (u + (ticks + suc level)) ∙ g.late cut law x values v in_streams run carried u;
      }
    where
      at : (cut : Cut) → IsCut cut → (x : ℕ → ℤ) (values : Values) (v : Sequence) → streams v → IsRun cut new.cells x values → Carries values from v → (t : ℕ) → values t node.place ≡ delayed (suc level) t (λ u. held_sum values u (segment (suc level) j (map (leaf_of nodes) terms)))
      at cut law x values v in_streams run carried t =
          tree.held.holds cut law x values run (sums_fit cut law x values v in_streams run carried) level j node low (subst (λ (n : ℕ). j < level_count n (suc level)) (sym many) within)
          (subst (λ (n : ℕ). slice_get registers (count_to n level + j) ≡ Some node) (sym many) is) t

  -- the root holds the sum of all terms
  pub root_holds : HoldsForms streams new.cells from pace (terms_forms shown terms) (ticks + levels) root
  root_holds =
      let g = GivesForms-delayed streams levels (λ values t. signed_sum values t (map (leaf_of nodes) terms)) (terms_given streams shown later terms places) in
      record {
        early = λ cut law x values v in_streams run carried t h. tree.sums cut law x values run (sums_fit cut law x values v in_streams run carried) t ∙ g.early cut law x values v in_streams run carried t h;
        late = λ cut law x values v in_streams run carried u. tree.sums cut law x values run (sums_fit cut law x values v in_streams run carried) (u + (ticks + levels)) ∙ g.late cut law x values v in_streams run carried u;
      }

  -- each register is what the law asks
  pub tree_due : (depth : ℕ) → ((φ k : ℕ) → φ < pace.phases → length (shown k φ) ≤ depth) → (count level j : ℕ) (node : Node) → IsCounted mid.cells mid.group Register count → level < levels → j < level_count (length terms) (suc level)
      → slice_get registers (count_to (length terms) level + j) ≡ Some node
      → IsPhasesDue streams new.cells from pace depth (ticks + levels) mid.group (name_of mid.group Register (count + (count_to (length terms) level + j))) (sums_in_phases pace (held_forms shown (term_segment (suc level) j terms)) (ticks + suc level) order) node
  tree_due depth short count level j node counted low within is = record {
    width = get_or widths (count_to (length terms) level + j) 0;
    register = tree.named count counted (count_to (length terms) level + j) node is;
    forms = held_forms shown (term_segment (suc level) j terms);
    ticks = ticks + suc level;
    order = order;
    are_sums = refl;
    short = λ φ below. short_held depth shown φ (λ k. short φ k below) (term_segment (suc level) j terms);
    soon = omega arith;
    holds = tree_holds level j node low within is;
    least = w.each level j low within;
  }
