-- What the registers of a window and of a tree hold.
use Rattle.std.proofs.Common.{◌≡◌, ℕ, suc, ◌+◌, ◌*◌, ◌^◌, ◌<◌, ◌≤◌, List, length, get_or, map, drop, refl, sym, ◌∙◌, ap, arith, subst, ℤ, pos, ◌-ℤ◌, Some, slice_get, All}
use Rattle.std.proofs.lemmas.List.{length-map}
use Rattle.std.proofs.lemmas.List.Elements.{All-take, All-drop}
use Rattle.std.proofs.lemmas.Option.{slice_get_within}
use Rattle.mr_values.specs.Sequence.{Sequence, weighted_sum}
use Rattle.net_graph.specs.declared.cell.Cell.{Cell}
use Rattle.net_graph.specs.declared.cell.Leaf.{Leaf}
use Rattle.net_graph.specs.declared.cell.Node.{Node}
use Rattle.net_graph.specs.declared.cell.Stream.{Stream}
use Rattle.net_graph.specs.declared.name.Name.{Name}
use Rattle.net_graph.specs.declared.name.NameKind.TheVariants.{Register, Window}
use Rattle.net_graph.specs.Cells.{NetView}
use Rattle.net_graph.specs.Cut.{Cut, IsCut}
use Rattle.net_graph.specs.Grow.{Extends}
use Rattle.net_graph.specs.Run.{Values, IsRun}
use Rattle.signed_digit.specs.declared.term_list.Term.{Term}
use Rattle.signed_digit.specs.Terms.{term_sum}
use Rattle.pipeline_balance.specs.Gate.{Carries, HasTaken, shown}
use Rattle.pipeline_balance.specs.Leaves.{delayed, signed_sum, held_sum, segment}
use Rattle.pipeline_balance.specs.Numbered.{IsCounted, name_of}
use Rattle.pipeline_balance.specs.Tree.{level_count, count_to}
use Rattle.pipeline_balance.proofs.NumberedLemmas.{IsRegister-later}
use Rattle.stage_law.specs.Range.{IsRange}
use Rattle.stage_law.specs.Registers.{HeldSum}
use Rattle.stage_law.specs.Streams.{Streams, AreCausal}
use Rattle.stage_law.specs.declared.ranges.Range.{Range}
use Rattle.fir_pieces.specs.declared.held.Held.{Held}
use Rattle.fir_pieces.specs.declared.reading.Reading.{Reading}
use Rattle.fir_pieces.specs.Placed.{all_minus, leaf_of, term_segment}
use Rattle.fir_pieces.specs.Reading.{ReadsWithin, spread}
use Rattle.fir_pieces.specs.Form.{form_of}
use Rattle.fir_pieces.specs.Listed.{every, unit_form, window_sum, tree_sum, tree_sums}
use Rattle.fir_pieces.specs.Cutting.{AddsWindow, IsCutWindow}
use Rattle.fir_pieces.specs.Held.{IsFormWidth}
use Rattle.fir_pieces.specs.Peaks.{HoldsForm, IsDue}
use Rattle.fir_pieces.specs.Sums.{AreShown, AddsTree}
use Rattle.fir_pieces.proofs.HeldLemmas.{held_is, held_early, sum_is, sums_fit, segment-leaves, delayed_later, delayed_early, taken_value-stream}
use Rattle.fir_pieces.proofs.MomentLemmas.{HoldsForm-by}
use Rattle.fir_pieces.proofs.ReadingLemmas.{shown_by, within_spread}
use Rattle.fir_pieces.proofs.SumLemmas.{stands}
use Rattle.fir_pieces.proofs.UnitLemmas.{short_weights, unit_form-sum, length-unit_form, unit_form-width}
use Rattle.fir_pieces.proofs.WidthsLemmas.{tree_sums-at, length-tree_sums}

-- ---- what stays

pub HoldsForm-later : {streams : Streams} {old new : List Cell} {from : Stream} {form : List ℤ} {ticks : ℕ} {node : Node} → Extends old new → HoldsForm streams old from form ticks node → HoldsForm streams new from form ticks node
HoldsForm-later e h = record {
  early = λ cut law x values v is run. h.early cut law x values v is (e.runs cut law x values run);
  late = λ cut law x values v is run. h.late cut law x values v is (e.runs cut law x values run);
}

pub IsDue-later : {streams : Streams} {old new : List Cell} {from : Stream} {depth levels group : ℕ} {name : Name} {s : HeldSum} {node : Node} → Extends old new → IsDue streams old from depth levels group name s node → IsDue streams new from depth levels group name s node
IsDue-later e d = record {
  width = d.width;
  register = IsRegister-later e d.register;
  is_class = d.is_class;
  short = d.short;
  ticks = d.ticks;
  is_lag = d.is_lag;
  soon = d.soon;
  holds = HoldsForm-later e d.holds;
  least = d.least;
}

-- in more time
pub IsDue-soon : {streams : Streams} {cells : List Cell} {from : Stream} {depth levels more group : ℕ} {name : Name} {s : HeldSum} {node : Node} → levels ≤ more → IsDue streams cells from depth levels group name s node → IsDue streams cells from depth more group name s node
IsDue-soon e d = record {
  width = d.width;
  register = d.register;
  is_class = d.is_class;
  short = d.short;
  ticks = d.ticks;
  is_lag = d.is_lag;
  soon = let s = d.soon in omega arith;
  holds = d.holds;
  least = d.least;
}

-- ---- what a tree's registers hold

pub segment_places : (depth level j : ℕ) (terms : List Term) → All (λ (u : Term). u.index < depth) terms → All (λ (u : Term). u.index < depth) (term_segment level j terms)
segment_places depth level j terms places = All-take (λ (u : Term). u.index < depth) (2 ^ level) (drop (j * 2 ^ level) terms) (All-drop (λ (u : Term). u.index < depth) (j * 2 ^ level) terms places)

pub AreShown-later : {streams : Streams} {old new : List Cell} {from : Stream} {readings : List Reading} {ticks : ℕ} {nodes : List Node} → Extends old new → AreShown streams old from readings ticks nodes → AreShown streams new from readings ticks nodes
AreShown-later e s = record { many = s.many; each = λ k node is. HoldsForm-later e (s.each k node is) }

module _ {mid new : NetView} {from : Stream} {nodes : List Node} {readings : List Reading} {ticks : ℕ} {held : List Held} {registers : List Node} {root : Node} {levels : ℕ} {terms : List Term} (streams : Streams) (causal : AreCausal streams) (positive : 1 ≤ from.period)
    (shown : AreShown streams mid.cells from readings ticks nodes) (places : All (λ (u : Term). u.index < length readings) terms) (t : AddsTree streams mid new nodes readings ticks terms levels held registers root) where
  later : AreShown streams new.cells from readings ticks nodes
  later = AreShown-later t.tree.grows.extends shown

  tree_holds : (level j : ℕ) (node : Node) → level < levels → j < level_count (length terms) (suc level) → slice_get registers (count_to (length terms) level + j) ≡ Some node
      → HoldsForm streams new.cells from (form_of readings (term_segment (suc level) j terms)) (ticks + suc level) node
  tree_holds level j node low within is =
      HoldsForm-by streams new.cells from (form_of readings part) (ticks + suc level) node positive
      (λ cut law x values v in_streams run carried t early.
      held_at cut law x values v in_streams run carried t
      ∙ delayed_early (suc level) ticks t (λ s. held_sum values s (segment (suc level) j leaves))
      (λ s soon. ap (held_sum values s) (segment-leaves nodes (suc level) j terms) ∙ held_early streams causal positive later cut law x values run v in_streams carried part part_places s soon) early)
      (λ cut law x values v in_streams run carried s count is_taken.
      let tick : s + (ticks + suc level) ≡ s + ticks + suc level = omega arith in
      ap (λ (n : ℕ). values n node.place) tick
      ∙ held_at cut law x values v in_streams run carried (s + ticks + suc level) ∙ delayed_later (suc level) (s + ticks) (λ u. held_sum values u (segment (suc level) j leaves))
      ∙ ap (held_sum values (s + ticks)) (segment-leaves nodes (suc level) j terms)
      ∙ held_is streams causal positive later cut law x values run v in_streams carried part part_places s count is_taken)
    where
      leaves : List Leaf
      leaves = map (leaf_of nodes) terms

      part : List Term
      part = term_segment (suc level) j terms

      part_places : All (λ (u : Term). u.index < length readings) (term_segment (suc level) j terms)
      part_places = segment_places (length readings) (suc level) j terms places

      many : length (map (leaf_of nodes) terms) ≡ length terms
      many = length-map terms (leaf_of nodes)

      held_at : (cut : Cut) → IsCut cut → (x : ℕ → ℤ) (values : Values) (v : Sequence) → streams v → IsRun cut new.cells x values → Carries values from v → (u : ℕ) → values u node.place ≡ delayed (suc level) u (λ s. held_sum values s (segment (suc level) j (map (leaf_of nodes) terms)))
      held_at cut law x values v in_streams run carried u =
          let fits = sums_fit streams causal positive later cut law x values run v in_streams carried terms levels t.widths places t.least in
          t.tree.held.holds cut law x values run fits level j node low (subst (λ (n : ℕ). j < level_count n (suc level)) (sym many) within) (subst (λ (n : ℕ). slice_get registers (count_to n level + j) ≡ Some node) (sym many) is) u

  -- the root is the sum of all terms
  pub tree_root : (cut : Cut) → IsCut cut → (x : ℕ → ℤ) (values : Values) (v : Sequence) → streams v → IsRun cut new.cells x values → Carries values from v
      → (s count : ℕ) → HasTaken from.period from.offset count s → values (s + ticks + levels) root.place ≡ term_sum (shown_by readings (λ i. v (pos count -ℤ pos 1 -ℤ pos i))) terms
  tree_root cut law x values v in_streams run carried s count is_taken =
      let fits = sums_fit streams causal positive later cut law x values run v in_streams carried terms levels t.widths places t.least in
      t.tree.sums cut law x values run fits (s + ticks + levels) ∙ delayed_later levels (s + ticks) (λ u. signed_sum values u (map (leaf_of nodes) terms))
      ∙ sum_is streams causal positive later cut law x values run v in_streams carried terms places s count is_taken

  pub tree_many : length registers ≡ length (tree_sums readings ticks terms levels)
  tree_many = t.tree.held.count ∙ ap (λ (n : ℕ). count_to n levels) (length-map terms (leaf_of nodes)) ∙ sym (length-tree_sums every (suc ticks) readings terms levels)

  pub tree_due : (depth : ℕ) → All (ReadsWithin depth) readings → (count k : ℕ) (s : HeldSum) (node : Node) → IsCounted mid.cells mid.group Register count → slice_get (tree_sums readings ticks terms levels) k ≡ Some s → slice_get registers k ≡ Some node
      → IsDue streams new.cells from depth (ticks + levels) mid.group (name_of mid.group Register (count + k)) s node
  tree_due depth reads count k s node counted is there =
      let inside = slice_get_within (tree_sums readings ticks terms levels) k s is in
      let long = length-tree_sums every (suc ticks) readings terms levels in
      let at = stands (length terms) levels k (omega (arith, inside, long)) in
      let part = term_segment (suc at.level) at.j terms in
      let form = form_of readings part in
      let same : tree_sum every (suc ticks) readings terms at.level at.j ≡ s = same_some (subst (λ (n : ℕ). slice_get (tree_sums readings ticks terms levels) n ≡ Some (tree_sum every (suc ticks) readings terms at.level at.j)) (sym at.at) (tree_sums-at every (suc ticks) readings terms levels at.level at.j at.low at.within)) is in
      let here : slice_get registers (count_to (length terms) at.level + at.j) ≡ Some node = subst (λ (n : ℕ). slice_get registers n ≡ Some node) at.at there in
      let low = at.low in
      subst (λ (z : HeldSum). IsDue streams new.cells from depth (ticks + levels) mid.group (name_of mid.group Register (count + k)) z node) same
      (record {
        width = get_or t.widths k 0;
        register = t.tree.named count counted k node there;
        is_class = refl;
        short = short_weights depth (all_minus part) (spread readings part) (within_spread depth readings part reads (segment_places (length readings) (suc at.level) at.j terms places));
        ticks = ticks + suc at.level;
        is_lag = omega arith;
        soon = omega arith;
        holds = tree_holds at.level at.j node at.low at.within here;
        least = subst (λ (n : ℕ). IsFormWidth streams form (get_or t.widths n 0)) (sym at.at) (t.least.each at.level at.j at.low at.within);
      })
    where
      same_some : {a b : HeldSum} → slice_get (tree_sums readings ticks terms levels) k ≡ Some a → slice_get (tree_sums readings ticks terms levels) k ≡ Some b → a ≡ b
      same_some p q = cc

-- ---- the window

-- a register of a window holds the value that came so many values before
pub window_holds : {cells : List Cell} {from : Stream} {window : List Node} (streams : Streams) → AreCausal streams → 1 ≤ from.period → IsCutWindow streams cells from window → (age : ℕ) (node : Node) → slice_get window age ≡ Some node → (form : List ℤ) → ((f : ℕ → ℤ) → weighted_sum form f ≡ f age) → HoldsForm streams cells from form 0 node
window_holds {cells} {from} {window} streams causal positive w age node is form alone =
    HoldsForm-by streams cells from form 0 node positive (λ cut law x values v is_one run carried t h. absurd (omega arith))
    (λ cut law x values v is_one run carried s count is_taken.
    let none : s + 0 ≡ s = omega arith in
    let taken' : HasTaken w.taken.period w.taken.offset count s = subst (λ (p : ℕ). HasTaken p w.taken.offset count s) (sym w.period) (subst (λ (o : ℕ). HasTaken from.period o count s) (sym w.offset) is_taken) in
    ap (λ (n : ℕ). values n node.place) none
    ∙ (w.holds age node is).holds cut law x values run s count taken'
    ∙ taken_value-stream (shown values w.taken) v (w.carries cut law x values v is_one run carried) (λ n. causal.each v is_one n) count age
    ∙ sym (alone (λ i. v (pos count -ℤ pos 1 -ℤ pos i))))

pub window_due : {old new : NetView} {from : Stream} {window : List Node} (streams : Streams) (levels : ℕ) → AreCausal streams → 1 ≤ from.period → AddsWindow streams old new from window
    → (age : ℕ) (node : Node) → slice_get window age ≡ Some node → (range : Range) → IsRange streams (unit_form age) every range → IsDue streams new.cells from (length window) levels old.group (name_of old.group Window age) (window_sum age) node
window_due {old} {new} {from} {window} streams levels causal positive w age node is range known =
    let inside = slice_get_within window age node is in
    record {
      width = w.wide.width;
      register = w.registers age node is;
      is_class = refl;
      short = let l = length-unit_form age in omega (arith, l, inside);
      ticks = 0;
      is_lag = refl;
      soon = omega arith;
      holds = window_holds streams causal positive w.window age node is (unit_form age) (unit_form-sum age);
      least = unit_form-width streams causal age w.wide.width w.wide.least range known;
    }
