-- A window, registers over its pairs and a tree realise a filter with mirrored taps before a Down.
use Rattle.std.proofs.Common.{◌≡◌, ℕ, suc, ◌+◌, ◌-◌, ◌*◌, ◌<◌, ◌≤◌, List, ◌++◌, length, length-append, map, refl, sym, ◌∙◌, ap, arith, subst, inl, inr, ℤ, pos, ◌-ℤ◌, ◌*ℤ◌, All, Some, slice_get}
use Rattle.std.proofs.lemmas.Bool.{cases_lt}
use Rattle.std.proofs.lemmas.Int.{ints}
use Rattle.std.proofs.lemmas.List.{length-map}
use Rattle.std.proofs.lemmas.Option.{slice_get-get_or, slice_get_within}
use Rattle.mr_values.proofs.Polyphase.{weighted_sum-same}
use Rattle.net_graph.specs.declared.cell.Node.{Node}
use Rattle.net_graph.specs.declared.cell.Stream.{Stream}
use Rattle.net_graph.specs.declared.name.NameKind.{NameKind}
use Rattle.net_graph.specs.declared.name.NameKind.TheVariants.{Control, Window, PreAdder, Register}
use Rattle.net_graph.specs.Cells.{NetView}
use Rattle.net_graph.specs.Count.{adders_in, windows_in}
use Rattle.net_graph.specs.Cut.{Cut, IsCut, cut_all, cut_control}
use Rattle.net_graph.specs.Depth.{IsPlain, IsShallow}
use Rattle.net_graph.specs.Grow.{Extends}
use Rattle.net_graph.specs.WellFormed.{IsBound, IsFree}
use Rattle.net_graph.proofs.CutLemmas.{IsCut-all, IsCut-control}
use Rattle.net_graph.proofs.DepthLemmas.{IsShallow-none}
use Rattle.net_graph.proofs.GrowLemmas.{Grows-trans}
use Rattle.net_graph.proofs.NetLemmas.{Extends-trans}
use Rattle.signed_digit.specs.declared.term_list.Term.{Term}
use Rattle.pipeline_balance.specs.Gate.{HasTaken}
use Rattle.pipeline_balance.specs.Numbered.{IsCounted, IsTouched, LeavesFree, name_of}
use Rattle.pipeline_balance.specs.Shallow.{ArePlain}
use Rattle.pipeline_balance.specs.Tree.{tree_adders}
use Rattle.pipeline_balance.proofs.NumberedLemmas.{LeavesFree-trans, IsCounted-leaves}
use Rattle.pipeline_balance.proofs.ShallowLemmas.{shallow_more, ArePlain-later}
use Rattle.pipeline_balance.proofs.ShapeLemmas.{KeepsShapes-trans}
use Rattle.stage_law.specs.Realises.{Realises, CarriesThrough, IsUnused}
use Rattle.stage_law.specs.Registers.{HeldSum}
use Rattle.stage_law.specs.Streams.{Streams, AreCausal}
use Rattle.stage_law.specs.declared.stage.Emitted.{Emitted}
use Rattle.fir_pieces.specs.declared.held.Held.{Held}
use Rattle.fir_pieces.specs.declared.reading.Reading.{Reading}
use Rattle.fir_pieces.specs.declared.reading.Reading.TheVariants.{One}
use Rattle.fir_pieces.specs.Cutting.{AddsWindow, IsCutWindow}
use Rattle.fir_pieces.specs.Form.{reading_form}
use Rattle.fir_pieces.specs.Held.{AreHeld}
use Rattle.fir_pieces.specs.Listed.{window_sums, reading_sum, reading_sums, tree_sums}
use Rattle.fir_pieces.specs.Peaks.{HoldsForm, IsDue, peaks_at}
use Rattle.fir_pieces.specs.Placed.{leaf_of}
use Rattle.fir_pieces.specs.Reading.{ReadsWithin, reading_at, all_adders}
use Rattle.fir_pieces.specs.Readers.{AddsReaders}
use Rattle.fir_pieces.specs.Sums.{AreShown}
use Rattle.fir_pieces.proofs.DueLemmas.{HoldsForm-later, IsDue-later, IsDue-soon, tree_root, tree_due, tree_many}
use Rattle.fir_pieces.proofs.LeastLemmas.{IsOwn, IsPart, own_names, window_part, has_registers}
use Rattle.fir_pieces.proofs.ListLemmas.{beside, slice_get-append_first, slice_get_past}
use Rattle.fir_pieces.proofs.ReadersLemmas.{IsCutWindow-later}
use Rattle.fir_pieces.proofs.TreeLemmas.{tree_adders-terms, plain_leaves}
use Rattle.fir_pieces.proofs.WidthsLemmas.{AreHeld-append, slice_get_some, slice_get_mapped}
use Rattle.symmetric_fir.specs.Facts.{mirror_facts, elements_of, levels_of, later_sums}
use Rattle.symmetric_fir.specs.Front.{AddsSums}
use Rattle.symmetric_fir.specs.Pairs.{IsMirrored, pairs, centres, readings, mirror_terms}
use Rattle.symmetric_fir.proofs.PairLemmas.{mirror_sum, readings_within, pair_adders, centre_adders, terms_within}
use Rattle.symmetric_fir.proofs.SmallLemmas.{registers_small}

-- a tick after that of value k
taken_at : (period first k : ℕ) → 1 ≤ period → HasTaken period first (suc k) (suc (first + k * period))
taken_at period first k some = (omega arith, omega arith)

module _ {old first new : NetView} {from : Stream} {window pair_nodes registers : List Node} {pair_held held values : List Held} {root : Node} {levels : ℕ} (streams : Streams) (anti : ℕ) (taps : List ℤ) (down : ℕ) (mirrored : IsMirrored anti taps) (causal : AreCausal streams) (positive : 1 ≤ from.period)
    (data_group : 1 ≤ old.group) (unused : IsUnused old.cells old.group) (w : AddsWindow streams old first from window) (long : length taps ≡ length window) (s : AddsSums streams first new window anti taps levels pair_held held pair_nodes registers root) (levels_are : levels ≡ levels_of taps)
    (values_held : AreHeld streams (window_sums (length taps)) values) where
  a : AddsReaders streams first s.front.between window PreAdder (pairs anti taps) pair_held pair_nodes
  a = s.front.pairs_added

  b : AddsReaders streams s.front.between s.middle window Register (centres taps) s.centre_held s.centre_nodes
  b = s.front.centres_added

  g1 : first.group ≡ old.group
  g1 = w.grows.group

  g2 : s.front.between.group ≡ old.group
  g2 = a.grows.group ∙ g1

  g3 : s.middle.group ≡ old.group
  g3 = b.grows.group ∙ g2

  later_window : IsCutWindow streams s.front.between.cells from window
  later_window = IsCutWindow-later streams a.grows.extends w.window

  nodes_many : length (pair_nodes ++ s.centre_nodes) ≡ length (readings anti taps)
  nodes_many =
      let x = length-append pair_nodes s.centre_nodes in
      let y = length-append (pairs anti taps) (centres taps) in
      let p = a.many in
      let q = b.many in
      omega (arith, x, y, p, q)

  -- the nodes under the tree show the readings
  shown : AreShown streams s.middle.cells from (readings anti taps) 1 (pair_nodes ++ s.centre_nodes)
  shown = record {
    many = nodes_many;
    each = λ k node there.
        let inside = slice_get_within (pair_nodes ++ s.centre_nodes) k node there in
        beside (λ (r : Reading) (n : Node). HoldsForm streams s.middle.cells from (reading_form r) 1 n) (pairs anti taps) (centres taps) pair_nodes s.centre_nodes (sym a.many)
        (λ i r n is at. HoldsForm-later b.grows.extends (a.shows from positive w.window i r n is at))
        (λ i r n is at. b.shows from positive later_window i r n is at)
        k (reading_at (readings anti taps) k) node (slice_get-get_or (readings anti taps) k (One 0) (omega (arith, inside, nodes_many))) there;
  }

  places : All (λ (t : Term). t.index < length (readings anti taps)) (mirror_terms taps)
  places = terms_within anti taps

  -- ---- values

  through : (cut : Cut) → IsCut cut → CarriesThrough cut streams (elements_of taps down) new.cells from (record { node = root; period = from.period * down; offset = from.offset + 2 + levels })
  through cut law x vs v in_streams run carried n =
      let k = n * down in
      let t = suc (from.offset + k * from.period) in
      let f : ℕ → ℤ = λ i. v (pos (suc k) -ℤ pos 1 -ℤ pos i) in
      let tick : from.offset + 2 + levels + n * (from.period * down) ≡ t + 1 + levels = omega arith in
      let at : (i : ℕ) → pos (suc k) -ℤ pos 1 -ℤ pos i ≡ pos n *ℤ pos down -ℤ pos i = λ i. omega (arith, ints) in
      ap (λ (u : ℕ). vs u root.place) tick
      ∙ tree_root streams causal positive shown places s.tree cut law x vs v in_streams run carried t (suc k) (taken_at from.period from.offset k positive)
      ∙ mirror_sum anti taps f mirrored
      ∙ weighted_sum-same taps f (λ i. v (pos n *ℤ pos down -ℤ pos i)) (λ i. ap v (at i))

  -- ---- names

  no_kind : (kind other : NameKind) → (other ≡ kind → ⊥) → (other ≡ Control → ⊥) → (by_group group number : ℕ) → IsTouched by_group kind (name_of group other number) → ⊥
  no_kind kind other apart control by_group group number (inl h) = apart h.1
  no_kind kind other apart control by_group group number (inr h) = control h

  none_of : (kind : NameKind) → (kind ≡ Window → ⊥) → (kind ≡ Control → ⊥) → ((number : ℕ) → IsFree old.cells (name_of old.group kind number)) → IsCounted first.cells old.group kind 0
  none_of kind apart control free = IsCounted-leaves old.group kind 0 w.grows.extends w.names (λ number. no_kind Window kind apart control old.group old.group number) (record { used = λ number less f. absurd (omega arith); free = λ number more. free number })

  pair_count : IsCounted first.cells first.group PreAdder 0
  pair_count = subst (λ (g : ℕ). IsCounted first.cells g PreAdder 0) (sym g1) (none_of PreAdder (λ e. absurd (cc)) (λ e. absurd (cc)) (λ number. unused.free PreAdder number))

  centre_count : IsCounted s.front.between.cells s.front.between.group Register 0
  centre_count =
      subst (λ (g : ℕ). IsCounted s.front.between.cells g Register 0) (sym a.grows.group)
      (IsCounted-leaves first.group Register 0 a.grows.extends a.names (λ number. no_kind PreAdder Register (λ e. absurd (cc)) (λ e. absurd (cc)) first.group first.group number)
      (subst (λ (g : ℕ). IsCounted first.cells g Register 0) (sym g1) (none_of Register (λ e. absurd (cc)) (λ e. absurd (cc)) (λ number. unused.free Register number))))

  tree_count : IsCounted s.middle.cells s.middle.group Register (length (centres taps))
  tree_count =
      let from_none : 0 + length (centres taps) ≡ length (centres taps) = omega arith in
      subst (λ (g : ℕ). IsCounted s.middle.cells g Register (length (centres taps))) (sym b.grows.group) (subst (λ (n : ℕ). IsCounted s.middle.cells s.front.between.group Register n) from_none (b.counted 0 centre_count))

  -- ---- registers

  after_pairs : Extends s.front.between.cells new.cells
  after_pairs = Extends-trans s.front.between.cells s.middle.cells new.cells b.grows.extends s.tree.tree.grows.extends

  after_window : Extends first.cells new.cells
  after_window = Extends-trans first.cells s.front.between.cells new.cells a.grows.extends after_pairs

  same_sum : (sums : List HeldSum) (k : ℕ) (x y : HeldSum) → slice_get sums k ≡ Some x → slice_get sums k ≡ Some y → x ≡ y
  same_sum sums k x y p q = cc

  -- what a list of readings holds there
  reading_there : (rs : List Reading) (k : ℕ) (h : HeldSum) → slice_get (reading_sums rs) k ≡ Some h → (r : Reading) × (slice_get rs k ≡ Some r) × (h ≡ reading_sum r)
  reading_there rs k h is =
      let inside = slice_get_within (reading_sums rs) k h is in
      let many = length-map rs reading_sum in
      let r = slice_get_some rs k (omega (arith, inside, many)) in
      (r.0, r.1, same_sum (reading_sums rs) k h (reading_sum r.0) is (slice_get_mapped reading_sum rs k r.0 r.1))

  windows_part : IsPart streams new.cells old.group from (length window) (1 + levels) Window (window_sums (length taps)) window values
  windows_part =
      window_part streams (1 + levels) causal positive w after_window long values_held
      (IsCounted-leaves old.group Window (length window) s.tree.tree.grows.extends s.tree.tree.names (λ number. no_kind Register Window (λ e. absurd (cc)) (λ e. absurd (cc)) s.middle.group old.group number)
      (IsCounted-leaves old.group Window (length window) b.grows.extends b.names (λ number. no_kind Register Window (λ e. absurd (cc)) (λ e. absurd (cc)) s.front.between.group old.group number)
      (IsCounted-leaves old.group Window (length window) a.grows.extends a.names (λ number. no_kind PreAdder Window (λ e. absurd (cc)) (λ e. absurd (cc)) first.group old.group number) w.counted)))

  pairs_part : IsPart streams new.cells old.group from (length window) (1 + levels) PreAdder (reading_sums (pairs anti taps)) pair_nodes pair_held
  pairs_part = record {
    many = a.many ∙ sym (length-map (pairs anti taps) reading_sum);
    are_held = a.held_are;
    due = λ k h node at there.
        let r = reading_there (pairs anti taps) k h at in
        let due = IsDue-later after_pairs (a.each from positive w.window 0 k r.0 node pair_count r.1 there) in
        subst (λ (z : HeldSum). IsDue streams new.cells from (length window) (1 + levels) old.group (name_of old.group PreAdder (0 + k)) z node) (sym r.2)
        (IsDue-soon (omega arith) (subst (λ (g : ℕ). IsDue streams new.cells from (length window) 1 g (name_of g PreAdder (0 + k)) (reading_sum r.0) node) g1 due));
    counted =
        let from_none : 0 + length (pairs anti taps) ≡ length (reading_sums (pairs anti taps)) = let m = length-map (pairs anti taps) reading_sum in omega (arith, m) in
        IsCounted-leaves old.group PreAdder (length (reading_sums (pairs anti taps))) s.tree.tree.grows.extends s.tree.tree.names (λ number. no_kind Register PreAdder (λ e. absurd (cc)) (λ e. absurd (cc)) s.middle.group old.group number)
        (IsCounted-leaves old.group PreAdder (length (reading_sums (pairs anti taps))) b.grows.extends b.names (λ number. no_kind Register PreAdder (λ e. absurd (cc)) (λ e. absurd (cc)) s.front.between.group old.group number)
        (subst (λ (n : ℕ). IsCounted s.front.between.cells old.group PreAdder n) from_none (subst (λ (g : ℕ). IsCounted s.front.between.cells g PreAdder (0 + length (pairs anti taps))) g1 (a.counted 0 pair_count))));
  }

  trees_many : length s.tree_registers ≡ length (tree_sums (readings anti taps) 1 (mirror_terms taps) levels)
  trees_many = tree_many streams causal positive shown places s.tree

  centre_due : (k : ℕ) (h : HeldSum) (node : Node) → slice_get (reading_sums (centres taps)) k ≡ Some h → slice_get s.centre_nodes k ≡ Some node → IsDue streams new.cells from (length window) (1 + levels) old.group (name_of old.group Register (0 + k)) h node
  centre_due k h node at there =
      let r = reading_there (centres taps) k h at in
      let due = IsDue-later s.tree.tree.grows.extends (b.each from positive later_window 0 k r.0 node centre_count r.1 there) in
      subst (λ (z : HeldSum). IsDue streams new.cells from (length window) (1 + levels) old.group (name_of old.group Register (0 + k)) z node) (sym r.2)
      (IsDue-soon (omega arith) (subst (λ (g : ℕ). IsDue streams new.cells from (length window) 1 g (name_of g Register (0 + k)) (reading_sum r.0) node) g2 due))

  sums_due : (k : ℕ) (h : HeldSum) (node : Node) → slice_get (tree_sums (readings anti taps) 1 (mirror_terms taps) levels) k ≡ Some h → slice_get s.tree_registers k ≡ Some node
      → IsDue streams new.cells from (length window) (1 + levels) old.group (name_of old.group Register (length (centres taps) + k)) h node
  sums_due k h node at there =
      subst (λ (g : ℕ). IsDue streams new.cells from (length window) (1 + levels) g (name_of g Register (length (centres taps) + k)) h node) g3
      (tree_due streams causal positive shown places s.tree (length window) (subst (λ (n : ℕ). All (ReadsWithin n) (readings anti taps)) long (readings_within anti taps)) (length (centres taps)) k h node tree_count at there)

  later_are : reading_sums (centres taps) ++ tree_sums (readings anti taps) 1 (mirror_terms taps) levels ≡ later_sums anti taps
  later_are = ap (λ (n : ℕ). reading_sums (centres taps) ++ tree_sums (readings anti taps) 1 (mirror_terms taps) n) levels_are

  centre_many : length (reading_sums (centres taps)) ≡ length s.centre_nodes
  centre_many = length-map (centres taps) reading_sum ∙ sym b.many

  both_part : IsPart streams new.cells old.group from (length window) (1 + levels) Register (reading_sums (centres taps) ++ tree_sums (readings anti taps) 1 (mirror_terms taps) levels) (s.centre_nodes ++ s.tree_registers) (s.centre_held ++ s.tree_held)
  both_part = record {
    many =
        let x = length-append s.centre_nodes s.tree_registers in
        let y = length-append (reading_sums (centres taps)) (tree_sums (readings anti taps) 1 (mirror_terms taps) levels) in
        let p = centre_many in
        let q = trees_many in
        omega (arith, x, y, p, q);
    are_held = AreHeld-append b.held_are s.tree.sums;
    due = λ k h node at there. elim (cases_lt k (length (reading_sums (centres taps)))) [
      | inl less ↦
          let p = centre_many in
          centre_due k h node (sym (slice_get-append_first (reading_sums (centres taps)) (tree_sums (readings anti taps) 1 (mirror_terms taps) levels) k less) ∙ at)
          (sym (slice_get-append_first s.centre_nodes s.tree_registers k (omega (arith, less, p))) ∙ there)
      | inr more ↦
          let p = centre_many in
          let m = length-map (centres taps) reading_sum in
          let n = k - length (reading_sums (centres taps)) in
          let name : length (centres taps) + n ≡ 0 + k = omega (arith, m, more) in
          let here = slice_get_past s.centre_nodes s.tree_registers k node (omega (arith, more, p)) there in
          subst (λ (i : ℕ). IsDue streams new.cells from (length window) (1 + levels) old.group (name_of old.group Register i) h node) name
          (sums_due n h node (slice_get_past (reading_sums (centres taps)) (tree_sums (readings anti taps) 1 (mirror_terms taps) levels) k h more at) (subst (λ (i : ℕ). slice_get s.tree_registers (k - i) ≡ Some node) (sym p) here))
    ];
    counted =
        let y = length-append (reading_sums (centres taps)) (tree_sums (readings anti taps) 1 (mirror_terms taps) levels) in
        let m = length-map (centres taps) reading_sum in
        let q = trees_many in
        let whole : length (centres taps) + length s.tree_registers ≡ length (reading_sums (centres taps) ++ tree_sums (readings anti taps) 1 (mirror_terms taps) levels) = omega (arith, y, m, q) in
        subst (λ (n : ℕ). IsCounted new.cells old.group Register n) whole (subst (λ (g : ℕ). IsCounted new.cells g Register (length (centres taps) + length s.tree_registers)) g3 (s.tree.tree.counted (length (centres taps)) tree_count));
  }

  later_part : IsPart streams new.cells old.group from (length window) (1 + levels) Register (later_sums anti taps) registers held
  later_part =
      subst (λ (sums : List HeldSum). IsPart streams new.cells old.group from (length window) (1 + levels) Register sums registers held) later_are
      (subst (λ (ns : List Node). IsPart streams new.cells old.group from (length window) (1 + levels) Register (reading_sums (centres taps) ++ tree_sums (readings anti taps) 1 (mirror_terms taps) levels) ns held) (sym s.registers_are)
      (subst (λ (hs : List Held). IsPart streams new.cells old.group from (length window) (1 + levels) Register (reading_sums (centres taps) ++ tree_sums (readings anti taps) 1 (mirror_terms taps) levels) (s.centre_nodes ++ s.tree_registers) hs) (sym s.held_are) both_part))

  touched : LeavesFree old.cells new.cells (IsOwn old.group)
  touched =
      LeavesFree-trans old.cells first.cells new.cells (IsTouched old.group Window) (IsOwn old.group) (IsOwn old.group) (λ name h. inl h) (λ name h. h) w.names
      (LeavesFree-trans first.cells s.front.between.cells new.cells (IsTouched first.group PreAdder) (IsOwn old.group) (IsOwn old.group) (λ name h. inr (inl (subst (λ (g : ℕ). IsTouched g PreAdder name) g1 h))) (λ name h. h) a.names
      (LeavesFree-trans s.front.between.cells s.middle.cells new.cells (IsTouched s.front.between.group Register) (IsTouched s.middle.group Register) (IsOwn old.group) (λ name h. inr (inr (subst (λ (g : ℕ). IsTouched g Register name) g2 h))) (λ name h. inr (inr (subst (λ (g : ℕ). IsTouched g Register name) g3 h))) b.names s.tree.tree.names))

  -- ---- depth

  plain_nodes : IsBound first.cells → ArePlain s.middle.cells s.middle.group (pair_nodes ++ s.centre_nodes)
  plain_nodes bound = record {
    each = λ k node there.
        let inside = slice_get_within (pair_nodes ++ s.centre_nodes) k node there in
        beside (λ (r : Reading) (n : Node). IsPlain s.middle.cells s.middle.group n.place) (pairs anti taps) (centres taps) pair_nodes s.centre_nodes (sym a.many)
        (λ i r n is at. subst (λ (g : ℕ). IsPlain s.middle.cells g n.place) (g1 ∙ sym g3) ((ArePlain-later s.front.between.cells s.middle.cells first.group pair_nodes (a.grows.bound bound) b.grows.extends (a.plain bound)).each i n at))
        (λ i r n is at. subst (λ (g : ℕ). IsPlain s.middle.cells g n.place) (g2 ∙ sym g3) ((b.plain (a.grows.bound bound)).each i n at))
        k (reading_at (readings anti taps) k) node (slice_get-get_or (readings anti taps) k (One 0) (omega (arith, inside, nodes_many))) there;
  }

  shallow_all : IsShallow old.cells old.group → IsShallow new.cells old.group
  shallow_all sh =
      let s1 : IsShallow first.cells old.group = shallow_more old.group data_group w.grows w.adders sh in
      let s1' : IsShallow first.cells first.group = subst (λ (g : ℕ). IsShallow first.cells g) (sym g1) s1 in
      let p1 : ArePlain first.cells first.group window = subst (λ (g : ℕ). ArePlain first.cells g window) (sym g1) w.plain in
      let s2 : IsShallow s.front.between.cells first.group = a.shallow s1' p1 in
      let s2' : IsShallow s.front.between.cells s.front.between.group = subst (λ (g : ℕ). IsShallow s.front.between.cells g) (sym a.grows.group) s2 in
      let p2 : ArePlain s.front.between.cells s.front.between.group window = subst (λ (g : ℕ). ArePlain s.front.between.cells g window) (sym a.grows.group) (ArePlain-later first.cells s.front.between.cells first.group window s1.bound a.grows.extends p1) in
      let s3 : IsShallow s.middle.cells s.front.between.group = b.shallow s2' p2 in
      let s3' : IsShallow s.middle.cells s.middle.group = subst (λ (g : ℕ). IsShallow s.middle.cells g) (sym b.grows.group) s3 in
      let below : All (λ (t : Term). t.index < length (pair_nodes ++ s.centre_nodes)) (mirror_terms taps) = subst (λ (n : ℕ). All (λ (t : Term). t.index < n) (mirror_terms taps)) (sym nodes_many) places in
      subst (λ (g : ℕ). IsShallow new.cells g) g3 (s.tree.tree.shallow.shallow s3' (record { each = plain_leaves s.middle.cells s.middle.group (pair_nodes ++ s.centre_nodes) (plain_nodes s1.bound) (mirror_terms taps) below }))

  -- ---- the stage

  pub Realises-mirror : (emitted : Emitted) → emitted.stream ≡ record { node = root; period = from.period * down; offset = from.offset + 2 + levels } → emitted.peaks.items ≡ peaks_at values window ++ (peaks_at pair_held pair_nodes ++ peaks_at held registers) → Realises (mirror_facts anti taps down) streams old new from emitted
  Realises-mirror emitted is peaks_are =
      let facts = mirror_facts anti taps down in
      record {
        grows = Grows-trans w.grows (Grows-trans a.grows (Grows-trans b.grows s.tree.tree.grows));
        within = rw is s.tree.tree.within;
        period = rw is (omega arith);
        offset = rw is (omega (arith, levels_are));
        carries = subst (λ (to : Stream). CarriesThrough cut_all streams facts.elements new.cells from to) (sym is) (through cut_all IsCut-all);
        whole = λ uncut. subst (λ (to : Stream). CarriesThrough cut_control streams facts.elements new.cells from to) (sym is) (through cut_control IsCut-control);
        adders =
            let one = w.adders.each old.group data_group in
            let two : adders_in old.group s.front.between.cells ≡ adders_in old.group first.cells + all_adders (pairs anti taps) = subst (λ (g : ℕ). adders_in g s.front.between.cells ≡ adders_in g first.cells + all_adders (pairs anti taps)) g1 a.adders in
            let three : adders_in old.group s.middle.cells ≡ adders_in old.group s.front.between.cells + all_adders (centres taps) = subst (λ (g : ℕ). adders_in g s.middle.cells ≡ adders_in g s.front.between.cells + all_adders (centres taps)) g2 b.adders in
            let four : adders_in old.group new.cells ≡ adders_in old.group s.middle.cells + tree_adders (map (leaf_of (pair_nodes ++ s.centre_nodes)) (mirror_terms taps)) =
            subst (λ (g : ℕ). adders_in g new.cells ≡ adders_in g s.middle.cells + tree_adders (map (leaf_of (pair_nodes ++ s.centre_nodes)) (mirror_terms taps))) g3 s.tree.tree.adders in
            let pairs_are = pair_adders anti taps in
            let centres_are = centre_adders taps in
            let terms_are = tree_adders-terms (pair_nodes ++ s.centre_nodes) (mirror_terms taps) in
            omega (arith, one, two, three, four, pairs_are, centres_are, terms_are);
        windows = s.tree.tree.same_named.windows old.group ∙ b.named_same.windows old.group ∙ a.named_same.windows old.group ∙ w.windows ∙ ap (λ (n : ℕ). windows_in old.group old.cells + n) (sym long);
        tables = s.tree.tree.same_named.tables old.group ∙ b.named_same.tables old.group ∙ a.named_same.tables old.group ∙ w.tables ∙ omega arith;
        own_tables = λ some. absurd (omega (arith, some));
        names = record { free = λ name other f. touched.free name (λ own. other (own_names old.group name own)) f };
        shallow = λ bound none. shallow_all (IsShallow-none old.cells old.group bound none);
        shapes = λ kind. (KeepsShapes-trans w.linear (KeepsShapes-trans a.linear (KeepsShapes-trans b.linear s.tree.tree.shallow.linear))).each old.group data_group;
        alike = λ kind. absurd (cc);
        registers = λ linear.
            has_registers old.cells positive windows_part pairs_part later_part touched unused facts refl (omega (arith, levels_are)) (omega (arith, long)) (registers_small anti taps mirrored) emitted.peaks.items peaks_are;
      }
