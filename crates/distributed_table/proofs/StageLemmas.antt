-- The bits of a window, the registers of all runs and their sum realise a filter before a Down.
use Rattle.std.proofs.Common.{◌≡◌, ℕ, zero, suc, ◌+◌, ◌*◌, ◌^◌, ◌<◌, ◌≤◌, List, [], ◌∷◌, length, sym, ◌∙◌, ap, arith, subst, inl, inr, Bool, false, cond, Some, slice_get, ℤ, pos, negsuc, ◌-ℤ◌, ◌*ℤ◌, ◌≤ℤ◌}
use Rattle.std.proofs.lemmas.Int.{ints}
use Rattle.mr_values.specs.Sequence.{Sequence, weighted_sum}
use Rattle.mr_values.specs.Timing.{low_end}
use Rattle.mr_values.specs.Width.{FitsWidth, IsLeastWidth}
use Rattle.net_graph.specs.declared.cell.Leaf.{Leaf}
use Rattle.net_graph.specs.declared.cell.Node.{Node}
use Rattle.net_graph.specs.declared.cell.Stream.{Stream}
use Rattle.net_graph.specs.declared.name.Name.{Name}
use Rattle.net_graph.specs.declared.name.NameKind.TheVariants.{Register}
use Rattle.net_graph.specs.Cells.{NetView}
use Rattle.net_graph.specs.Count.{adders_in, tables_in, windows_in}
use Rattle.net_graph.specs.Cut.{Cut, IsCut, cut_all, cut_control}
use Rattle.net_graph.specs.Depth.{IsShallow}
use Rattle.net_graph.specs.Run.{Values, IsRun}
use Rattle.net_graph.proofs.CutLemmas.{IsCut-all, IsCut-control}
use Rattle.net_graph.proofs.DepthLemmas.{IsShallow-none}
use Rattle.net_graph.proofs.GrowLemmas.{Grows-trans}
use Rattle.pipeline_balance.specs.Gate.{Carries, HasTaken, taken_value}
use Rattle.pipeline_balance.specs.Leaves.{leaf_value, signed_by}
use Rattle.pipeline_balance.specs.Numbered.{IsTouched, LeavesFree}
use Rattle.pipeline_balance.specs.Tree.{SumsFitAt, tree_adders}
use Rattle.pipeline_balance.proofs.NumberedLemmas.{LeavesFree-trans}
use Rattle.pipeline_balance.proofs.ShallowLemmas.{plain_register, shallow_same}
use Rattle.pipeline_balance.proofs.TakenLemmas.{taken_value-same}
use Rattle.bit_serial.specs.Ends.{AllWithin}
use Rattle.bit_serial.specs.Serial.{AllFit}
use Rattle.bit_serial.specs.Tables.{run}
use Rattle.bit_serial.proofs.BitLemmas.{cuts_law}
use Rattle.bit_serial.proofs.SerialLemmas.{weighted_sum-below}
use Rattle.bit_serial.proofs.TableLemmas.{shows_law}
use Rattle.stage_law.specs.Realises.{CarriesThrough, IsOwnName, Realises}
use Rattle.stage_law.specs.Streams.{AreCausal, Streams}
use Rattle.stage_law.specs.declared.ranges.Range.{Range}
use Rattle.stage_law.specs.declared.stage.Emitted.{Emitted}
use Rattle.distributed_table.specs.Around.{IsAround}
use Rattle.distributed_table.specs.Copies.{node_at}
use Rattle.distributed_table.specs.Facts.{HaveBits, TakesBits, distributed_facts, levels_of, runs_of}
use Rattle.distributed_table.specs.Parts.{KeepsTheBits}
use Rattle.distributed_table.specs.Runs.{AddsRuns, IsBelow, IsRunReady, Pace, serial_of}
use Rattle.distributed_table.specs.Shown.{AddsShown, IsShownName}
use Rattle.distributed_table.specs.Totals.{AddsTotal}
use Rattle.distributed_table.proofs.OwnTableLemmas.{HasTables-grown}
use Rattle.distributed_table.proofs.TotalLemmas.{AreAdded, are_added, registers_fit, some_added, total_is}

-- ---- both cuts keep bits

keeps_all : KeepsTheBits cut_all
keeps_all = record { copies = λ width some. (cuts_law width some).0; shows = λ bit less. (shows_law bit less).1 }

keeps_control : KeepsTheBits cut_control
keeps_control = record { copies = λ width some. (cuts_law width some).1; shows = λ bit less. (shows_law bit less).0 }

-- ---- values that were taken

taken_is : (streams : Streams) (v : Sequence) → AreCausal streams → streams v → (taken age : ℕ) → taken_value (λ k. v (pos k)) taken age ≡ v (pos taken -ℤ pos 1 -ℤ pos age)
taken_is streams v causal is zero age = let at : pos zero -ℤ pos 1 -ℤ pos age ≡ negsuc age = omega (arith, ints) in sym (ap v at ∙ causal.each v is age)
taken_is streams v causal is (suc k) zero = let at : pos k ≡ pos (suc k) -ℤ pos 1 -ℤ pos zero = omega (arith, ints) in ap v at
taken_is streams v causal is (suc k) (suc age) = let at : pos k -ℤ pos 1 -ℤ pos age ≡ pos (suc k) -ℤ pos 1 -ℤ pos (suc age) = omega (arith, ints) in taken_is streams v causal is k age ∙ ap v at

taken_at : (period first k : ℕ) → 1 ≤ period → HasTaken period first (suc k) (suc (first + k * period))
taken_at period first k some = (omega arith, omega arith)

-- ---- leaves

leaf_plain : (values : Values) (t : ℕ) (leaf : Leaf) → leaf.place ≡ 0 → leaf.negative ≡ false → leaf_value values t leaf ≡ values t leaf.node.place
leaf_plain values t leaf whole added =
    ap (λ (b : Bool). signed_by b (values t leaf.node.place *ℤ pos (2 ^ leaf.place))) added ∙ ap (λ (p : ℕ). values t leaf.node.place *ℤ pos (2 ^ p)) whole ∙ once (values t leaf.node.place)
  where
    once : (z : ℤ) → z *ℤ pos (2 ^ 0) ≡ z
    once z = omega (arith, ints)

added_adders : (leaves : List Leaf) → 1 ≤ length leaves → AreAdded leaves → tree_adders leaves + 1 ≡ length leaves
added_adders [] some added = absurd (omega arith)
added_adders (leaf ∷ leaves) some added = let e = ap (λ (b : Bool). cond b (suc (length leaves)) (length leaves)) (some_added (leaf ∷ leaves) some added) in omega (arith, e)

module _ {old first middle new : NetView} {from : Stream} {highs : List Node} {begin root : Node} {leaves : List Leaf} {levels width bits down : ℕ} {values : Range} (streams : Streams) (size : ℕ) (taps : List ℤ) (causal : AreCausal streams) (have : HaveBits streams bits) (around : IsAround streams values)
    (takes : TakesBits down bits from.period) (some_bits : 1 ≤ bits) (data_group : 1 ≤ old.group) (some_runs : 1 ≤ runs_of size taps) (covers : length taps ≤ runs_of size taps * size) (levels_are : levels ≡ levels_of size taps) (s : AddsShown old first from (length taps) down bits highs begin)
    (of_runs : (pace : Pace) (window : List Node) (bits : ℕ) → IsRunReady first.cells pace bits window highs begin → AddsRuns first middle (serial_of taps size bits values) pace window highs (runs_of size taps) leaves) (total : AddsTotal middle new leaves levels width root) (wide : 1 ≤ width)
    (least : IsLeastWidth (low_end taps values.lo values.hi) (low_end taps values.hi values.lo) width) where
  pace : Pace
  pace = record { period = from.period * down; start = from.offset + 1 }

  runs : AddsRuns first middle (serial_of taps size bits values) (record { period = from.period * down; start = from.offset + 1 }) s.window highs (runs_of size taps) leaves
  runs = of_runs (record { period = from.period * down; start = from.offset + 1 }) s.window bits (s.ready some_bits takes.enough)

  g1 : first.group ≡ old.group
  g1 = s.grows.group

  g2 : middle.group ≡ old.group
  g2 = runs.part.grows.group ∙ g1

  leaves_added : AreAdded leaves
  leaves_added = are_added leaves (λ k leaf there. (runs.each k leaf there).added)

  leaves_cover : length taps ≤ length leaves * size
  leaves_cover = let many = ap (λ (n : ℕ). n * size) runs.many in omega (arith, many, covers)

  -- ---- values

  module _ (cut : Cut) (law : IsCut cut) (keeps : KeepsTheBits cut) (inputs : ℕ → ℤ) (vs : Values) (v : Sequence) (is : streams v) (r : IsRun cut new.cells inputs vs) (carried : Carries vs from v) (n : ℕ) where
    in_middle : IsRun cut middle.cells inputs vs
    in_middle = total.tree.grows.extends.runs cut law inputs vs r

    in_first : IsRun cut first.cells inputs vs
    in_first = runs.part.grows.extends.runs cut law inputs vs in_middle

    abbrev seen : ℕ → ℤ
    seen k = vs (from.offset + 1 + n * (from.period * down)) (node_at s.window k).place

    cut_shows : (m : ℕ) → vs (from.offset + m * from.period) s.cut.place ≡ v (pos m)
    cut_shows m = s.narrowed cut law inputs vs in_first (from.offset + m * from.period) ∙ ap (cut false bits) (carried m) ∙ law.fitting false bits (v (pos m)) some_bits (have.each v is (pos m))

    numbers : (k : ℕ) → k < length taps → seen k ≡ v (pos n *ℤ pos down -ℤ pos k)
    numbers k inside =
        let tick : from.offset + 1 + n * (from.period * down) ≡ suc (from.offset + n * down * from.period) = omega arith in
        let at : pos (suc (n * down)) -ℤ pos 1 -ℤ pos k ≡ pos n *ℤ pos down -ℤ pos k = omega (arith, ints) in
        ap (λ (t : ℕ). vs t (node_at s.window k).place) tick ∙ (s.holds k inside).holds cut law inputs vs in_first (suc (from.offset + n * down * from.period)) (suc (n * down)) (taken_at from.period from.offset (n * down) takes.some)
        ∙ taken_value-same (λ (m : ℕ). vs (from.offset + m * from.period) s.cut.place) (λ (m : ℕ). v (pos m)) cut_shows (suc (n * down)) k ∙ taken_is streams v causal is (suc (n * down)) k ∙ ap v at

    fits : AllFit bits taps seen
    fits k inside = subst (FitsWidth bits) (sym (numbers k inside)) (have.each v is (pos n *ℤ pos down -ℤ pos k))

    within : AllWithin taps values.lo values.hi seen
    within k inside =
        let z : ℤ = pos n *ℤ pos down -ℤ pos k in
        (subst (λ (y : ℤ). values.lo ≤ℤ y) (sym (numbers k inside)) (around.low v is z), subst (λ (y : ℤ). y ≤ℤ values.hi) (sym (numbers k inside)) (around.high v is z))

    abbrev due : ℕ
    due = from.offset + 1 + n * (from.period * down) + (bits + 1)

    each_run : (k : ℕ) (leaf : Leaf) → slice_get leaves k ≡ Some leaf → leaf_value vs due leaf ≡ weighted_sum (run size taps k) (λ i. seen (k * size + i))
    each_run k leaf there = let own = runs.each k leaf there in leaf_plain vs due leaf own.whole own.added ∙ own.sums cut law keeps inputs vs in_middle n fits within

    registers : SumsFitAt cut vs leaves total.widths levels due
    registers = registers_fit vs due size taps seen values.lo values.hi around.negative around.positive within leaves each_run leaves_cover cut law width levels total.widths wide least leaves_added total.many total.alike

    pub given : vs (from.offset + (2 + bits + levels) + n * (from.period * down)) root.place ≡ weighted_sum taps (λ k. v (pos n *ℤ pos down -ℤ pos k))
    given =
        let tick : from.offset + (2 + bits + levels) + n * (from.period * down) ≡ due + levels = omega arith in
        ap (λ (t : ℕ). vs t root.place) tick ∙ total.tree.sums_at cut law inputs vs r due registers
        ∙ total_is vs due size taps seen values.lo values.hi around.negative around.positive within leaves each_run leaves_cover
        ∙ weighted_sum-below taps seen (λ k. v (pos n *ℤ pos down -ℤ pos k)) numbers

  through : (cut : Cut) → IsCut cut → KeepsTheBits cut → CarriesThrough cut streams (distributed_facts size taps down bits).elements new.cells from (record { node = root; period = from.period * down; offset = from.offset + (2 + bits + levels) })
  through cut law keeps inputs vs v is r carried n = given cut law keeps inputs vs v is r carried n

  -- ---- names and shape

  all_names : LeavesFree old.cells new.cells (IsOwnName old.group)
  all_names =
      let front = LeavesFree-trans old.cells first.cells middle.cells (IsShownName old.group) (IsBelow first.group (runs_of size taps)) (IsOwnName old.group) of_shown (λ name h. inl (h.0 ∙ g1)) s.names runs.part.names in
      LeavesFree-trans old.cells middle.cells new.cells (IsOwnName old.group) (IsTouched middle.group Register) (IsOwnName old.group) (λ name h. h) of_tree front total.tree.names
    where
      of_shown : (name : Name) → IsShownName old.group name → IsOwnName old.group name
      of_shown name (inl h) = inl h.0
      of_shown name (inr h) = inr h

      of_tree : (name : Name) → IsTouched middle.group Register name → IsOwnName old.group name
      of_tree name (inl h) = inl (h.0 ∙ g2)
      of_tree name (inr h) = inr h

  shallow_all : IsShallow old.cells old.group → IsShallow new.cells old.group
  shallow_all before =
      let one : IsShallow first.cells first.group = subst (λ (g : ℕ). IsShallow first.cells g) (sym g1) (shallow_same old.group s.grows s.adders before) in
      let two : IsShallow middle.cells middle.group = subst (λ (g : ℕ). IsShallow middle.cells g) (sym runs.part.grows.group) (runs.shallow one s.selected) in
      subst (λ (g : ℕ). IsShallow new.cells g) g2 (total.tree.shallow.shallow two (record { each = λ k leaf there. plain_register middle.group (runs.each k leaf there).register }))

  -- ---- the stage

  pub Realises-distributed : (emitted : Emitted) → emitted.stream ≡ record { node = root; period = from.period * down; offset = from.offset + (2 + bits + levels) } → Realises (distributed_facts size taps down bits) streams old new from emitted
  Realises-distributed emitted is =
      let facts = distributed_facts size taps down bits in
      record {
        grows = Grows-trans s.grows (Grows-trans runs.part.grows total.tree.grows);
        within = rw is total.tree.within;
        period = rw is (omega arith);
        offset = rw is (omega (arith, levels_are));
        carries = subst (λ (to : Stream). CarriesThrough cut_all streams facts.elements new.cells from to) (sym is) (through cut_all IsCut-all keeps_all);
        whole = λ uncut. subst (λ (to : Stream). CarriesThrough cut_control streams facts.elements new.cells from to) (sym is) (through cut_control IsCut-control keeps_control);
        adders =
            let one = s.adders in
            let two : adders_in old.group middle.cells ≡ adders_in old.group first.cells + runs_of size taps * 2 = subst (λ (g : ℕ). adders_in g middle.cells ≡ adders_in g first.cells + runs_of size taps * 2) g1 runs.part.counts in
            let three : adders_in old.group new.cells ≡ adders_in old.group middle.cells + tree_adders leaves = subst (λ (g : ℕ). adders_in g new.cells ≡ adders_in g middle.cells + tree_adders leaves) g2 total.tree.adders in
            let four = added_adders leaves (let many = runs.many in omega (arith, many, some_runs)) leaves_added in
            let five = runs.many in
            omega (arith, one, two, three, four, five);
        windows = total.tree.same_named.windows old.group ∙ subst (λ (g : ℕ). windows_in g middle.cells ≡ windows_in g first.cells) g1 runs.part.windows ∙ s.windows;
        tables =
            let one = s.tables in
            let two : tables_in old.group middle.cells ≡ tables_in old.group first.cells + runs_of size taps = subst (λ (g : ℕ). tables_in g middle.cells ≡ tables_in g first.cells + runs_of size taps) g1 runs.part.tabled in
            let three = total.tree.same_named.tables old.group in
            omega (arith, one, two, three);
        own_tables = λ some bound has.
            let bound1 = s.grows.bound bound in
            HasTables-grown total.tree.grows (runs.part.grows.bound bound1) (total.tree.same_named.tables middle.group) (runs.tables bound1 (HasTables-grown s.grows bound s.tables has));
        names = all_names;
        shallow = λ bound none. shallow_all (IsShallow-none old.cells old.group bound none);
        shapes = λ kind. absurd (cc);
        alike = λ kind. absurd (cc);
        registers = λ linear. absurd (cc);
      }
