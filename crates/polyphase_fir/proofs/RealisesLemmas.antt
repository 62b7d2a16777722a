-- A window, trees and a selection realise a filter between an Up and a Down.
use Rattle.std.proofs.Common.{◌≡◌, ℕ, suc, ◌+◌, ◌*◌, ◌/◌, ◌%◌, ◌<◌, ◌≤◌, List, ◌++◌, length, get_or, refl, sym, ◌∙◌, ap, arith, subst, inl, inr, ℤ, pos, ◌+ℤ◌, ◌*ℤ◌, Some, slice_get}
use Rattle.std.proofs.lemmas.Bool.{cases_lt}
use Rattle.std.proofs.lemmas.Int.{ints}
use Rattle.std.proofs.lemmas.Option.{slice_get-get_or}
use Rattle.std.proofs.Math.Nat.{mul-le-mul_left}
use native.Mathlib.Nat.{mod-lt, div-add-mod'}
use Rattle.mr_values.proofs.Polyphase.{down-filter-up}
use Rattle.net_graph.specs.declared.cell.Node.{Node}
use Rattle.net_graph.specs.declared.cell.Stream.{Stream}
use Rattle.net_graph.specs.declared.name.NameKind.{NameKind}
use Rattle.net_graph.specs.declared.name.NameKind.TheVariants.{Window, PreAdder, Register, Control}
use Rattle.net_graph.specs.Cells.{NetView}
use Rattle.net_graph.specs.Count.{adders_in, windows_in}
use Rattle.net_graph.specs.Cut.{Cut, IsCut, cut_all, cut_control}
use Rattle.net_graph.specs.Depth.{IsShallow}
use Rattle.net_graph.specs.Grow.{Grows}
use Rattle.net_graph.proofs.CutLemmas.{IsCut-all, IsCut-control}
use Rattle.net_graph.proofs.DepthLemmas.{IsShallow-none}
use Rattle.net_graph.proofs.GrowLemmas.{Grows-trans}
use Rattle.pipeline_balance.specs.Gate.{HasTaken}
use Rattle.pipeline_balance.specs.Numbered.{IsCounted, IsTouched, LeavesFree, name_of}
use Rattle.pipeline_balance.specs.Shallow.{ArePlain}
use Rattle.pipeline_balance.proofs.NumberedLemmas.{LeavesFree-trans, IsCounted-leaves}
use Rattle.pipeline_balance.proofs.ShallowLemmas.{shallow_more}
use Rattle.pipeline_balance.proofs.ShapeLemmas.{KeepsShapes-trans}
use Rattle.stage_law.specs.Realises.{Realises, CarriesThrough, IsUnused}
use Rattle.stage_law.specs.Streams.{Streams, AreCausal}
use Rattle.stage_law.specs.declared.stage.Emitted.{Emitted}
use Rattle.fir_pieces.specs.declared.held.Held.{Held}
use Rattle.fir_pieces.specs.Cutting.{AddsWindow}
use Rattle.fir_pieces.specs.Held.{AreHeld}
use Rattle.fir_pieces.specs.Listed.{window_sums}
use Rattle.fir_pieces.specs.Peaks.{IsDue, peaks_at}
use Rattle.fir_pieces.proofs.DueLemmas.{IsDue-later}
use Rattle.fir_pieces.proofs.LeastLemmas.{IsOwn, IsPart, own_names, no_part, window_part, has_registers}
use Rattle.polyphase_fir.specs.Facts.{polyphase_facts, elements_of, levels_of, adders_below, depth_of, phase_sums}
use Rattle.polyphase_fir.specs.Roots.{AddsRegisters, AddsRoots, IsShown, SumsWindow}
use Rattle.polyphase_fir.proofs.SmallLemmas.{registers_small}

-- ---- ticks

-- what is at most so many times as much
cancel_le : (up a b : ℕ) → 1 ≤ up → up * a ≤ up * b → a ≤ b
cancel_le up a b some h = elim (cases_lt b a) [
  | inl less ↦ absurd (let more : up * suc b ≤ up * a = mul-le-mul_left up less in omega arith)
  | inr le ↦ le
]

cancel_lt : (up a b : ℕ) → up * a < up * b → a < b
cancel_lt up a b h = elim (cases_lt a b) [
  | inl less ↦ less
  | inr le ↦ absurd (let more : up * b ≤ up * a = mul-le-mul_left up le in omega arith)
]

-- a tick after that of output n lies behind value k of the stream and not behind the next, where n * down = k * up + r
taken_at : (up down period q first n k r : ℕ) → 1 ≤ up → 1 ≤ period → q * up ≡ period * down → n * down ≡ k * up + r → r < up → HasTaken period first (suc k) (suc (first + n * q))
taken_at up down period q first n k r some positive whole index inside =
    let a : n * (q * up) ≡ n * (period * down) = ap (λ (m : ℕ). n * m) whole in
    let b : period * (n * down) ≡ period * (k * up + r) = ap (λ (m : ℕ). period * m) index in
    let scaled : up * (n * q) ≡ up * (k * period) + period * r = omega (arith, a, b) in
    let low : k * period ≤ n * q = cancel_le up (k * period) (n * q) some (omega (arith, scaled)) in
    let less : period * suc r ≤ period * up = mul-le-mul_left period inside in
    let high : n * q < suc k * period = cancel_lt up (n * q) (suc k * period) (omega (arith, scaled, less, positive)) in
    (omega arith, omega arith)

-- ---- the stage

module _ {old first second new : NetView} {from stream : Stream} {window roots registers : List Node} {values held : List Held} {levels : ℕ} (streams : Streams) (taps : List ℤ) (up down : ℕ) (some : 1 ≤ up) (causal : AreCausal streams) (positive : 1 ≤ from.period) (data_group : 1 ≤ old.group)
    (unused : IsUnused old.cells old.group) (w : AddsWindow streams old first from window) (long : depth_of taps up ≡ length window) (p : AddsRoots streams first second from levels taps up roots) (all : length roots ≡ up) (r : AddsRegisters streams first second from (depth_of taps up) levels (phase_sums up taps levels up) registers)
    (sums : SumsWindow first second window) (shown : IsShown second new roots up down from levels stream) (levels_are : levels ≡ levels_of taps up) (values_held : AreHeld streams (window_sums (depth_of taps up)) values) (trees_held : AreHeld streams (phase_sums up taps levels up) held) where
  same : first.group ≡ old.group
  same = w.grows.group

  later : Grows first new
  later = Grows-trans p.grows shown.shown.grows

  -- ---- names

  no_kind : (kind other : NameKind) → (other ≡ kind → ⊥) → (other ≡ Control → ⊥) → (by_group group number : ℕ) → IsTouched by_group kind (name_of group other number) → ⊥
  no_kind kind other apart control by_group group number (inl h) = apart h.1
  no_kind kind other apart control by_group group number (inr h) = control h

  -- registers of a kind that the stage leaves as they were
  left_alone : (kind : NameKind) → (kind ≡ Register → ⊥) → (kind ≡ Control → ⊥) → (count : ℕ) → IsCounted first.cells old.group kind count → IsCounted new.cells old.group kind count
  left_alone kind apart control count c =
      IsCounted-leaves old.group kind count shown.shown.grows.extends shown.shown.names (λ number. control)
      (IsCounted-leaves old.group kind count p.grows.extends p.names (λ number. no_kind Register kind apart control first.group old.group number) c)

  none_of : (kind : NameKind) → (kind ≡ Window → ⊥) → (kind ≡ Control → ⊥) → IsCounted old.cells old.group kind 0 → IsCounted first.cells old.group kind 0
  none_of kind apart control c = IsCounted-leaves old.group kind 0 w.grows.extends w.names (λ number. no_kind Window kind apart control old.group old.group number) c

  pair_count : IsCounted new.cells old.group PreAdder 0
  pair_count = left_alone PreAdder (λ e. absurd (cc)) (λ e. absurd (cc)) 0 (none_of PreAdder (λ e. absurd (cc)) (λ e. absurd (cc)) (record { used = λ number less f. absurd (omega arith); free = λ number more. unused.free PreAdder number }))

  tree_count : IsCounted first.cells first.group Register 0
  tree_count = subst (λ (g : ℕ). IsCounted first.cells g Register 0) (sym same) (none_of Register (λ e. absurd (cc)) (λ e. absurd (cc)) (record { used = λ number less f. absurd (omega arith); free = λ number more. unused.free Register number }))

  touched : LeavesFree old.cells new.cells (IsOwn old.group)
  touched =
      LeavesFree-trans old.cells first.cells new.cells (IsTouched old.group Window) (IsOwn old.group) (IsOwn old.group) (λ name h. inl h) (λ name h. h) w.names
      (LeavesFree-trans first.cells second.cells new.cells (IsTouched first.group Register) (λ name. name.kind ≡ Control) (IsOwn old.group) (λ name h. inr (inr (subst (λ (g : ℕ). IsTouched g Register name) same h))) (λ name h. inl (inr h)) p.names shown.shown.names)

  -- ---- registers

  windows_part : IsPart streams new.cells old.group from (length window) levels Window (window_sums (depth_of taps up)) window values
  windows_part = window_part streams levels causal positive w later.extends long values_held (left_alone Window (λ e. absurd (cc)) (λ e. absurd (cc)) (length window) w.counted)

  trees_part : IsPart streams new.cells old.group from (length window) levels Register (phase_sums up taps (levels_of taps up) up) registers held
  trees_part = subst (λ (n : ℕ). IsPart streams new.cells old.group from (length window) levels Register (phase_sums up taps n up) registers held) levels_are (record {
    many = r.many;
    are_held = trees_held;
    due = λ k s node at there.
        IsDue-later shown.shown.grows.extends
        (subst (λ (g : ℕ). IsDue streams second.cells from (length window) levels g (name_of g Register (0 + k)) s node) same (subst (λ (n : ℕ). IsDue streams second.cells from n levels first.group (name_of first.group Register (0 + k)) s node) long (r.each 0 k s node tree_count at there)));
    counted =
        let many = length (phase_sums up taps levels up) in
        let from_none : 0 + many ≡ many = omega arith in
        IsCounted-leaves old.group Register many shown.shown.grows.extends shown.shown.names (λ number e. absurd (cc))
        (subst (λ (g : ℕ). IsCounted second.cells g Register many) same (subst (λ (n : ℕ). IsCounted second.cells first.group Register n) from_none (r.counted 0 tree_count)));
  })

  -- ---- values

  through : (cut : Cut) → IsCut cut → CarriesThrough cut streams (elements_of taps up down) new.cells from stream
  through cut law x values v in_streams run carried n =
      let r = n * down % up in
      let k = n * down / up in
      let inside : r < up = mod-lt (n * down) some in
      let blank : Node = record { place = 0 } in
      let own = get_or roots r blank in
      let there : slice_get roots r ≡ Some own = slice_get-get_or roots r blank (omega (arith, inside, all)) in
      let split : n * down ≡ k * up + r = sym (div-add-mod' (n * down) up) in
      let index : pos n *ℤ pos down ≡ pos k *ℤ pos up +ℤ pos r = omega (arith, ints, split) in
      let t = suc (from.offset + n * stream.period) in
      let offset = shown.offset in
      let tick : stream.offset + n * stream.period ≡ t + levels = omega (arith, offset) in
      shown.shown.shows cut law x values run n own there
      ∙ ap (λ (u : ℕ). values u own.place) tick
      ∙ (p.each r own there).shows cut law x values (shown.shown.grows.extends.runs cut law x values run) v in_streams carried t k (taken_at up down from.period stream.period from.offset n k r some positive shown.period split inside)
      ∙ sym (down-filter-up taps down up v (pos n) (pos k) r inside index)

  -- ---- the law

  pub Realises-phases : (emitted : Emitted) → emitted.stream ≡ stream → emitted.peaks.items ≡ peaks_at values window ++ peaks_at held registers → Realises (polyphase_facts taps up down) streams old new from emitted
  Realises-phases emitted is peaks_are =
      let s = shown.shown in
      let facts = polyphase_facts taps up down in
      record {
        grows = Grows-trans w.grows (Grows-trans p.grows s.grows);
        within = rw is s.within;
        period = rw is shown.period;
        offset = rw is (shown.offset ∙ ap (λ (n : ℕ). from.offset + 1 + n) levels_are ∙ omega arith);
        carries = subst (λ (to : Stream). CarriesThrough cut_all streams facts.elements new.cells from to) (sym is) (through cut_all IsCut-all);
        whole = λ uncut. subst (λ (to : Stream). CarriesThrough cut_control streams facts.elements new.cells from to) (sym is) (through cut_control IsCut-control);
        adders =
            let before = w.adders.each old.group data_group in
            let trees : adders_in old.group second.cells ≡ adders_in old.group first.cells + adders_below up taps (length roots) = subst (λ (g : ℕ). adders_in g second.cells ≡ adders_in g first.cells + adders_below up taps (length roots)) same p.adders in
            let phases : adders_below up taps (length roots) ≡ adders_below up taps up = ap (adders_below up taps) all in
            let after = s.adders.each old.group data_group in
            omega (arith, before, trees, phases, after);
        windows = s.named.windows old.group ∙ p.named.windows old.group ∙ w.windows ∙ ap (λ (n : ℕ). windows_in old.group old.cells + n) (sym long);
        tables = s.named.tables old.group ∙ p.named.tables old.group ∙ w.tables ∙ omega arith;
        own_tables = λ some. absurd (omega (arith, some));
        shallow = λ bound none.
            let s1 = shallow_more old.group data_group w.grows w.adders (IsShallow-none old.cells old.group bound none) in
            let s2 = sums.shallow (subst (λ (g : ℕ). IsShallow first.cells g) (sym same) s1) (subst (λ (g : ℕ). ArePlain first.cells g window) (sym same) w.plain) in
            shallow_more old.group data_group s.grows s.adders (subst (λ (g : ℕ). IsShallow second.cells g) same s2);
        shapes = λ kind. (KeepsShapes-trans w.linear (KeepsShapes-trans p.linear s.linear)).each old.group data_group;
        alike = λ kind. absurd (cc);
        names = record { free = λ name other f. touched.free name (λ own. other (own_names old.group name own)) f };
        registers = λ linear.
            has_registers old.cells positive windows_part (no_part pair_count) trees_part touched unused facts refl (omega (arith, levels_are)) (omega (arith, long)) (registers_small taps up some) emitted.peaks.items peaks_are;
      }
