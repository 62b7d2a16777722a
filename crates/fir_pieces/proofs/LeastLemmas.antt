-- The registers of a filter are those of its list, and have the least widths.
use Rattle.std.proofs.Common.{◌≡◌, ℕ, zero, suc, ◌+◌, ◌*◌, ◌/◌, ◌<◌, ◌≤◌, max, List, [], ◌∷◌, ◌++◌, length, map, refl, sym, ◌∙◌, ap, arith, inl, inr, subst, ◌⊎◌, ℤ, Some, slice_get}
use Rattle.std.proofs.lemmas.List.{length-map}
use Rattle.std.proofs.lemmas.Option.{slice_get_within}
use Rattle.std.proofs.lemmas.Nat.{div-add-mod'}
use Rattle.std.proofs.lemmas.Nat.Gcd.{mod-eq-zero_of_dvd}
use Rattle.net_graph.specs.declared.cell.Cell.{Cell}
use Rattle.net_graph.specs.declared.cell.Node.{Node}
use Rattle.net_graph.specs.declared.cell.Stream.{Stream}
use Rattle.net_graph.specs.declared.name.Name.{Name}
use Rattle.net_graph.specs.declared.name.NameKind.{NameKind}
use Rattle.net_graph.specs.declared.name.NameKind.TheVariants.{Control, Window, Copy, PreAdder, Register, Table, Output, Valid}
use Rattle.net_graph.specs.Cells.{NetView}
use Rattle.net_graph.specs.Grow.{Extends}
use Rattle.net_graph.specs.WellFormed.{IsFree}
use Rattle.pipeline_balance.specs.Numbered.{IsCounted, LeavesFree, IsTouched, name_of}
use Rattle.plan_check.specs.Costs.{gcd}
use Rattle.plan_check.proofs.Divisors.{IsGcd-gcd}
use Rattle.stage_law.specs.Facts.{StageFacts}
use Rattle.stage_law.specs.Least.{IsKeptWhole, HoldsSum, HasStageRegister, IsTimely, HasRegisters, named_peak}
use Rattle.stage_law.specs.Realises.{IsOwnName, IsUnused}
use Rattle.stage_law.specs.Registers.{HeldSum, StageRegister, Telling, TellsRanges, peaks_of}
use Rattle.stage_law.specs.Streams.{Streams, AreCausal, magnitudes}
use Rattle.stage_law.specs.declared.ranges.Class.{Class}
use Rattle.stage_law.specs.declared.stage.Peak.{Peak}
use Rattle.fir_pieces.specs.declared.held.Held.{Held}
use Rattle.fir_pieces.specs.Listed.{every, unit_form, numbered, window_sums}
use Rattle.fir_pieces.specs.Held.{AreHeld, IsClassWidth, IsFormWidth, held_sum}
use Rattle.fir_pieces.specs.Cutting.{AddsWindow}
use Rattle.fir_pieces.specs.Peaks.{HoldsForm, IsDue, peaks_at}
use Rattle.fir_pieces.proofs.DueLemmas.{IsDue-later, window_due}
use Rattle.fir_pieces.proofs.ListLemmas.{length-window_sums, window_sums-at, single, each_numbered, listed_numbered}
use Rattle.fir_pieces.proofs.PaceLemmas.{split_is_pace}
use Rattle.fir_pieces.proofs.PhaseDueLemmas.{holds_phase, forms_whole}
use Rattle.fir_pieces.proofs.PeakLemmas.{single_bits, named-peaks_at}
use Rattle.fir_pieces.specs.Registered.{AreCounted, AreRegisters}
use Rattle.fir_pieces.proofs.RegisteredLemmas.{AreCounted-left, AreCounted-none, AreCounted-right, AreRegisters-append, HasRegisters-of}
use Rattle.fir_pieces.proofs.WidthsLemmas.{AreHeld-none, AreHeld-at, slice_get_some}

-- ---- one register

-- one value in both runs
kept_whole : (streams : Streams) (cells : List Cell) (from : Stream) (form : List ℤ) (ticks : ℕ) (node : Node) → HoldsForm streams cells from form ticks node → IsKeptWhole streams cells from node
kept_whole streams cells from form ticks node h = forms_whole streams h

holds_sum : (streams : Streams) (cells : List Cell) (from : Stream) (s : HeldSum) (ticks : ℕ) (node : Node) → 1 ≤ from.period → s.class ≡ every → s.lag ≡ suc ticks → HoldsForm streams cells from s.form ticks node → HoldsSum streams cells from node s
holds_sum streams cells from s ticks node positive class lag h =
    let one : 1 + ticks ≡ s.lag = omega (arith, lag) in
    let held = holds_phase {forms = λ φ. s.form} streams (split_is_pace from 1 positive (omega arith)) h 0 (omega arith) in
    subst (λ (c : Class). HoldsSum streams cells from node (record { form = s.form; class = c; lag = s.lag })) (sym class) (subst (λ (n : ℕ). HoldsSum streams cells from node (record { form = s.form; class = every; lag = n })) one held)

only_one : (P : HeldSum → Type 0) (s : HeldSum) (j : ℕ) (t : HeldSum) → slice_get (s ∷ []) j ≡ Some t → P s → P t
only_one P s zero t is p = let same : s ≡ t = cc in subst P same p
only_one P s (suc j) t is p = absurd (cc)

stage_register : (streams : Streams) (cells : List Cell) (from : Stream) (depth levels group : ℕ) (kind : NameKind) (number : ℕ) (s : HeldSum) (node : Node) → 1 ≤ from.period → IsDue streams cells from depth levels group (name_of group kind number) s node → HasStageRegister streams cells group from (single kind number s)
stage_register streams cells from depth levels group kind number s node positive d = record {
  node = node;
  width = d.width;
  register = d.register;
  least = λ range tells. single_bits streams s d.width range tells d.is_class d.least;
  holds = λ i t is. only_one (HoldsSum streams cells from node) s i t is (holds_sum streams cells from s d.ticks node positive d.is_class d.is_lag d.holds);
  kept_whole = kept_whole streams cells from s.form d.ticks node d.holds;
}

-- all that a stage takes in a round, as values of every index
one_round : (up down : ℕ) → down ≡ gcd up down * (down / gcd up down * 1)
one_round up down =
    let whole = mod-eq-zero_of_dvd (gcd up down) (IsGcd-gcd up down).1 in
    omega (arith, div-add-mod' down (gcd up down), whole)

timely : (facts : StageFacts) (streams : Streams) (cells : List Cell) (from : Stream) (depth levels group : ℕ) (kind : NameKind) (number : ℕ) (s : HeldSum) (node : Node) → IsDue streams cells from depth levels group (name_of group kind number) s node
    → suc levels ≤ from.period + facts.delay from.period → depth ≤ facts.longest → magnitudes s.form ≤ max 1 (2 * facts.gain) → IsTimely facts from.period s
timely facts streams cells from depth levels group kind number s node d soon few small =
    let lag = d.is_lag in
    let early = d.soon in
    let short = d.short in
    record {
      class = subst (λ (c : Class). c.residue < c.modulus) (sym d.is_class) (omega arith);
      soon = omega (arith, lag, early, soon);
      short = omega (arith, short, few);
      small = small;
      shared = gcd facts.up facts.down;
      greatest = IsGcd-gcd facts.up facts.down;
      times = facts.down / gcd facts.up facts.down;
      divides = subst (λ (c : Class). facts.down ≡ gcd facts.up facts.down * (facts.down / gcd facts.up facts.down * c.modulus)) (sym d.is_class) (one_round facts.up facts.down);
    }

-- ---- all registers

-- the names that the registers of a linear stage have
abbrev pub IsOwn : ℕ → Name → Type 0
IsOwn group name = IsTouched group Window name ⊎ IsTouched group PreAdder name ⊎ IsTouched group Register name

pub own_name : (group : ℕ) (kind : NameKind) (name : Name) → IsTouched group kind name → IsOwnName group name
own_name group kind name (inl h) = inl h.0
own_name group kind name (inr h) = inr h

pub own_names : (group : ℕ) (name : Name) → IsOwn group name → IsOwnName group name
own_names group name (inl h) = own_name group Window name h
own_names group name (inr (inl h)) = own_name group PreAdder name h
own_names group name (inr (inr h)) = own_name group Register name h

no_touch : (group : ℕ) (kind : NameKind) (number : ℕ) → (kind ≡ Window → ⊥) → (kind ≡ PreAdder → ⊥) → (kind ≡ Register → ⊥) → (kind ≡ Control → ⊥) → IsOwn group (name_of group kind number) → ⊥
no_touch group kind number a b c d h = elim h [ inl t ↦ not_touched a t | inr rest ↦ elim rest [ inl t ↦ not_touched b t | inr t ↦ not_touched c t ] ]
  where
    not_touched : {other : NameKind} → (kind ≡ other → ⊥) → IsTouched group other (name_of group kind number) → ⊥
    not_touched e t = elim t [ inl own ↦ e own.1 | inr control ↦ d control ]

-- a part of the list: registers of one kind, numbered from 0, with what they hold
pub record IsPart (streams : Streams) (cells : List Cell) (group : ℕ) (from : Stream) (depth levels : ℕ) (kind : NameKind) (sums : List HeldSum) (nodes : List Node) (held : List Held) : Type 0 where
  pub many : length nodes ≡ length sums
  pub are_held : AreHeld streams sums held
  pub due : (k : ℕ) (s : HeldSum) (node : Node) → slice_get sums k ≡ Some s → slice_get nodes k ≡ Some node → IsDue streams cells from depth levels group (name_of group kind (0 + k)) s node
  pub counted : IsCounted cells group kind (length sums)

-- no register of a kind
pub no_part : {streams : Streams} {cells : List Cell} {group : ℕ} {from : Stream} {depth levels : ℕ} {kind : NameKind} → IsCounted cells group kind 0 → IsPart streams cells group from depth levels kind [] [] []
no_part counted = record {
  many = refl;
  are_held = AreHeld-none _;
  due = λ k s node is there. absurd (cc);
  counted = counted;
}

-- the registers of a window
module _ {old first : NetView} {new : List Cell} {from : Stream} {window : List Node} {values : List Held} {depth : ℕ} (streams : Streams) (levels : ℕ) (causal : AreCausal streams) (positive : 1 ≤ from.period) (w : AddsWindow streams old first from window) (later : Extends first.cells new) (long : depth ≡ length window)
    (values_held : AreHeld streams (window_sums depth) values) where
  pub window_part : IsCounted new old.group Window (length window) → IsPart streams new old.group from (length window) levels Window (window_sums depth) window values
  window_part counted = record {
    many = sym long ∙ sym (length-window_sums depth);
    are_held = values_held;
    due = λ k h node at there.
        let e = window_sums-at depth k h at in
        let from_none : k ≡ 0 + k = omega arith in
        let own = AreHeld-at streams values_held k h at in
        let known : IsFormWidth streams (unit_form k) own.0.width = subst (λ (z : HeldSum). IsClassWidth streams z.class z.form own.0.width) e own.2 in
        subst (λ (n : ℕ). IsDue streams new from (length window) levels old.group (name_of old.group Window n) h node) from_none
        (subst (λ (z : HeldSum). IsDue streams new from (length window) levels old.group (name_of old.group Window k) z node) (sym e)
        (IsDue-later later (window_due streams levels causal positive w k node there known.range known.is_range)));
    counted = subst (λ (n : ℕ). IsCounted new old.group Window n) (sym long ∙ sym (length-window_sums depth)) counted;
  }

-- a part's registers hold their sums in time, and their peaks are its own
module _ {streams : Streams} {cells : List Cell} {group : ℕ} {from : Stream} {depth levels : ℕ} {kind : NameKind} {sums : List HeldSum} {nodes : List Node} {own : List Held} (positive : 1 ≤ from.period) (part : IsPart streams cells group from depth levels kind sums nodes own) where
  each_due : (P : StageRegister → Type 0) → ((k : ℕ) (s : HeldSum) (node : Node) → IsDue streams cells from depth levels group (name_of group kind (0 + k)) s node → P (single kind (0 + k) s)) → (i : ℕ) (r : StageRegister) → slice_get (numbered kind 0 sums) i ≡ Some r → P r
  each_due P h = each_numbered P kind 0 sums (λ k s is.
      let inside = slice_get_within sums k s is in
      let many = part.many in
      let node = slice_get_some nodes k (omega (arith, inside, many)) in
      h k s node.0 (part.due k s node.0 is node.1))

  part_peaks : (range : Telling) → TellsRanges streams range → map (named_peak cells) (peaks_at own nodes) ≡ peaks_of range group (numbered kind 0 sums)
  part_peaks range tells =
      let many = part.many in
      let same : length own ≡ length sums = sym (length-map own held_sum) ∙ ap length part.are_held.same in
      named-peaks_at streams range tells cells group kind 0 own nodes (omega (arith, many, same)) part.are_held.each
      (λ k node there.
      let inside = slice_get_within nodes k node there in
      let s = slice_get_some sums k (omega (arith, inside, many)) in
      let d = part.due k s.0 node s.1 there in (d.width, d.register))
      ∙ ap (λ (ss : List HeldSum). peaks_of range group (numbered kind 0 ss)) part.are_held.same

  pub part_registers : (facts : StageFacts) → suc levels ≤ from.period + facts.delay from.period → depth ≤ facts.longest → AreRegisters facts streams cells group from (numbered kind 0 sums) (peaks_at own nodes)
  part_registers facts soon few = record {
    some = each_due (λ (r : StageRegister). 1 ≤ length r.sums) (λ k s node d. omega arith);
    timely = λ i j r s there at small.
        each_due (λ (r : StageRegister). (j : ℕ) (s : HeldSum) → slice_get r.sums j ≡ Some s → magnitudes s.form ≤ max 1 (2 * facts.gain) → IsTimely facts from.period s)
        (λ k s node d j t at.
        only_one (λ (h : HeldSum). magnitudes h.form ≤ max 1 (2 * facts.gain) → IsTimely facts from.period h) s j t at (timely facts streams cells from depth levels group kind (0 + k) s node d soon few))
        i r there j s at small;
    each = each_due (HasStageRegister streams cells group from) (λ k s node d. stage_register streams cells from depth levels group kind (0 + k) s node positive d);
    told = part_peaks;
  }

  pub part_counted : AreCounted cells group (numbered kind 0 sums) kind
  part_counted = record { count = length sums; counted = part.counted; listed = λ number less. listed_numbered kind sums number less }

module _ {streams : Streams} {cells : List Cell} {group : ℕ} {from : Stream} {depth levels : ℕ} {windows readers others : List HeldSum} {window reader_nodes registers : List Node} {values reader_held held : List Held} (before : List Cell) (positive : 1 ≤ from.period)
    (w : IsPart streams cells group from depth levels Window windows window values) (p : IsPart streams cells group from depth levels PreAdder readers reader_nodes reader_held) (o : IsPart streams cells group from depth levels Register others registers held)
    (names : LeavesFree before cells (IsOwn group)) (unused : IsUnused before group) where
  -- no register is of another kind
  no_other : (kind : NameKind) → ((number : ℕ) → IsFree before (name_of group kind number)) → (kind ≡ Window → ⊥) → (kind ≡ PreAdder → ⊥) → (kind ≡ Register → ⊥) → (kind ≡ Control → ⊥) → AreCounted cells group (numbered Window 0 windows ++ (numbered PreAdder 0 readers ++ numbered Register 0 others)) kind
  no_other kind free a b c d =
      AreCounted-none (numbered Window 0 windows ++ (numbered PreAdder 0 readers ++ numbered Register 0 others))
      (record { used = λ number less f. absurd (omega arith); free = λ number more. names.free (name_of group kind number) (no_touch group kind number a b c d) (free number) })

  of_kind : (kind : NameKind) → (kind ≡ Control → ⊥) → AreCounted cells group (numbered Window 0 windows ++ (numbered PreAdder 0 readers ++ numbered Register 0 others)) kind
  of_kind Control apart = absurd (apart refl)
  of_kind Window apart = AreCounted-left (numbered Window 0 windows) (numbered PreAdder 0 readers ++ numbered Register 0 others) (part_counted positive w)
  of_kind PreAdder apart = AreCounted-right (numbered Window 0 windows) (numbered PreAdder 0 readers ++ numbered Register 0 others) (AreCounted-left (numbered PreAdder 0 readers) (numbered Register 0 others) (part_counted positive p))
  of_kind Register apart = AreCounted-right (numbered Window 0 windows) (numbered PreAdder 0 readers ++ numbered Register 0 others) (AreCounted-right (numbered PreAdder 0 readers) (numbered Register 0 others) (part_counted positive o))
  of_kind Copy apart = no_other Copy (λ number. unused.free Copy number) (λ e. absurd (cc)) (λ e. absurd (cc)) (λ e. absurd (cc)) (λ e. absurd (cc))
  of_kind Table apart = no_other Table (λ number. unused.free Table number) (λ e. absurd (cc)) (λ e. absurd (cc)) (λ e. absurd (cc)) (λ e. absurd (cc))
  of_kind Output apart = no_other Output (λ number. unused.free Output number) (λ e. absurd (cc)) (λ e. absurd (cc)) (λ e. absurd (cc)) (λ e. absurd (cc))
  of_kind Valid apart = no_other Valid (λ number. unused.free Valid number) (λ e. absurd (cc)) (λ e. absurd (cc)) (λ e. absurd (cc)) (λ e. absurd (cc))

  pub has_registers : (facts : StageFacts) → facts.registers from.period ≡ numbered Window 0 windows ++ (numbered PreAdder 0 readers ++ numbered Register 0 others) → suc levels ≤ from.period + facts.delay from.period → depth ≤ facts.longest
      → ((i j : ℕ) (r : StageRegister) (s : HeldSum) → slice_get (facts.registers from.period) i ≡ Some r → slice_get r.sums j ≡ Some s → magnitudes s.form ≤ max 1 (2 * facts.gain)) → (peaks : List Peak) → peaks ≡ peaks_at values window ++ (peaks_at reader_held reader_nodes ++ peaks_at held registers)
      → HasRegisters facts streams cells group from peaks
  has_registers facts e soon few small peaks is =
      let all = AreRegisters-append (part_registers positive w facts soon few) (AreRegisters-append (part_registers positive p facts soon few) (part_registers positive o facts soon few)) in
      subst (HasRegisters facts streams cells group from) (sym is) (HasRegisters-of facts streams cells group from (numbered Window 0 windows ++ (numbered PreAdder 0 readers ++ numbered Register 0 others)) (peaks_at values window ++ (peaks_at reader_held reader_nodes ++ peaks_at held registers)) e all of_kind small)
