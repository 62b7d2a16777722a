-- What the parts of the stage ask of those before them.
use Rattle.std.proofs.Common.{◌≡◌, ℕ, ◌+◌, ◌*◌, ◌^◌, ◌<◌, ◌≤◌, max, List, length, sym, ◌∙◌, ap, subst, arith, inl, inr, ℤ}
use Rattle.std.specs.Prelude.{unsigned_abs}
use Rattle.std.proofs.lemmas.Option.{slice_get_within}
use Rattle.std.proofs.Math.Nat.{mul-le-mul_right}
use Rattle.mr_values.specs.Timing.{ceil_div}
use Rattle.mr_values.specs.Value.{AreTaps}
use Rattle.net_graph.specs.declared.cell.Cell.{Cell}
use Rattle.net_graph.specs.declared.cell.Leaf.{Leaf}
use Rattle.net_graph.specs.declared.cell.Node.{Node}
use Rattle.net_graph.specs.declared.cell.Stream.{Stream}
use Rattle.net_graph.specs.declared.name.NameKind.{NameKind}
use Rattle.net_graph.specs.declared.name.NameKind.TheVariants.{Control, Copy, Register, Table, Window}
use Rattle.net_graph.specs.Cells.{NetView, cell_at}
use Rattle.net_graph.specs.WellFormed.{IsFree}
use Rattle.net_graph.proofs.CellLemmas.{cell_at-is}
use Rattle.pipeline_balance.specs.Leaves.{IsLeaf}
use Rattle.pipeline_balance.specs.Numbered.{name_of}
use Rattle.stage_law.specs.Streams.{HasRoom, Streams, magnitudes}
use Rattle.stage_law.specs.declared.ranges.Range.{Range}
use Rattle.fir_pieces.proofs.GainLemmas.{gain_small}
use Rattle.distributed_table.specs.Around.{IsAround}
use Rattle.distributed_table.specs.Copies.{node_at}
use Rattle.distributed_table.specs.Facts.{runs_of}
use Rattle.distributed_table.specs.Runs.{AddsRuns, IsRunReady, Pace, Serial, SumsRun, serial_of}
use Rattle.distributed_table.specs.Shown.{AddsShown, IsShownName}

-- ---- numbers

pub taps_light : (taps : List ℤ) → AreTaps taps → magnitudes taps ≤ 2 ^ 125
taps_light taps are = let small = gain_small taps are in omega (arith, small)

pub sums_small : (streams : Streams) (range : Range) (gain : ℕ) → IsAround streams range → HasRoom streams gain → max (unsigned_abs range.lo) (unsigned_abs range.hi) * gain ≤ 2 ^ 125
sums_small streams range gain around room =
    let less = mul-le-mul_right gain (around.small room.most room.within) in
    let after = room.after in
    omega (arith, less, after)

-- ---- the bits that are shown

module _ {old first : NetView} {from : Stream} {depth down bits : ℕ} {highs : List Node} {begin : Node} (s : AddsShown old first from depth down bits highs begin) where
  pub shown_ready : 1 ≤ bits → bits ≤ from.period * down → IsRunReady first.cells (record { period = from.period * down; start = from.offset + 1 }) bits s.window highs begin
  shown_ready some enough = s.ready some enough

  pub highs_within : 1 ≤ bits → bits ≤ from.period * down → (k : ℕ) → k < length highs → (node_at highs k).place < length first.cells
  highs_within some enough k less = ((shown_ready some enough).copies.each k less).within

  pub begin_within : 1 ≤ bits → bits ≤ from.period * down → begin.place < length first.cells
  begin_within some enough = (shown_ready some enough).begins.within

  free_in : (kind : NameKind) (number : ℕ) → (kind ≡ Window → ⊥) → (kind ≡ Copy → ⊥) → (kind ≡ Control → ⊥) → IsFree old.cells (name_of old.group kind number) → IsFree first.cells (name_of first.group kind number)
  free_in kind number no_window no_copy no_control free =
      subst (λ (g : ℕ). IsFree first.cells (name_of g kind number)) (sym s.grows.group) (s.names.free (name_of old.group kind number) other free)
    where
      other : IsShownName old.group (name_of old.group kind number) → ⊥
      other (inl (own, inl is)) = no_window is
      other (inl (own, inr is)) = no_copy is
      other (inr is) = no_control is

  pub table_free : (number : ℕ) → IsFree old.cells (name_of old.group Table number) → IsFree first.cells (name_of first.group Table number)
  table_free number = free_in Table number (λ e. absurd (cc)) (λ e. absurd (cc)) (λ e. absurd (cc))

  pub register_free : (number : ℕ) → IsFree old.cells (name_of old.group Register number) → IsFree first.cells (name_of first.group Register number)
  register_free number = free_in Register number (λ e. absurd (cc)) (λ e. absurd (cc)) (λ e. absurd (cc))

-- ---- the register of a run as a leaf

pub leaf_of_run : {cells : List Cell} {group number : ℕ} {leaf : Leaf} (serial : Serial) (pace : Pace) (window : List Node) → SumsRun cells group serial pace window number leaf → IsLeaf cells leaf
leaf_of_run {cells} {group} {number} {leaf} serial pace window s =
    let r = s.register in
    let own : (cell_at cells leaf.node.place).width ≡ s.width = ap (λ (c : Cell). c.width) (cell_at-is cells leaf.node.place r.cell r.there) ∙ r.wide in
    let some = s.some in
    let most = s.most in
    let whole = s.whole in
    record { within = slice_get_within cells leaf.node.place r.cell r.there; wide = omega (arith, own, some); shifts = omega (arith, own, most, whole) }

-- ---- what the calls told of slices, of the lists themselves

pub runs_of_lists : {first middle : NetView} {values : Range} {begin : Node} {leaves : List Leaf} (size : ℕ) (seen taps : List ℤ) (shown highs : List Node) → seen ≡ taps → shown ≡ highs
    → ((pace : Pace) (window : List Node) (bits : ℕ) → IsRunReady first.cells pace bits window shown begin → AddsRuns first middle (serial_of seen size bits values) pace window shown (ceil_div (length seen) size) leaves)
    → (pace : Pace) (window : List Node) (bits : ℕ) → IsRunReady first.cells pace bits window highs begin → AddsRuns first middle (serial_of taps size bits values) pace window highs (runs_of size taps) leaves
runs_of_lists {first} {middle} {values} {begin} {leaves} size seen taps shown highs are_taps are_highs told pace window bits ready =
    let here = told pace window bits (subst (λ (ns : List Node). IsRunReady first.cells pace bits window ns begin) (sym are_highs) ready) in
    let of_highs = subst (λ (ns : List Node). AddsRuns first middle (serial_of seen size bits values) pace window ns (ceil_div (length seen) size) leaves) are_highs here in
    subst (λ (cs : List ℤ). AddsRuns first middle (serial_of cs size bits values) pace window highs (ceil_div (length cs) size) leaves) are_taps of_highs

pub many_of_lists : (size : ℕ) (seen taps : List ℤ) (shown leaves : List Leaf) → seen ≡ taps → shown ≡ leaves → length leaves ≡ ceil_div (length seen) size → length shown ≡ runs_of size taps
many_of_lists size seen taps shown leaves are_taps are_leaves many = ap length are_leaves ∙ many ∙ ap (λ (cs : List ℤ). ceil_div (length cs) size) are_taps
