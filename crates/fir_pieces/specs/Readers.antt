-- Registers over what is read of a window.
use Rattle.std.specs.Prelude.{◌≡◌, ℕ, suc, ◌+◌, ◌<◌, ◌≤◌, List, length, get_or, Some, slice_get, slice_index_or, ℤ, pos}
use Rattle.mr_values.specs.Width.{FitsWidth}
use Rattle.net_graph.specs.declared.cell.Cell.{Cell}
use Rattle.net_graph.specs.declared.cell.Node.{Node}
use Rattle.net_graph.specs.declared.cell.Stream.{Stream}
use Rattle.net_graph.specs.declared.name.NameKind.{NameKind}
use Rattle.net_graph.specs.declared.name.NameKind.TheVariants.{Control, Window, Copy, PreAdder, Register, Table, Output, Valid}
use Rattle.net_graph.specs.Cells.{NetView, cell_at}
use Rattle.net_graph.specs.Count.{adders_in}
use Rattle.net_graph.specs.Cut.{Cut, IsCut}
use Rattle.net_graph.specs.Depth.{IsPlain, IsShallow}
use Rattle.net_graph.specs.Grow.{Grows}
use Rattle.net_graph.specs.Run.{Values, IsRun}
use Rattle.net_graph.specs.WellFormed.{IsBound}
use Rattle.pipeline_balance.specs.Costs.{SameAdders, SameNamed}
use Rattle.pipeline_balance.specs.Numbered.{IsRegister, IsCounted, IsTouched, LeavesFree, name_of}
use Rattle.pipeline_balance.specs.Shallow.{ArePlain}
use Rattle.pipeline_balance.specs.Shapes.{KeepsShapes}
use Rattle.stage_law.specs.Streams.{Streams}
use Rattle.fir_pieces.specs.declared.held.Held.{Held}
use Rattle.fir_pieces.specs.declared.reading.Reading.{Reading}
use Rattle.fir_pieces.specs.Cutting.{IsCutWindow}
use Rattle.fir_pieces.specs.Form.{reading_form}
use Rattle.fir_pieces.specs.Held.{AreHeld, IsFormWidth}
use Rattle.fir_pieces.specs.Listed.{reading_sum, reading_sums}
use Rattle.fir_pieces.specs.Peaks.{HoldsForm, IsDue}
use Rattle.fir_pieces.specs.Reading.{read, reading_adders, all_adders}

-- these nodes stand in the net
pub record AreNodes (cells : List Cell) (nodes : List Node) : Type 0 where
  pub each : (k : ℕ) (node : Node) → slice_get nodes k ≡ Some node → node.place < length cells

-- a kind of a group's registers that are no window's
abbrev pub IsDataKind : NameKind → Type 0
IsDataKind Control = ⊥
IsDataKind Window = ⊥
IsDataKind Copy = Unit {0}
IsDataKind PreAdder = Unit {0}
IsDataKind Register = Unit {0}
IsDataKind Table = ⊥
IsDataKind Output = ⊥
IsDataKind Valid = ⊥

-- the value of the list's node at a place
abbrev pub at_node : Values → ℕ → List Node → ℕ → ℤ
at_node values t nodes i = values t (slice_index_or nodes i (record { place = 0 })).place

-- the node `to` of the new net has this width, and what is read of the window's nodes wherever that fits
pub record IsCombined (old new : NetView) (window : List Node) (reading : Reading) (width : ℕ) (to : Node) : Type 0 where
  pub grows : Grows old new
  pub within : to.place < length new.cells
  pub wide : (cell_at new.cells to.place).width ≡ width
  pub keeps : (cut : Cut) → IsCut cut → (inputs : ℕ → ℤ) (values : Values) → IsRun cut new.cells inputs values → (t : ℕ) → FitsWidth width (read reading (at_node values t window)) → values t to.place ≡ read reading (at_node values t window)
  pub adders : adders_in old.group new.cells ≡ adders_in old.group old.cells + reading_adders reading
  pub named : SameNamed old.cells new.cells
  pub names : LeavesFree old.cells new.cells (λ name. ⊥)
  pub linear : KeepsShapes old.cells new.cells
  pub shallow : IsShallow old.cells old.group → ArePlain old.cells old.group window → IsShallow new.cells old.group

-- the node begins with 0, and has in each run what was read of the window's nodes a tick before, wherever that fits its width
pub record TakesReading (cells : List Cell) (window : List Node) (reading : Reading) (width : ℕ) (to : Node) : Type 0 where
  pub wide : (to.place < length cells) × ((cell_at cells to.place).width ≡ width)
  pub starts : (cut : Cut) → IsCut cut → (inputs : ℕ → ℤ) (values : Values) → IsRun cut cells inputs values → values 0 to.place ≡ pos 0
  pub steps : (cut : Cut) → IsCut cut → (inputs : ℕ → ℤ) (values : Values) → IsRun cut cells inputs values → (t : ℕ) → FitsWidth width (read reading (at_node values t window)) → values (suc t) to.place ≡ read reading (at_node values t window)

-- the new net has one more register of this kind, with the next free number, that takes the node's value at each tick
pub record TakesNext (old new : NetView) (kind : NameKind) (from to : Node) : Type 0 where
  pub grows : Grows old new
  pub adders : SameAdders old.cells new.cells
  pub named_same : SameNamed old.cells new.cells
  pub named : (count : ℕ) → IsCounted old.cells old.group kind count → IsRegister new.cells to.place old.group (name_of old.group kind count) (cell_at old.cells from.place).width
  pub counted : (count : ℕ) → IsCounted old.cells old.group kind count → IsCounted new.cells old.group kind (suc count)
  pub names : LeavesFree old.cells new.cells (IsTouched old.group kind)
  pub linear : KeepsShapes old.cells new.cells
  pub plain : IsPlain new.cells old.group to.place
  pub wide : (to.place < length new.cells) × ((cell_at new.cells to.place).width ≡ (cell_at old.cells from.place).width)
  pub starts : (cut : Cut) → IsCut cut → (inputs : ℕ → ℤ) (values : Values) → IsRun cut new.cells inputs values → values 0 to.place ≡ pos 0
  pub steps : (cut : Cut) → IsCut cut → (inputs : ℕ → ℤ) (values : Values) → IsRun cut new.cells inputs values → (t : ℕ) → values (suc t) to.place ≡ values t from.place

-- The new net has one more register of this kind, with the next free number and of this width, before which no adder stands. In each run
-- it holds what is read of the window's values a tick before, wherever that fits.
pub record AddsRegister (old new : NetView) (window : List Node) (kind : NameKind) (reading : Reading) (width : ℕ) (to : Node) : Type 0 where
  pub grows : Grows old new
  pub adders : adders_in old.group new.cells ≡ adders_in old.group old.cells + reading_adders reading
  pub named_same : SameNamed old.cells new.cells
  pub named : (count : ℕ) → IsCounted old.cells old.group kind count → IsRegister new.cells to.place old.group (name_of old.group kind count) width
  pub counted : (count : ℕ) → IsCounted old.cells old.group kind count → IsCounted new.cells old.group kind (suc count)
  pub names : LeavesFree old.cells new.cells (IsTouched old.group kind)
  pub linear : KeepsShapes old.cells new.cells
  pub shallow : IsShallow old.cells old.group → ArePlain old.cells old.group window → IsShallow new.cells old.group
  pub plain : IsPlain new.cells old.group to.place
  pub takes : TakesReading new.cells window reading width to

-- the new net has such a register for each of these, one after another
pub record AddsRegisters (old new : NetView) (window : List Node) (kind : NameKind) (readings : List Reading) (widths : List ℕ) (nodes : List Node) : Type 0 where
  pub grows : Grows old new
  pub many : length nodes ≡ length readings
  pub adders : adders_in old.group new.cells ≡ adders_in old.group old.cells + all_adders readings
  pub named_same : SameNamed old.cells new.cells
  pub counted : (count : ℕ) → IsCounted old.cells old.group kind count → IsCounted new.cells old.group kind (count + length readings)
  pub names : LeavesFree old.cells new.cells (IsTouched old.group kind)
  pub linear : KeepsShapes old.cells new.cells
  pub shallow : IsShallow old.cells old.group → ArePlain old.cells old.group window → IsShallow new.cells old.group
  pub plain : IsBound old.cells → ArePlain new.cells old.group nodes
  pub takes : (k : ℕ) (r : Reading) (node : Node) → slice_get readings k ≡ Some r → slice_get nodes k ≡ Some node → TakesReading new.cells window r (get_or widths k 0) node
  pub named : (count k : ℕ) (node : Node) → IsCounted old.cells old.group kind count → slice_get nodes k ≡ Some node → IsRegister new.cells node.place old.group (name_of old.group kind (count + k)) (get_or widths k 0)

-- the new net has such a register for each of these, of the least width for what it holds
pub record AddsReaders (streams : Streams) (old new : NetView) (window : List Node) (kind : NameKind) (readings : List Reading) (held : List Held) (nodes : List Node) : Type 0 where
  pub grows : Grows old new
  pub many : length nodes ≡ length readings
  pub adders : adders_in old.group new.cells ≡ adders_in old.group old.cells + all_adders readings
  pub named_same : SameNamed old.cells new.cells
  pub held_are : AreHeld streams (reading_sums readings) held
  pub counted : (count : ℕ) → IsCounted old.cells old.group kind count → IsCounted new.cells old.group kind (count + length readings)
  pub names : LeavesFree old.cells new.cells (IsTouched old.group kind)
  pub linear : KeepsShapes old.cells new.cells
  pub shallow : IsShallow old.cells old.group → ArePlain old.cells old.group window → IsShallow new.cells old.group
  pub plain : IsBound old.cells → ArePlain new.cells old.group nodes
  pub wide : (k : ℕ) (r : Reading) (node : Node) → slice_get readings k ≡ Some r → slice_get nodes k ≡ Some node → (node.place < length new.cells) × IsFormWidth streams (reading_form r) (cell_at new.cells node.place).width
  pub shows : (from : Stream) → 1 ≤ from.period → IsCutWindow streams old.cells from window → (k : ℕ) (r : Reading) (node : Node) → slice_get readings k ≡ Some r → slice_get nodes k ≡ Some node → HoldsForm streams new.cells from (reading_form r) 1 node
  pub each : (from : Stream) → 1 ≤ from.period → IsCutWindow streams old.cells from window → (count k : ℕ) (r : Reading) (node : Node) → IsCounted old.cells old.group kind count → slice_get readings k ≡ Some r → slice_get nodes k ≡ Some node
      → IsDue streams new.cells from (length window) 1 old.group (name_of old.group kind (count + k)) (reading_sum r) node
