-- The pieces of a cascade in a net.
use Rattle.std.specs.Prelude.{◌≡◌, ℕ, ◌+◌, ◌-◌, ◌*◌, ◌<◌, false, ℤ, pos, negsuc, ◌+ℤ◌, ◌-ℤ◌, List, [], length, get_or, suc, Option, Some, None}
use Rattle.mr_values.specs.Sequence.{Sequence, up}
use Rattle.net_graph.specs.declared.cell.Cell.{Cell}
use Rattle.net_graph.specs.declared.cell.Node.{Node}
use Rattle.net_graph.specs.declared.cell.Stream.{Stream}
use Rattle.net_graph.specs.declared.cell.Item.TheVariants.{Mux}
use Rattle.net_graph.specs.declared.name.NameKind.TheVariants.{Register}
use Rattle.net_graph.specs.Cells.{NetView}
use Rattle.net_graph.specs.Count.{adders_in}
use Rattle.net_graph.specs.Cut.{Cut, IsCut}
use Rattle.net_graph.specs.Depth.{IsPlain, IsShallow}
use Rattle.net_graph.specs.Grow.{Grows, Adds}
use Rattle.net_graph.specs.Run.{Values, IsRun}
use Rattle.pipeline_balance.specs.Costs.{SameNamed}
use Rattle.pipeline_balance.specs.Gate.{HasTaken, taken_value, shown}
use Rattle.pipeline_balance.specs.Shapes.{KeepsShapes}
use Rattle.pipeline_balance.specs.Numbered.{IsCounted, IsTouched, LeavesFree}
use Rattle.stage_law.specs.Alike.{HasRegister}
use Rattle.cic_chain.specs.Cascade.{integrators, earlier, comb, combs, decimator, interpolator}
use Rattle.cic_chain.specs.declared.cascades.Comb.{Comb}

-- The new net leads from one node to another by so many registers of this width, numbered on from the first free number, and so many
-- adders. No adder stands before another where none stands before `from`, and then none stands before `to`. What is added may stand in a
-- linear group.
pub record IsPiece (old new : NetView) (from to : Node) (width registers adders : ℕ) : Type 0 where
  pub grows : Grows old new
  pub within : to.place < length new.cells
  pub adds : adders_in old.group new.cells ≡ adders_in old.group old.cells + adders
  pub named : SameNamed old.cells new.cells
  pub names : LeavesFree old.cells new.cells (IsTouched old.group Register)
  pub counted : (count : ℕ) → IsCounted old.cells old.group Register count → IsCounted new.cells old.group Register (count + registers)
  pub wide : (count : ℕ) → IsCounted old.cells old.group Register count → (j : ℕ) → j < registers → HasRegister new.cells old.group (count + j) width
  pub shallow : IsShallow old.cells old.group → IsPlain old.cells old.group from.place → IsShallow new.cells old.group
  pub plain : IsShallow old.cells old.group → IsPlain old.cells old.group from.place → IsPlain new.cells old.group to.place
  pub linear : KeepsShapes old.cells new.cells

-- what a register's next is: the node itself, or where there is a gate, the node where it is set and else the register
abbrev pub IsNext : NetView → NetView → Option Node → Node → Node → ℕ → Node → Type 0
IsNext old new None node register width next = (new ≡ old) × (next ≡ node)
IsNext old new (Some on) node register width next = Adds old new next width (Mux on node register)

-- in every run, however it is cut, the register has what the step gave at the last of the ticks first, first + period, .., and 0 before
pub record Steps (cells : List Cell) (period first : ℕ) (register : Node) (step : Cut → Values → ℕ → ℤ) : Type 0 where
  pub within : register.place < length cells
  pub holds : (cut : Cut) → IsCut cut → (inputs : ℕ → ℤ) (values : Values) → IsRun cut cells inputs values
      → (t taken : ℕ) → HasTaken period first taken t → values t register.place ≡ taken_value (λ k. step cut values (first + k * period)) taken 0

-- the new net has a register that takes the stream's values
pub record AddsHeld (old new : NetView) (from : Stream) (width : ℕ) (to : Node) : Type 0 where
  pub piece : IsPiece old new from.node to width 1 0
  pub shallow : IsShallow old.cells old.group → IsShallow new.cells old.group
  pub plain : IsPlain new.cells old.group to.place
  pub steps : Steps new.cells from.period from.offset to (λ cut values t. cut false width (values t from.node.place))

-- the new net has a register to which the stream's values are added
pub record AddsIntegrator (old new : NetView) (from : Stream) (width : ℕ) (to : Node) : Type 0 where
  pub piece : IsPiece old new from.node to width 1 1
  pub steps : Steps new.cells from.period from.offset to (λ cut values t. cut false width (values t to.place +ℤ values t from.node.place))

-- the values of a stream as a sequence
abbrev pub sampled : Values → Stream → Sequence
sampled values stream (pos m) = shown values stream m
sampled values stream (negsuc m) = pos 0

-- a node at the ticks of a stream
abbrev pub at_ticks : Stream → Node → Stream
at_ticks from node = record { node = node; period = from.period; offset = from.offset }

-- at each tick before which so many values were taken, the node has what so many integrators make of the values, in every run, cut or uncut
pub record HoldsSums (cells : List Cell) (from : Stream) (width count : ℕ) (node : Node) : Type 0 where
  pub sums : (cut : Cut) → IsCut cut → (inputs : ℕ → ℤ) (values : Values) → IsRun cut cells inputs values
      → (t taken : ℕ) → HasTaken from.period from.offset taken t → values t node.place ≡ integrators (cut false width) count (sampled values from) (pos taken -ℤ pos count)

-- the new net leads to such a node by so many integrators
pub record AddsIntegrators (old new : NetView) (from : Stream) (width stages : ℕ) (to : Node) : Type 0 where
  pub piece : IsPiece old new from.node to width stages stages
  pub holds : HoldsSums new.cells from width stages to

-- a node of a list by its place, the node at place 0 behind the last
abbrev pub node_at : List Node → ℕ → Node
node_at nodes at = get_or nodes at (record { place = 0 })

-- the new net has these integrators in a row, each of which holds what it and those before it make of the values
pub record AddsRow (old new : NetView) (from : Stream) (width stages : ℕ) (registers : List Node) : Type 0 where
  pub last : AddsIntegrators old new from width stages (node_at registers (stages - 1))
  pub each : (stage : ℕ) → stage < stages → HoldsSums new.cells from width (suc stage) (node_at registers stage)

-- a node so many ticks after those of a stream
abbrev pub after_ticks : Stream → ℕ → Node → Stream
after_ticks from ticks node = record { node = node; period = from.period; offset = from.offset + ticks }

-- at each tick before which so many values were taken, the node has the value that came so many before the next, in every run, cut or uncut
pub record HoldsEarlier (cells : List Cell) (from : Stream) (width count : ℕ) (node : Node) : Type 0 where
  pub earlier_value : (cut : Cut) → IsCut cut → (inputs : ℕ → ℤ) (values : Values) → IsRun cut cells inputs values
      → (t taken : ℕ) → HasTaken from.period from.offset taken t → values t node.place ≡ earlier (cut false width) count (sampled values from) (pos taken)

-- The new net has the registers of a comb: those of its delay, newest value first, and that of the difference, which has the comb of the
-- values a tick later and at each tick that of the last value taken.
pub record AddsComb (old new : NetView) (from : Stream) (width delay : ℕ) (registers : Comb delay) : Type 0 where
  pub piece : IsPiece old new from.node registers.difference width (delay + 1) 1
  pub delays : (age : ℕ) → age < delay → HoldsEarlier new.cells from width (suc age) (node_at registers.delays age)
  pub holds : (cut : Cut) → IsCut cut → (inputs : ℕ → ℤ) (values : Values) → IsRun cut new.cells inputs values
      → (t taken : ℕ) → HasTaken from.period from.offset taken t → values t registers.difference.place ≡ comb (cut false width) delay (sampled values from) (pos taken -ℤ pos 1)
  pub differs : (cut : Cut) → IsCut cut → (inputs : ℕ → ℤ) (values : Values) → IsRun cut new.cells inputs values
      → (n : ℤ) → sampled values (after_ticks from 1 registers.difference) n ≡ comb (cut false width) delay (sampled values from) n

-- the new net has a stream of what so many combs make of the values, one tick later for each
pub record AddsCombs (old new : NetView) (from : Stream) (width stages delay : ℕ) (to : Stream) : Type 0 where
  pub piece : IsPiece old new from.node to.node width (stages * (delay + 1)) stages
  pub period : to.period ≡ from.period
  pub offset : to.offset ≡ from.offset + stages
  pub differs : (cut : Cut) → IsCut cut → (inputs : ℕ → ℤ) (values : Values) → IsRun cut new.cells inputs values
      → (n : ℤ) → sampled values to n ≡ combs (cut false width) stages delay (sampled values from) n

-- a comb of a list by its place, one of the node at place 0 behind the last
abbrev pub comb_at : {delay : ℕ} → List (Comb delay) → ℕ → Comb delay
comb_at {delay} each at = get_or each at (record { delays = []; difference = record { place = 0 } })

-- In every run, cut or uncut, the comb with so many others before it holds its values at each tick: the registers of its delay those that
-- came before the next, and the register of its difference that of the last value taken.
pub record HoldsComb (cells : List Cell) (from : Stream) (width stage delay : ℕ) (registers : Comb delay) : Type 0 where
  pub delays : (age : ℕ) → age < delay → (cut : Cut) → IsCut cut → (inputs : ℕ → ℤ) (values : Values) → IsRun cut cells inputs values → (t taken : ℕ) → HasTaken from.period (from.offset + stage) taken t
      → values t (node_at registers.delays age).place ≡ earlier (cut false width) (suc age) (combs (cut false width) stage delay (sampled values from)) (pos taken)
  pub difference : (cut : Cut) → IsCut cut → (inputs : ℕ → ℤ) (values : Values) → IsRun cut cells inputs values → (t taken : ℕ) → HasTaken from.period (from.offset + stage) taken t
      → values t registers.difference.place ≡ combs (cut false width) (suc stage) delay (sampled values from) (pos taken -ℤ pos 1)

-- the new net has these combs in a row, each of which holds what it and those before it make of the values, and the stream of the last one
pub record AddsCombRow (old new : NetView) (from : Stream) (width stages delay : ℕ) (each : List (Comb delay)) (to : Stream) : Type 0 where
  pub row : AddsCombs old new from width stages delay to
  pub holds : (stage : ℕ) → stage < stages → HoldsComb new.cells from width stage delay (comb_at each stage)

-- the new net has a stream with so many times as many values, of which all but every `factor`-th are 0
pub record AddsStuffed (old new : NetView) (from : Stream) (width factor : ℕ) (to : Stream) : Type 0 where
  pub piece : IsPiece old new from.node to.node width 0 0
  pub period : to.period * factor ≡ from.period
  pub offset : to.offset ≡ from.offset
  pub stuffs : (cut : Cut) → IsCut cut → (inputs : ℕ → ℤ) (values : Values) → IsRun cut new.cells inputs values
      → (m : ℤ) → sampled values to m ≡ up factor (λ n. cut false width (sampled values from n)) m

-- The new net has a stream of what so many integrators, every `factor`-th value and as many combs make of the values.
pub record AddsDecimator (old new : NetView) (from : Stream) (width factor stages delay : ℕ) (to : Stream) : Type 0 where
  pub piece : IsPiece old new from.node to.node width (stages + stages * (delay + 1)) (stages + stages)
  pub period : to.period ≡ from.period * factor
  pub offset : to.offset ≡ from.offset + ((stages - 1) * from.period + 1 + stages)
  pub decimates : (cut : Cut) → IsCut cut → (inputs : ℕ → ℤ) (values : Values) → IsRun cut new.cells inputs values
      → (n : ℤ) → sampled values to n ≡ decimator (cut false width) factor stages delay (sampled values from) n

-- The new net has a stream of what so many combs, zeros between their values and as many integrators make of the values.
pub record AddsInterpolator (old new : NetView) (from : Stream) (width factor stages delay : ℕ) (to : Stream) : Type 0 where
  pub piece : IsPiece old new from.node to.node width (stages + stages * (delay + 1)) (stages + stages)
  pub period : to.period * factor ≡ from.period
  pub offset : to.offset ≡ from.offset + (stages + (stages - 1) * to.period + 1)
  pub interpolates : (cut : Cut) → IsCut cut → (inputs : ℕ → ℤ) (values : Values) → IsRun cut new.cells inputs values
      → (n : ℤ) → sampled values to n ≡ interpolator (cut false width) factor stages delay (sampled values from) n
