-- What the nodes of a net are worth at each tick.
use Rattle.std.specs.Prelude.{◌≡◌, ℕ, suc, ◌+◌, ◌-◌, ◌^◌, ℤ, pos, negsuc, ◌+ℤ◌, ◌-ℤ◌, ◌*ℤ◌, List, Option, Some, None, slice_get, nat_eq, if◌then◌else◌, Bool}
use Rattle.mr_values.specs.Width.{floor_quotient, floor_remainder, chosen}
use Rattle.net_graph.specs.declared.cell.Cell.{Cell}
use Rattle.net_graph.specs.declared.cell.Item.{Item}
use Rattle.net_graph.specs.declared.cell.Item.TheVariants.{Input, Constant, Add, Sub, Shl, Shr, Mux, Equal, Bits, Register}
use Rattle.net_graph.specs.Name.{is_control}
use Rattle.net_graph.specs.Cut.{Cut}

-- 1 where two numbers are equal, else 0
abbrev pub equality : ℤ → ℤ → ℤ
equality (pos a) (pos b) = if nat_eq a b then pos 1 else pos 0
equality (pos a) (negsuc b) = pos 0
equality (negsuc a) (pos b) = pos 0
equality (negsuc a) (negsuc b) = if nat_eq a b then pos 1 else pos 0

-- the bits of v from place `high` down to place `low`: floor (v / 2 ^ low) modulo 2 ^ (high - low + 1)
abbrev pub selected : ℤ → ℕ → ℕ → ℤ
selected v high low = pos (floor_remainder (floor_quotient v (2 ^ low)) (2 ^ (high - low + 1)))

-- what an item makes of the input and of the values of a tick, before it is cut; a register has it one tick later
abbrev pub result_of : Item → ℤ → (ℕ → ℤ) → ℤ
result_of Input input now = input
result_of (Constant v) input now = v
result_of (Add a b) input now = now a.place +ℤ now b.place
result_of (Sub a b) input now = now a.place -ℤ now b.place
result_of (Shl a by) input now = now a.place *ℤ pos (2 ^ by)
result_of (Shr a by) input now = floor_quotient (now a.place) (2 ^ by)
result_of (Mux on a b) input now = chosen (now on.place) (now a.place) (now b.place)
result_of (Equal a b) input now = equality (now a.place) (now b.place)
result_of (Bits a high low) input now = selected (now a.place) high low
result_of (Register next) input now = now next.place

-- the value at each tick of the node at each place
abbrev pub Values : Type 0
Values = ℕ → ℕ → ℤ

-- The node at this place does at every tick what its item says, cut by `cut`. A register begins with 0; one without a next is free
-- after that.
abbrev pub Obeys : (ℤ → ℤ) → (ℕ → ℤ) → Values → ℕ → Option Item → Type 0
Obeys cut inputs values place None = (values 0 place ≡ pos 0) × ((t : ℕ) → cut (values t place) ≡ values t place)
Obeys cut inputs values place (Some (Register next)) = (values 0 place ≡ pos 0) × ((t : ℕ) → values (suc t) place ≡ cut (values t next.place))
Obeys cut inputs values place (Some item) = (t : ℕ) → values t place ≡ cut (result_of item (inputs t) (values t))

-- these values are a run of the net: each node obeys its item
pub record IsRun (cut : Cut) (cells : List Cell) (inputs : ℕ → ℤ) (values : Values) : Type 0 where
  pub each : (place : ℕ) (cell : Cell) → slice_get cells place ≡ Some cell → Obeys (cut (is_control cell) cell.width) inputs values place cell.item

-- the node at a place is control or not, and has this width
pub record HasShape (cells : List Cell) (place : ℕ) (control : Bool) (width : ℕ) : Type 0 where
  pub cell : Cell
  pub there : slice_get cells place ≡ Some cell
  pub same_control : is_control cell ≡ control
  pub same_width : cell.width ≡ width
