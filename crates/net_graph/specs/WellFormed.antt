-- Which lists of nodes are nets: operands are earlier nodes, but for a register's next, and no two nodes have one name.
use Rattle.std.specs.Prelude.{◌≡◌, ℕ, ◌+◌, ◌-◌, ◌<◌, ◌≤◌, List, length, Option, Some, None, slice_get, IsSome, IsNone}
use Rattle.mr_values.specs.Width.{FitsWidth}
use Rattle.net_graph.specs.declared.cell.Cell.{Cell}
use Rattle.net_graph.specs.declared.cell.Node.{Node}
use Rattle.net_graph.specs.declared.cell.Item.{Item}
use Rattle.net_graph.specs.declared.cell.Item.TheVariants.{Input, Constant, Add, Sub, Shl, Shr, Mux, Equal, Bits, Register}
use Rattle.net_graph.specs.declared.name.Name.{Name}
use Rattle.net_graph.specs.declared.name.NameKind.{NameKind}
use Rattle.net_graph.specs.declared.netlist.NetFault.{NetFault}
use Rattle.net_graph.specs.declared.netlist.NetFault.TheVariants.{Unbound}
use Rattle.net_graph.specs.Name.{IsRegisterName, IsWireName}

abbrev pub IsWidth : ℕ → Type 0
IsWidth width = (1 ≤ width) × (width ≤ 128)

-- The operands of an item at this place are earlier nodes; a register may read any node of the list. A constant fits its width, shifts
-- are below 128, an equality is one bit, and a selection has as many bits as it selects.
abbrev pub OperandsBelow : ℕ → ℕ → ℕ → Option Item → Type 0
OperandsBelow place count width None = Unit {0}
OperandsBelow place count width (Some Input) = Unit {0}
OperandsBelow place count width (Some (Constant v)) = FitsWidth width v
OperandsBelow place count width (Some (Add a b)) = (a.place < place) × (b.place < place)
OperandsBelow place count width (Some (Sub a b)) = (a.place < place) × (b.place < place)
OperandsBelow place count width (Some (Shl a by)) = (a.place < place) × (by < 128)
OperandsBelow place count width (Some (Shr a by)) = (a.place < place) × (by < 128)
OperandsBelow place count width (Some (Mux on a b)) = (on.place < place) × (a.place < place) × (b.place < place)
OperandsBelow place count width (Some (Equal a b)) = (a.place < place) × (b.place < place) × (width ≡ 1)
OperandsBelow place count width (Some (Bits a high low)) = (a.place < place) × (low ≤ high) × (width ≡ high - low + 1)
OperandsBelow place count width (Some (Register next)) = next.place < count

-- a selection's bits are bits of its operand
pub record IsWithin (cells : List Cell) (a : Node) (high : ℕ) : Type 0 where
  pub inside : (cell : Cell) → slice_get cells a.place ≡ Some cell → high < cell.width

abbrev pub SelectsWithin : List Cell → Option Item → Type 0
SelectsWithin cells (Some (Bits a high low)) = IsWithin cells a high
SelectsWithin cells _ = Unit {0}

-- each register has a register's name, and no other node has
abbrev pub IsNamed : Option Name → Option Item → Type 0
IsNamed None None = ⊥
IsNamed None (Some (Register next)) = ⊥
IsNamed None (Some item) = Unit {0}
IsNamed (Some name) None = IsRegisterName name
IsNamed (Some name) (Some (Register next)) = IsRegisterName name
IsNamed (Some name) (Some item) = IsWireName name

-- a node at this place of a list that will have so many
pub record ReadsBelow (cells : List Cell) (place count : ℕ) (cell : Cell) : Type 0 where
  pub wide : IsWidth cell.width
  pub operands : OperandsBelow place count cell.width cell.item
  pub selects : SelectsWithin cells cell.item
  pub named : IsNamed cell.name cell.item

-- no node has this name
pub record IsFree (cells : List Cell) (name : Name) : Type 0 where
  pub none : (place : ℕ) (cell : Cell) → slice_get cells place ≡ Some cell → cell.name ≡ Some name → ⊥

abbrev pub IsFreeName : List Cell → Option Name → Type 0
IsFreeName cells None = Unit {0}
IsFreeName cells (Some name) = IsFree cells name

-- the least number that no name of this group and kind has
pub record IsLeastFree (cells : List Cell) (group : ℕ) (kind : NameKind) (number : ℕ) : Type 0 where
  pub free : IsFree cells (record { group = group; kind = kind; number = number })
  pub least : (lower : ℕ) → lower < number → IsFree cells (record { group = group; kind = kind; number = lower }) → ⊥

-- such a node may come next
pub record IsNode (cells : List Cell) (place count : ℕ) (cell : Cell) : Type 0 where
  pub reads : ReadsBelow cells place count cell
  pub free : IsFreeName cells cell.name

-- each node reads earlier nodes, but a register any, and names are apart
pub record IsWellFormed (cells : List Cell) : Type 0 where
  pub each : (place : ℕ) (cell : Cell) → slice_get cells place ≡ Some cell → ReadsBelow cells place (length cells) cell
  pub apart : (j k : ℕ) (cell other : Cell) (name : Name) → slice_get cells j ≡ Some cell → slice_get cells k ≡ Some other → cell.name ≡ Some name → other.name ≡ Some name → j ≡ k

-- each register has its next
pub record IsBound (cells : List Cell) : Type 0 where
  pub each : (place : ℕ) (cell : Cell) → slice_get cells place ≡ Some cell → IsSome cell.item

-- a net when it is done
pub record IsNetlist (cells : List Cell) : Type 0 where
  pub well_formed : IsWellFormed cells
  pub bound : IsBound cells

-- the fault names the first register without a next
abbrev pub IsFirstUnbound : List Cell → NetFault → Type 0
IsFirstUnbound cells (Unbound id) = (id < length cells) × ((cell : Cell) → slice_get cells id ≡ Some cell → IsNone cell.item) × ((place : ℕ) (cell : Cell) → place < id → slice_get cells place ≡ Some cell → IsSome cell.item)
