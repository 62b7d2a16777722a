-- At most one adder between two registers.
use Rattle.std.specs.Prelude.{◌≡◌, ℕ, List, Option, Some, None, Bool, true, false, slice_get}
use Rattle.net_graph.specs.declared.cell.Cell.{Cell}
use Rattle.net_graph.specs.declared.cell.Node.{Node}
use Rattle.net_graph.specs.declared.cell.Item.{Item}
use Rattle.net_graph.specs.declared.cell.Item.TheVariants.{Input, Constant, Add, Sub, Shl, Shr, Mux, Equal, Bits, Register}
use Rattle.net_graph.specs.WellFormed.{IsBound}

-- a register, the input or a constant
abbrev pub is_source : Option Item → Bool
is_source None = true
is_source (Some Input) = true
is_source (Some (Constant v)) = true
is_source (Some (Add a b)) = false
is_source (Some (Sub a b)) = false
is_source (Some (Shl a by)) = false
is_source (Some (Shr a by)) = false
is_source (Some (Mux on a b)) = false
is_source (Some (Equal a b)) = false
is_source (Some (Bits a high low)) = false
is_source (Some (Register next)) = true

-- the node that is shifted, or whose bits are selected
abbrev pub passed_on : Option Item → Option Node
passed_on None = None
passed_on (Some Input) = None
passed_on (Some (Constant v)) = None
passed_on (Some (Add a b)) = None
passed_on (Some (Sub a b)) = None
passed_on (Some (Shl a by)) = Some a
passed_on (Some (Shr a by)) = Some a
passed_on (Some (Mux on a b)) = None
passed_on (Some (Equal a b)) = None
passed_on (Some (Bits a high low)) = Some a
passed_on (Some (Register next)) = None

-- No sum or difference of the group stands between this node and the registers before it: it is of another group, or a register, the
-- input or a constant, or it is made of such nodes by shifting, selecting or comparing.
pub data IsPlain (cells : List Cell) (group : ℕ) : ℕ → Type 0 where
  of_other : (place : ℕ) (cell : Cell) → slice_get cells place ≡ Some cell → (cell.group ≡ group → ⊥) → IsPlain cells group place
  begins : (place : ℕ) (cell : Cell) → slice_get cells place ≡ Some cell → is_source cell.item ≡ true → IsPlain cells group place
  passes : (place : ℕ) (cell : Cell) (a : Node) → slice_get cells place ≡ Some cell → passed_on cell.item ≡ Some a → IsPlain cells group a.place → IsPlain cells group place
  chooses : (place : ℕ) (cell : Cell) (on a b : Node) → slice_get cells place ≡ Some cell → cell.item ≡ Some (Mux on a b) → IsPlain cells group on.place → IsPlain cells group a.place → IsPlain cells group b.place
      → IsPlain cells group place
  compares : (place : ℕ) (cell : Cell) (a b : Node) → slice_get cells place ≡ Some cell → cell.item ≡ Some (Equal a b) → IsPlain cells group a.place → IsPlain cells group b.place → IsPlain cells group place

-- the operands of a sum or difference are plain
abbrev pub TakesPlain : List Cell → ℕ → Option Item → Type 0
TakesPlain cells group (Some (Add a b)) = IsPlain cells group a.place × IsPlain cells group b.place
TakesPlain cells group (Some (Sub a b)) = IsPlain cells group a.place × IsPlain cells group b.place
TakesPlain cells group _ = Unit {0}

-- each register has its next, and no sum or difference of the group takes another without a register between them
pub record IsShallow (cells : List Cell) (group : ℕ) : Type 0 where
  pub bound : IsBound cells
  pub each : (place : ℕ) (cell : Cell) → slice_get cells place ≡ Some cell → cell.group ≡ group → TakesPlain cells group cell.item

-- no node is of the group
pub record IsUntouched (cells : List Cell) (group : ℕ) : Type 0 where
  pub none : (place : ℕ) (cell : Cell) → slice_get cells place ≡ Some cell → cell.group ≡ group → ⊥
