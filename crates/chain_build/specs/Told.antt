-- What is told of the linear registers of a plan for which one bit is too few.
use Rattle.std.specs.Prelude.{◌≡◌, ℕ, ◌^◌, ◌<◌, ◌≤◌, List, length, Some, slice_get}
use Rattle.mr_values.specs.declared.plan.Element.{Element}
use Rattle.net_graph.specs.declared.cell.Cell.{Cell}
use Rattle.net_graph.specs.Cells.{cell_at}
use Rattle.net_graph.specs.Name.{written_name}
use Rattle.stage_law.specs.Registers.{HeldSum}
use Rattle.chain_build.specs.Extremes.{IsExtremeInput, IsReached}
use Rattle.chain_build.specs.Linear.{LinearRegister, linear}
use Rattle.chain_build.specs.declared.extremes.RegisterExtreme.{RegisterExtreme}
use Rattle.chain_build.specs.declared.extremes.RegisterSamples.{RegisterSamples}

-- the plan has this linear register, and one bit is too few for it
pub record IsWideRegister (width ticks : ℕ) (elements : List Element) (r : LinearRegister) (s : HeldSum) : Type 0 where
  pub place : ℕ
  pub there : slice_get (linear width ticks elements) place ≡ Some r
  pub needed : r.needed ≡ Some s

-- what is told of a register of the net: some samples drive it to this value at this tick, and one bit less doesn't hold the value
pub record TellsRegister (width ticks : ℕ) (cells : List Cell) (r : LinearRegister) (s : HeldSum) (told : RegisterExtreme) : Type 0 where
  pub inside : told.register.place < length cells
  pub named : (cell_at cells told.register.place).name ≡ Some r.name
  pub reached : IsReached width ticks r s told.tick told.value

-- it is told of each linear register for which one bit is too few, and of no other
pub record TellsRegisters (width ticks : ℕ) (elements : List Element) (cells : List Cell) (told : List RegisterExtreme) : Type 0 where
  pub each : (r : LinearRegister) (s : HeldSum) → IsWideRegister width ticks elements r s → (j : ℕ) × (t : RegisterExtreme) × (slice_get told j ≡ Some t) × TellsRegister width ticks cells r s t
  pub only : (j : ℕ) (t : RegisterExtreme) → slice_get told j ≡ Some t → (r : LinearRegister) × (s : HeldSum) × IsWideRegister width ticks elements r s × TellsRegister width ticks cells r s t

-- these samples, which are few, drive the linear register of this text, whose numbers have at most 64 bits, to this value at this tick
pub record IsRegisterExtreme (width ticks : ℕ) (elements : List Element) (text : List ℕ) (x : RegisterSamples) : Type 0 where
  pub r : LinearRegister
  pub s : HeldSum
  pub wide : IsWideRegister width ticks elements r s
  pub named : written_name r.name ≡ text
  pub small : (r.name.group < 2 ^ 64) × (r.name.number < 2 ^ 64)
  pub input : IsExtremeInput width ticks r s x.samples.items x.tick x.value
  pub few : length x.samples.items ≤ 2 ^ 27

-- no linear register of the plan has this text and needs more than one bit
pub record HasNoRegister (width ticks : ℕ) (elements : List Element) (text : List ℕ) : Type 0 where
  pub none : (r : LinearRegister) (s : HeldSum) → IsWideRegister width ticks elements r s → written_name r.name ≡ text → ⊥
