-- What is told of the widths of registers: a tick, and a value there that needs all bits.
use Rattle.std.specs.Prelude.{◌≡◌, ℕ, ◌+◌, ℤ, List, Option, None, Some, slice_get}
use Rattle.mr_values.specs.declared.plan.Element.{Element}
use Rattle.net_graph.specs.Name.{written_name}
use Rattle.stage_law.specs.Registers.{HeldSum}
use Rattle.verilog_tree.specs.Names.{text_of}
use Rattle.verilog_tree.specs.Tree.{Design}
use Rattle.chain_build.specs.declared.extremes.RegisterExtreme.{RegisterExtreme}
use Rattle.chain_build.specs.Extremes.{IsReached}
use Rattle.chain_build.specs.Linear.{LinearRegister, linear}
use Rattle.filter_text.specs.Registers.{register_number, IsReachedIn}

-- a list has a register whose name has this text, and for which one bit is too few
pub record IsWideIn (registers : List LinearRegister) (text : List ℕ) : Type 0 where
  pub place : ℕ
  pub r : LinearRegister
  pub there : slice_get registers place ≡ Some r
  pub named : written_name r.name ≡ text
  pub sum : HeldSum
  pub needed : r.needed ≡ Some sum

-- Told is, at the number of each name of a linear register of the plan for which one bit is too few, a tick and a value to which some
-- samples drive it and which needs all of its bits; and nothing at other numbers.
pub record TellsExtremes (elements : List Element) (width ticks : ℕ) (d : Design) (extremes : ℕ → Option (ℕ × ℤ)) : Type 0 where
  pub told : (name tick : ℕ) (value : ℤ) → extremes name ≡ Some (tick, value) → IsReachedIn width ticks d (text_of d name) tick value × IsWideIn (linear width ticks elements) (text_of d name)
  pub untold : (name : ℕ) → extremes name ≡ None → IsWideIn (linear width ticks elements) (text_of d name) → ⊥

-- ---- in a list

abbrev pub pair_of : Option (Option RegisterExtreme) → Option (ℕ × ℤ)
pair_of None = None
pair_of (Some None) = None
pair_of (Some (Some e)) = Some (e.tick, e.value)

-- what a list tells at a number; past its end nothing
abbrev pub told_at : List (Option RegisterExtreme) → ℕ → Option (ℕ × ℤ)
told_at extremes name = pair_of (slice_get extremes name)

-- what stands at a number is told of a register whose name has this number: it is six past the place of a node behind the first, the input
pub record IsToldOf (told : List RegisterExtreme) (number : ℕ) (extreme : RegisterExtreme) : Type 0 where
  pub j : ℕ
  pub there : slice_get told j ≡ Some extreme
  pub own : extreme.register.place + 6 ≡ number

-- a list has what is told of each register, at the number of its name, and nothing else
pub record TellsByNumber (told : List RegisterExtreme) (extremes : List (Option RegisterExtreme)) : Type 0 where
  pub each : (j : ℕ) (t : RegisterExtreme) → slice_get told j ≡ Some t → (e : RegisterExtreme) × (slice_get extremes (t.register.place + 6) ≡ Some (Some e))
  pub only : (number : ℕ) (e : RegisterExtreme) → slice_get extremes number ≡ Some (Some e) → IsToldOf told number e

-- ---- register by register

-- the number is that of the name of a register for which one bit is too few, and some samples drive it to this value at this tick
pub record IsWideAt (elements : List Element) (width ticks : ℕ) (d : Design) (name tick : ℕ) (value : ℤ) : Type 0 where
  pub place : ℕ
  pub r : LinearRegister
  pub there : slice_get (linear width ticks elements) place ≡ Some r
  pub sum : HeldSum
  pub needed : r.needed ≡ Some sum
  pub own : register_number d r ≡ name
  pub reached : IsReached width ticks r sum tick value

-- what some samples reach is told of each such register of the plan, and nothing else
pub record TellsEach (elements : List Element) (width ticks : ℕ) (d : Design) (extremes : ℕ → Option (ℕ × ℤ)) : Type 0 where
  pub each : (i : ℕ) (r : LinearRegister) (s : HeldSum) → slice_get (linear width ticks elements) i ≡ Some r → r.needed ≡ Some s → (tick : ℕ) × (value : ℤ) × (extremes (register_number d r) ≡ Some (tick, value))
  pub only : (name tick : ℕ) (value : ℤ) → extremes name ≡ Some (tick, value) → IsWideAt elements width ticks d name tick value
