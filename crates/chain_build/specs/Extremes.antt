-- Inputs that need all bits of a linear register.
use Rattle.std.specs.Prelude.{◌≡◌, ℕ, ◌+◌, ◌-◌, ◌*◌, ◌<◌, ◌≤◌, List, All, length, Some, slice_get, ℤ, pos}
use Rattle.mr_values.specs.declared.plan.Element.{Element}
use Rattle.mr_values.specs.Sequence.{samples, filter}
use Rattle.mr_values.specs.Value.{chain}
use Rattle.mr_values.specs.Width.{FitsWidth}
use Rattle.stage_law.specs.Range.{InClass}
use Rattle.stage_law.specs.Registers.{HeldSum}
use Rattle.chain_build.specs.Linear.{LinearRegister, linear}

-- The samples fit their width and are all read by this tick, at which the register holds the sum at an index of its class; that is this
-- value, which one bit less than the register's width doesn't hold.
pub record IsExtremeInput (width ticks : ℕ) (r : LinearRegister) (s : HeldSum) (xs : List ℤ) (tick : ℕ) (value : ℤ) : Type 0 where
  pub fit : All (FitsWidth width) xs
  pub index : ℕ
  pub in_class : InClass s.class index
  pub is_tick : tick ≡ r.stream.offset + index * r.stream.period + s.lag
  pub early : (i : ℕ) → i < length xs → i * ticks ≤ tick
  pub is_value : value ≡ filter s.form (chain r.stream.elements (samples xs)) (pos index)
  pub over : FitsWidth (r.width - 1) value → ⊥

-- some samples do so
pub record IsReached (width ticks : ℕ) (r : LinearRegister) (s : HeldSum) (tick : ℕ) (value : ℤ) : Type 0 where
  pub xs : List ℤ
  pub input : IsExtremeInput width ticks r s xs tick value

-- some samples do so for each linear register of the plan for which one bit is too few
pub record HasExtremes (width ticks : ℕ) (elements : List Element) : Type 0 where
  pub each : (i : ℕ) (r : LinearRegister) (s : HeldSum) → slice_get (linear width ticks elements) i ≡ Some r → r.needed ≡ Some s → (tick : ℕ) × (value : ℤ) × IsReached width ticks r s tick value
