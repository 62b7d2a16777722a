-- The linear registers of a plan in its module, and inputs that need their widths.
use Rattle.std.specs.Prelude.{◌≡◌, ℕ, suc, ◌+◌, ◌-◌, ◌*◌, ◌<◌, ◌⊎◌, true, List, All, length, take, drop, Some, slice_get, slice_index, ℤ, pos}
use Rattle.mr_values.specs.declared.plan.Element.{Element}
use Rattle.mr_values.specs.Sequence.{samples, filter}
use Rattle.mr_values.specs.Timing.{groups}
use Rattle.mr_values.specs.Value.{chain}
use Rattle.mr_values.specs.Width.{FitsWidth, signed}
use Rattle.net_graph.specs.Name.{written_name}
use Rattle.stage_law.specs.Range.{InClass}
use Rattle.stage_law.specs.Registers.{HeldSum}
use Rattle.verilog_tree.specs.declared.tree.Kind.TheVariants.{Reg}
use Rattle.verilog_tree.specs.Meaning.{Values}
use Rattle.verilog_tree.specs.Names.{shapes_of, number_of, text_of, kind_of, is_in_group}
use Rattle.verilog_tree.specs.Shown.{Cycle}
use Rattle.verilog_tree.specs.Tree.{Design}
use Rattle.verilog_tree.specs.Uncut.{Numbers, IsUncutRun, number_at}
use Rattle.net_module.specs.Steps.{tick_data, ticks_in}
use Rattle.chain_build.specs.Linear.{LinearRegister, linear, is_linear_number}
use Rattle.filter_text.specs.Runs.{IsRunFrom, samples_in}

-- the number of a register's name
abbrev pub register_number : Design → LinearRegister → ℕ
register_number d r = number_of d (written_name r.name)

-- The module has this register. With so many ticks before a cycle after the last reset cycle as the sum that needs its width asks for, it has
-- that sum over the samples since then.
pub record IsLinearRegister (width ticks : ℕ) (d : Design) (r : LinearRegister) : Type 0 where
  pub named : text_of d (register_number d r) ≡ written_name r.name
  pub is_register : kind_of d (register_number d r) ≡ Some Reg
  pub wide : (shapes_of d).width (register_number d r) ≡ r.width
  pub holds : (s : HeldSum) → r.needed ≡ Some s
      → (content : Values) (before after : List Cycle) (reset : Cycle) (settled : List Values) → IsRunFrom d width content before after reset settled
      → (k j : ℕ) (now : Values) → InClass s.class k → slice_get settled (length before + 1 + j) ≡ Some now → ticks_in (take j after) ≡ r.stream.offset + k * r.stream.period + s.lag
      → number_at d now (register_number d r) ≡ filter s.form (chain r.stream.elements (samples (samples_in width ticks after))) (pos k)

-- In each cycle after the last reset cycle the register has its whole number of every uncut run that begins at that reset cycle.
pub record IsNeverCut (width : ℕ) (d : Design) (r : LinearRegister) : Type 0 where
  pub whole : (content : Values) (before after : List Cycle) (reset : Cycle) (settled : List Values) → IsRunFrom d width content before after reset settled
      → (begins : Numbers) (uncut : List Numbers) → IsUncutRun d begins (drop (length before) settled) uncut
      → (j : ℕ) (now : Values) (whole : Numbers) → slice_get settled (length before + 1 + j) ≡ Some now → slice_get uncut (suc j) ≡ Some whole
      → number_at d now (register_number d r) ≡ whole (register_number d r)

-- a list has a register whose name has this text
pub record IsNamedIn (registers : List LinearRegister) (text : List ℕ) : Type 0 where
  pub place : ℕ
  pub r : LinearRegister
  pub there : slice_get registers place ≡ Some r
  pub named : written_name r.name ≡ text

-- the module has each linear register of the plan, and each of its registers that is named as one of a linear group is among them
pub record HasLinearRegisters (elements : List Element) (width ticks : ℕ) (d : Design) : Type 0 where
  pub each : (i : ℕ) (r : LinearRegister) → slice_get (linear width ticks elements) i ≡ Some r → IsLinearRegister width ticks d r
  pub only : (name group : ℕ) → kind_of d name ≡ Some Reg → is_linear_number (groups elements) group ≡ true → is_in_group group (text_of d name) ≡ true
      → IsNamedIn (linear width ticks elements) (text_of d name)

-- none of the plan's linear registers is ever cut
pub record AreNeverCut (elements : List Element) (width ticks : ℕ) (d : Design) : Type 0 where
  pub each : (i : ℕ) (r : LinearRegister) → slice_get (linear width ticks elements) i ≡ Some r → IsNeverCut width d r

-- ---- inputs that need a width

-- sample k is read at the tick k * ticks, as far as the cycles go; past the last sample 0 is
pub record ReadsSamples (width ticks : ℕ) (xs : List ℤ) (cycles : List Cycle) : Type 0 where
  pub each : (k : ℕ) → k * ticks < ticks_in cycles → signed width (slice_index (tick_data cycles) (k * ticks)) ≡ samples xs (pos k)

-- The samples fit their width. In every run with more ticks than this after the last reset cycle in which they are read, the register of
-- this name has the value at this tick; one bit less than its width doesn't hold it.
pub record IsExtremeOf (width ticks : ℕ) (d : Design) (name : List ℕ) (xs : List ℤ) (tick : ℕ) (value : ℤ) : Type 0 where
  pub fit : All (FitsWidth width) xs
  pub holds : (content : Values) (before after : List Cycle) (reset : Cycle) (settled : List Values) → IsRunFrom d width content before after reset settled
      → tick < ticks_in after → ReadsSamples width ticks xs after
      → (j : ℕ) (now : Values) → slice_get settled (length before + 1 + j) ≡ Some now → ticks_in (take j after) ≡ tick → number_at d now (number_of d name) ≡ value
  pub over : FitsWidth ((shapes_of d).width (number_of d name) - 1) value → ⊥

-- some samples drive the register of this name to this value at this tick
pub record IsReachedIn (width ticks : ℕ) (d : Design) (name : List ℕ) (tick : ℕ) (value : ℤ) : Type 0 where
  pub xs : List ℤ
  pub extreme : IsExtremeOf width ticks d name xs tick value

-- one bit is enough for the register, or some samples need all of its bits
abbrev pub IsLeastRegister : ℕ → ℕ → Design → LinearRegister → Type 0
IsLeastRegister width ticks d r = (r.width ≡ 1) ⊎ ((tick : ℕ) × (value : ℤ) × IsReachedIn width ticks d (written_name r.name) tick value)

-- each linear register of the plan has the least width
pub record AreLeastRegisters (elements : List Element) (width ticks : ℕ) (d : Design) : Type 0 where
  pub each : (i : ℕ) (r : LinearRegister) → slice_get (linear width ticks elements) i ≡ Some r → IsLeastRegister width ticks d r
