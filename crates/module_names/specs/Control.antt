-- Control names have one value in all runs.
use Rattle.std.specs.Prelude.{◌≡◌, ℕ, ◌+◌, true, List, ◌∷◌, ◌++◌, length, take, Some, slice_get}
use Rattle.verilog_tree.specs.Meaning.{Values}
use Rattle.verilog_tree.specs.Names.{shapes_of, text_of, is_control}
use Rattle.verilog_tree.specs.Shown.{Cycle, RunsOver, EachFits, ports_of}
use Rattle.verilog_tree.specs.Tree.{Design}
use Rattle.net_module.specs.Steps.{HasNoReset, ticks_in}

-- the settled values of a run, with any content of the registers, over cycles of which this is the last reset cycle
pub record IsRunAfterReset (d : Design) (content : Values) (before after : List Cycle) (reset : Cycle) (settled : List Values) : Type 0 where
  pub run : RunsOver d content (before ++ reset ∷ after) settled
  pub is_reset : reset.rst ≡ true
  pub none : HasNoReset after
  pub fit : EachFits ((shapes_of d).width (ports_of d).in_data) after

-- these values are settled in some run at a tick, so many ticks after the last reset cycle
pub record IsAtTick (d : Design) (tick : ℕ) (now : Values) : Type 0 where
  pub content : Values
  pub before : List Cycle
  pub after : List Cycle
  pub reset : Cycle
  pub settled : List Values
  pub runs : IsRunAfterReset d content before after reset settled
  pub place : ℕ
  pub cycle : Cycle
  pub there : slice_get after place ≡ Some cycle
  pub enabled : cycle.ce ≡ true
  pub ticks : ticks_in (take place after) ≡ tick
  pub values : slice_get settled (length before + 1 + place) ≡ Some now

-- a name that begins `ctl_` has at each tick after a reset the same value, whatever the samples, the enables and the content before are
pub record HasControl (d : Design) : Type 0 where
  pub same : (tick : ℕ) (now other : Values) → IsAtTick d tick now → IsAtTick d tick other → (name : ℕ) → is_control (text_of d name) ≡ true → now name ≡ other name
