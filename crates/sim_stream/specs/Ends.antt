-- How a cycle of a simulation ends.
use Rattle.std.specs.Prelude.{◌≡◌, ℕ, ◌+◌, List, ◌++◌, Option, Result, Ok, Err}
use Rattle.verilog_tree.specs.Tree.{Design}
use Rattle.verilog_tree.specs.Meaning.{Values}
use Rattle.verilog_tree.specs.Names.{shapes_of}
use Rattle.verilog_tree.specs.Shown.{ports_of}
use Rattle.sample_file.specs.declared.fault.LineFault.{LineFault}
use Rattle.sample_file.specs.declared.ranges.Stimulus.{Stimulus}
use Rattle.sample_file.specs.declared.row.Row.{Row}
use Rattle.sample_file.specs.Ranges.{Checked, item_then, stimulus_of}
use Rattle.row_stream.specs.declared.fault.StreamFault.{StreamFault}
use Rattle.row_stream.specs.declared.fault.StreamFault.TheVariants.{Line, Memory}
use Rattle.sim_stream.specs.Given.{Gives}

-- the row as a cycle of the module
abbrev pub cycle_in : Design → Row → Result Stimulus LineFault
cycle_in d row = stimulus_of ((shapes_of d).width (ports_of d).in_data) ((shapes_of d).signed (ports_of d).in_data) row

-- one cycle was run: before what the others give stands its line, where it shows something
pub record RunsCycle (d : Design) (old : Values) (cycle tick : ℕ) (row : Row) (new : Values) (ticks : ℕ) (line : List ℕ) : Type 0 where
  pub gives : (others : Checked Stimulus) (text : List ℕ) (last : Option LineFault) → Gives d new (cycle + 1) ticks others text last → Gives d old cycle tick (item_then (cycle_in d row) others) (line ++ text) last

-- a cycle was run, or its line is refused. The output gets its line alone, and nothing at want of memory
abbrev pub CycleEnds : Design → Values → ℕ → ℕ → Row → List ℕ → Result ℕ StreamFault → Values → List ℕ → Type 0
CycleEnds d old cycle tick row before (Ok ticks) new after = (line : List ℕ) × (after ≡ before ++ line) × RunsCycle d old cycle tick row new ticks line
CycleEnds d old cycle tick row before (Err (Line fault)) new after = (after ≡ before) × (cycle_in d row ≡ Err fault)
CycleEnds d old cycle tick row before (Err Memory) new after = after ≡ before
