-- How a cycle of a simulation that draws ends.
use Rattle.std.specs.Prelude.{◌≡◌, ℕ, ◌+◌, List, ◌++◌, Option, Result, Ok, Err}
use Rattle.verilog_tree.specs.Tree.{Design}
use Rattle.verilog_tree.specs.Meaning.{Values}
use Rattle.sample_file.specs.declared.fault.LineFault.{LineFault}
use Rattle.sample_file.specs.declared.ranges.Stimulus.{Stimulus}
use Rattle.sample_file.specs.declared.row.Row.{Row}
use Rattle.sample_file.specs.Ranges.{Checked, item_then}
use Rattle.row_stream.specs.declared.fault.StreamFault.{StreamFault}
use Rattle.row_stream.specs.declared.fault.StreamFault.TheVariants.{Line, Memory}
use Rattle.sim_stream.specs.Ends.{cycle_in}
use Rattle.order_stream.specs.Ordered.{GivesOrdered}

-- one cycle was run: before what the others give stands its line, where it shows something
pub record RunsCycle (d : Design) (old : Values) (cycle tick state : ℕ) (row : Row) (new : Values) (ticks new_state : ℕ) (line : List ℕ) : Type 0 where
  pub gives : (others : Checked Stimulus) (text : List ℕ) (last : Option LineFault) → GivesOrdered d new (cycle + 1) ticks new_state others text last
      → GivesOrdered d old cycle tick state (item_then (cycle_in d row) others) (line ++ text) last

-- a cycle was run, or its line is refused. The output gets its line alone, and nothing at want of memory
abbrev pub CycleEnds : Design → Values → ℕ → ℕ → ℕ → Row → List ℕ → Result ℕ StreamFault → Values → ℕ → List ℕ → Type 0
CycleEnds d old cycle tick state row before (Ok ticks) new new_state after = (line : List ℕ) × (after ≡ before ++ line) × RunsCycle d old cycle tick state row new ticks new_state line
CycleEnds d old cycle tick state row before (Err (Line fault)) new new_state after = (after ≡ before) × (cycle_in d row ≡ Err fault)
CycleEnds d old cycle tick state row before (Err Memory) new new_state after = after ≡ before
