-- What a module shows from the midst of a run on.
use Rattle.std.specs.Prelude.{◌≡◌, ℕ, List, ◌++◌, map, Option, ℤ}
use Rattle.verilog_tree.specs.Tree.{Design}
use Rattle.verilog_tree.specs.Meaning.{Values}
use Rattle.verilog_tree.specs.Names.{shapes_of}
use Rattle.verilog_tree.specs.Shown.{Cycle, Event, RunsOver, ports_of, events_of}
use Rattle.sample_file.specs.declared.fault.LineFault.{LineFault}
use Rattle.sample_file.specs.Ranges.{Checked}
use Rattle.chain_run.specs.declared.timing.ChainTiming.{ChainTiming}
use Rattle.chain_run.specs.Outputs.{printed_lines}
use Rattle.chain_run.specs.Ticks.{ticks_from}

-- a line for each value that is shown
abbrev pub shown_lines : List Event → List ℕ
shown_lines events = printed_lines (map (λ (e : Event). e.value) events)

-- from these registers on, over these cycles, the module shows the values that are printed here
pub record ShowsLines (d : Design) (content : Values) (cycles : List Cycle) (text : List ℕ) : Type 0 where
  pub settled : List Values
  pub run : RunsOver d content cycles settled
  pub shown : text ≡ shown_lines (events_of (shapes_of d) (ports_of d) cycles settled 0 0)

-- So many samples and ticks stand before these registers: this is printed where these samples follow, and `last` is the fault of the
-- line that is refused behind them.
pub record Gives (d : Design) (content : Values) (t : ChainTiming) (samples tick : ℕ) (xs : Checked ℤ) (text : List ℕ) (last : Option LineFault) : Type 0 where
  pub lines : ShowsLines d content (ticks_from t samples tick xs.items xs.fault) text
  pub refused : last ≡ xs.fault

-- some cycles were run: before what others show stand these lines
pub record RunsOn (d : Design) (old : Values) (cycles : List Cycle) (new : Values) (lines : List ℕ) : Type 0 where
  pub gives : (others : List Cycle) (text : List ℕ) → ShowsLines d new others text → ShowsLines d old (cycles ++ others) (lines ++ text)
