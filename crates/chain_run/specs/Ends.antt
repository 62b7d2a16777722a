-- How the calls of a run end.
use Rattle.std.specs.Prelude.{◌≡◌, ℕ, ◌-◌, Bool, List, [], ◌∷◌, ◌++◌, Option, Some, Result, Ok, Err, ℤ}
use Rattle.mr_values.specs.Width.{pattern}
use Rattle.mr_values.specs.declared.memory.Memory.{Memory as Shortage}
use Rattle.verilog_tree.specs.Tree.{Design}
use Rattle.verilog_tree.specs.Meaning.{Values}
use Rattle.sample_file.specs.declared.fault.LineFault.{LineFault}
use Rattle.sample_file.specs.declared.row.Row.{Row}
use Rattle.sample_file.specs.Ranges.{sample_of}
use Rattle.row_stream.specs.declared.fault.StreamFault.{StreamFault}
use Rattle.row_stream.specs.declared.fault.StreamFault.TheVariants.{Line, Memory}
use Rattle.row_stream.specs.Giving.{EndsOn}
use Rattle.chain_run.specs.Given.{RunsOn}
use Rattle.chain_run.specs.Stream.{Midst, GivesFrom}
use Rattle.chain_run.specs.Ticks.{tick_of, zeros}

-- a tick with these bits was run, and the output got the line of what it shows; nothing at want of memory
abbrev pub TickEnds : Design → Values → ℕ → List ℕ → Result (Unit {0}) Shortage → Values → List ℕ → Type 0
TickEnds d old bits before (Ok done) new after = (lines : List ℕ) × (after ≡ before ++ lines) × RunsOn d old (tick_of bits ∷ []) new lines
TickEnds d old bits before (Err short) new after = after ≡ before

-- ticks with 0 were run from one tick on, and the output got their lines; some of them at want of memory
abbrev pub ZerosEnd : Design → Values → ℕ → List ℕ → Result ℕ Shortage → Values → List ℕ → Type 0
ZerosEnd d old tick before (Ok ticks) new after = (lines : List ℕ) × (after ≡ before ++ lines) × RunsOn d old (zeros (ticks - tick)) new lines
ZerosEnd d old tick before (Err short) new after = (lines : List ℕ) × (after ≡ before ++ lines)

-- the row's tick was run
pub record RunsSample (d : Design) (old : Values) (width : ℕ) (row : Row) (new : Values) (lines : List ℕ) : Type 0 where
  pub sample : ℤ
  pub holds : sample_of width row ≡ Ok sample
  pub runs : RunsOn d old (tick_of (pattern width sample) ∷ []) new lines

-- it was run, or the row is refused; the output gets nothing at a refusal and at want of memory
abbrev pub SampleEnds : Design → Values → ℕ → Row → List ℕ → Result (Unit {0}) StreamFault → Values → List ℕ → Type 0
SampleEnds d old width row before (Ok done) new after = (lines : List ℕ) × (after ≡ before ++ lines) × RunsSample d old width row new lines
SampleEnds d old width row before (Err (Line fault)) new after = (after ≡ before) × (sample_of width row ≡ Err fault)
SampleEnds d old width row before (Err Memory) new after = after ≡ before

-- ticks were run that come before whatever bytes follow
pub record RunsDue (old new : Midst) (lines : List ℕ) : Type 0 where
  pub gives : (bytes text : List ℕ) (last : Option LineFault) → GivesFrom new bytes text last → GivesFrom old bytes (lines ++ text) last

-- ticks that are due were run, and the output got their lines; some of them at want of memory
abbrev pub DueEnds : Midst → Midst → List ℕ → Result Bool Shortage → List ℕ → Type 0
DueEnds old new before (Ok all) after = (lines : List ℕ) × (after ≡ before ++ lines) × RunsDue old new lines
DueEnds old new before (Err short) after = (lines : List ℕ) × (after ≡ before ++ lines)

-- the last row's tick was run, where there is one, or the row is refused
abbrev pub RowCloses : Midst → Midst → List ℕ → Result (Unit {0}) StreamFault → List ℕ → Type 0
RowCloses old new before (Ok done) after = (lines : List ℕ) × (after ≡ before ++ lines) × EndsOn (GivesFrom old) (GivesFrom new) lines
RowCloses old new before (Err (Line fault)) after = (after ≡ before) × GivesFrom old [] [] (Some fault)
RowCloses old new before (Err Memory) after = after ≡ before
