-- A run in the midst of its samples.
use Rattle.std.specs.Prelude.{◌≡◌, ℕ, zero, suc, ◌+◌, ◌*◌, ◌-◌, ◌<◌, ◌≤◌, ◌^◌, None, List, [], length, Option}
use Rattle.verilog_tree.specs.declared.tree.Module.{Module}
use Rattle.verilog_tree.specs.Tree.{Design}
use Rattle.verilog_tree.specs.Checks.{Passes}
use Rattle.verilog_tree.specs.Names.{shapes_of}
use Rattle.verilog_tree.specs.Shown.{ports_of}
use Rattle.verilog_tree.specs.View.{design_view}
use Rattle.sample_file.specs.declared.fault.LineFault.{LineFault}
use Rattle.sample_file.specs.Reading.{Place, rows_from, no_rows, most_before}
use Rattle.sample_file.specs.Ranges.{samples_of}
use Rattle.clock_sim.specs.Simulated.{values_of}
use Rattle.chain_run.specs.declared.timing.ChainTiming.{ChainTiming}
use Rattle.chain_run.specs.Given.{Gives}
use Rattle.chain_run.specs.Outputs.{IsTiming}
use Rattle.chain_run.specs.Ticks.{end_tick}

-- the values of all names, how far the file was read, how many samples there were, and how many ticks
pub record Midst : Type 0 where
  pub design : Module
  pub values : List ℕ
  pub timing : ChainTiming
  pub place : Place
  pub samples : ℕ
  pub tick : ℕ

-- what is given from here on, where these bytes follow
abbrev pub GivesFrom : Midst → List ℕ → List ℕ → Option LineFault → Type 0
GivesFrom m bytes text last = Gives (design_view m.design) (values_of m.values) m.timing m.samples m.tick (samples_of m.timing.width (rows_from m.place bytes)) text last

-- the first tick at which a sample may follow
abbrev pub next_tick : Midst → ℕ
next_tick m = m.samples * m.timing.ticks

-- how many ticks are left of the samples so far
abbrev pub ticks_due : Midst → ℕ
ticks_due m = next_tick m - m.tick

abbrev pub bytes_before : Midst → ℕ
bytes_before m = most_before m.place

-- whether a line has begun
abbrev pub one_where_begun : ℕ → ℕ
one_where_begun zero = 0
one_where_begun (suc n) = 1

-- how many ticks may be left at the end of the file: a line that has begun may be a sample with fewer than 2 ^ 50 ticks
abbrev pub ticks_left : Midst → ℕ
ticks_left m = one_where_begun (length m.place.begun) * 2 ^ 50 + (end_tick m.timing m.samples None - m.tick)

-- the file is at its end
pub record IsClosed (m : Midst) : Type 0 where
  pub none : rows_from m.place [] ≡ no_rows

-- `in_data` has the bits of a sample
pub record TakesSamples (d : Design) (width : ℕ) : Type 0 where
  pub same : (shapes_of d).width (ports_of d).in_data ≡ width

-- what holds in the midst of a run
pub record IsRunning (design : Module) (t : ChainTiming) (place : Place) (samples tick : ℕ) : Type 0 where
  pub passes : Passes (design_view design)
  pub takes : TakesSamples (design_view design) t.width
  pub timing : IsTiming t
  pub counted : samples ≤ place.ended
  pub few : place.ended < 2 ^ 32
  pub ticks : tick ≤ samples * 2 ^ 17 + 2 ^ 33
