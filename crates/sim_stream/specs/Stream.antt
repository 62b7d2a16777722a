-- A simulation in the midst of a stimulus.
use Rattle.std.specs.Prelude.{◌≡◌, ℕ, ◌<◌, ◌≤◌, ◌^◌, List, Option}
use Rattle.verilog_tree.specs.declared.tree.Module.{Module}
use Rattle.verilog_tree.specs.Checks.{Passes}
use Rattle.verilog_tree.specs.View.{design_view}
use Rattle.sample_file.specs.declared.fault.LineFault.{LineFault}
use Rattle.sample_file.specs.Reading.{Place, start, rows_from}
use Rattle.clock_sim.specs.Simulated.{values_of}
use Rattle.sim_stream.specs.Given.{Gives, cycles_for}

-- how far the stimulus was read, the values of all names, how many cycles there were, and how many ticks since the last reset
pub record Midst : Type 0 where
  pub design : Module
  pub values : List ℕ
  pub place : Place
  pub cycle : ℕ
  pub tick : ℕ

-- what is given from here on, where these bytes follow
abbrev pub GivesFrom : Midst → List ℕ → List ℕ → Option LineFault → Type 0
GivesFrom m bytes text last = Gives (design_view m.design) (values_of m.values) m.cycle m.tick (cycles_for (design_view m.design) (rows_from m.place bytes)) text last

-- the registers are 0, and nothing of the stimulus was read
pub record IsStart (m : Midst) (simulated : Module) : Type 0 where
  pub design : m.design ≡ simulated
  pub values : values_of m.values ≡ (λ n. 0)
  pub place : m.place ≡ start 3
  pub cycle : m.cycle ≡ 0
  pub tick : m.tick ≡ 0

-- the module passes the checks, and there are no more ticks than cycles, and no more cycles than lines that have ended
pub record IsMidway (design : Module) (place : Place) (cycle tick : ℕ) : Type 0 where
  pub passes : Passes (design_view design)
  pub ticks : tick ≤ cycle
  pub cycles : cycle ≤ place.ended
  pub few : place.ended < 2 ^ 32
