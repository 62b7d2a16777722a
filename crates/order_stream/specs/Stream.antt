-- A simulation that draws, in the midst of a stimulus.
use Rattle.std.specs.Prelude.{◌≡◌, ℕ, List, Option}
use Rattle.verilog_tree.specs.declared.tree.Module.{Module}
use Rattle.verilog_tree.specs.View.{design_view}
use Rattle.sample_file.specs.declared.fault.LineFault.{LineFault}
use Rattle.sample_file.specs.Reading.{Place, start, rows_from}
use Rattle.clock_sim.specs.Simulated.{values_of}
use Rattle.sim_stream.specs.Given.{cycles_for}
use Rattle.order_stream.specs.Ordered.{GivesOrdered}

-- how far the stimulus was read, the values of all names, the state of the draws, how many cycles there were, and how many ticks since the last reset
pub record Midst : Type 0 where
  pub design : Module
  pub values : List ℕ
  pub number : ℕ
  pub place : Place
  pub cycle : ℕ
  pub tick : ℕ

-- what is given from here on, where these bytes follow
abbrev pub GivesFrom : Midst → List ℕ → List ℕ → Option LineFault → Type 0
GivesFrom m bytes text last = GivesOrdered (design_view m.design) (values_of m.values) m.cycle m.tick m.number (cycles_for (design_view m.design) (rows_from m.place bytes)) text last

-- the registers are 0, the state of the draws is this number, and nothing of the stimulus was read
pub record IsStart (m : Midst) (simulated : Module) (number : ℕ) : Type 0 where
  pub design : m.design ≡ simulated
  pub values : values_of m.values ≡ (λ n. 0)
  pub number_is : m.number ≡ number
  pub place : m.place ≡ start 3
  pub cycle : m.cycle ≡ 0
  pub tick : m.tick ≡ 0
