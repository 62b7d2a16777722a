-- A simulation of a whole stimulus.
use Rattle.std.proofs.Common.{◌≡◌, ℕ, List, map, Option, refl, subst}
use Rattle.verilog_tree.specs.declared.tree.Module.{Module}
use Rattle.verilog_tree.specs.Tree.{Design}
use Rattle.verilog_tree.specs.Meaning.{Values}
use Rattle.verilog_tree.specs.Shown.{Event, Shows}
use Rattle.verilog_tree.specs.View.{design_view}
use Rattle.sample_file.specs.declared.fault.LineFault.{LineFault}
use Rattle.sample_file.specs.declared.ranges.Stimulus.{Stimulus}
use Rattle.sample_file.specs.Reading.{Place, file_rows, rows_from}
use Rattle.sample_file.specs.Ranges.{Checked}
use Rattle.clock_sim.specs.Simulated.{values_of}
use Rattle.sim_stream.specs.Given.{Gives, cycle_at, cycles_for, printed_events}
use Rattle.sim_stream.specs.Stream.{Midst, GivesFrom, IsStart}

-- what is given from the start is the printed list of what the module shows
pub record IsPrinted (d : Design) (content : Values) (cycles : Checked Stimulus) (text : List ℕ) (last : Option LineFault) : Type 0 where
  pub events : List Event
  pub shows : Shows d content (map cycle_at cycles.items) events
  pub text_is : text ≡ printed_events events
  pub refused : last ≡ cycles.fault

pub printed-whole : (d : Design) (content : Values) (cycles : Checked Stimulus) (text : List ℕ) (last : Option LineFault) → Gives d content 0 0 cycles text last → IsPrinted d content cycles text last
printed-whole d content cycles text last g = record {
  events = _;
  shows = record { settled = g.settled; run = g.run; shown = refl };
  text_is = g.shown;
  refused = g.refused;
}

-- from registers of 0 over a whole file
pub from-start : (m : Midst) (design : Module) (bytes text : List ℕ) (last : Option LineFault) → IsStart m design → GivesFrom m bytes text last
    → Gives (design_view design) (λ n. 0) 0 0 (cycles_for (design_view design) (file_rows 3 bytes)) text last
from-start m design bytes text last is g =
    subst (λ (values : Values). Gives (design_view design) values 0 0 (cycles_for (design_view design) (file_rows 3 bytes)) text last) is.values
    (subst (λ (n : ℕ). Gives (design_view design) (values_of m.values) 0 n (cycles_for (design_view design) (file_rows 3 bytes)) text last) is.tick
    (subst (λ (n : ℕ). Gives (design_view design) (values_of m.values) n m.tick (cycles_for (design_view design) (file_rows 3 bytes)) text last) is.cycle
    (subst (λ (p : Place). Gives (design_view design) (values_of m.values) m.cycle m.tick (cycles_for (design_view design) (rows_from p bytes)) text last) is.place
    (subst (λ (d : Module). Gives (design_view d) (values_of m.values) m.cycle m.tick (cycles_for (design_view d) (rows_from m.place bytes)) text last) is.design g))))
