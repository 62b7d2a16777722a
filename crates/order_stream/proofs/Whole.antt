-- A simulation that draws, of a whole stimulus.
use Rattle.std.proofs.Common.{ℕ, List, Option, subst}
use Rattle.verilog_tree.specs.declared.tree.Module.{Module}
use Rattle.verilog_tree.specs.Meaning.{Values}
use Rattle.verilog_tree.specs.View.{design_view}
use Rattle.sample_file.specs.declared.fault.LineFault.{LineFault}
use Rattle.sample_file.specs.Reading.{Place, file_rows, rows_from}
use Rattle.clock_sim.specs.Simulated.{values_of}
use Rattle.sim_stream.specs.Given.{cycles_for}
use Rattle.order_stream.specs.Ordered.{GivesOrdered}
use Rattle.order_stream.specs.Stream.{Midst, GivesFrom, IsStart}

-- from registers of 0 over a whole file
pub from-start : (m : Midst) (design : Module) (number : ℕ) (bytes text : List ℕ) (last : Option LineFault) → IsStart m design number → GivesFrom m bytes text last
    → GivesOrdered (design_view design) (λ n. 0) 0 0 number (cycles_for (design_view design) (file_rows 3 bytes)) text last
from-start m design number bytes text last is g =
    subst (λ (values : Values). GivesOrdered (design_view design) values 0 0 number (cycles_for (design_view design) (file_rows 3 bytes)) text last) is.values
    (subst (λ (n : ℕ). GivesOrdered (design_view design) (values_of m.values) 0 0 n (cycles_for (design_view design) (file_rows 3 bytes)) text last) is.number_is
    (subst (λ (n : ℕ). GivesOrdered (design_view design) (values_of m.values) 0 n m.number (cycles_for (design_view design) (file_rows 3 bytes)) text last) is.tick
    (subst (λ (n : ℕ). GivesOrdered (design_view design) (values_of m.values) n m.tick m.number (cycles_for (design_view design) (file_rows 3 bytes)) text last) is.cycle
    (subst (λ (p : Place). GivesOrdered (design_view design) (values_of m.values) m.cycle m.tick m.number (cycles_for (design_view design) (rows_from p bytes)) text last) is.place
    (subst (λ (d : Module). GivesOrdered (design_view d) (values_of m.values) m.cycle m.tick m.number (cycles_for (design_view d) (rows_from m.place bytes)) text last) is.design g)))))
