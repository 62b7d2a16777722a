-- The module that is read from the text of a net passes the checks, and runs.
use Rattle.std.proofs.Common.{◌≡◌, List, ap, ◌∙◌}
use Rattle.net_graph.specs.declared.cell.Cell.{Cell}
use Rattle.net_graph.specs.Cells.{cell_at}
use Rattle.net_graph.specs.WellFormed.{IsNetlist}
use Rattle.net_module.specs.Written.{IsWritable, written_module, input_place, output_place}
use Rattle.net_module.proofs.PassesDrivers.{passes}
use Rattle.verilog_tree.specs.Checks.{Passes}
use Rattle.verilog_tree.specs.Names.{shapes_of}
use Rattle.verilog_tree.specs.Meaning.{Shapes}
use Rattle.verilog_tree.specs.Shown.{Ports, ports_of}
use Rattle.verilog_tree.specs.Tree.{Design}
use Rattle.verilog_tree.proofs.OneSettling.{exactly_one_settling}
use Rattle.verilog_text.specs.Order.{IsSameButPlaces}
use Rattle.module_laws.specs.Running.{HasRuns}
use Rattle.module_laws.proofs.Levels.{loop_free}
use Rattle.module_laws.proofs.Passing.{passing_driven, settling_runs}
use Rattle.module_laws.proofs.Places.{same_passing, same_shapes, same_ports}

pub passing : (cells : List Cell) → IsNetlist cells → IsWritable cells → (d : Design) → IsSameButPlaces d (written_module cells) → Passes d
passing cells netlist can d same = same_passing d (written_module cells) same (passes cells netlist can)

pub running : (cells : List Cell) → IsNetlist cells → IsWritable cells → (d : Design) → IsSameButPlaces d (written_module cells) → HasRuns d
running cells netlist can d same =
    let its = passing cells netlist can d same in
    settling_runs d (exactly_one_settling d (passing_driven d its) (loop_free d its.free))

-- modules that are the same but for places have outputs of one width
pub same_output : (d e : Design) → IsSameButPlaces d e → (shapes_of d).width (ports_of d).out_data ≡ (shapes_of e).width (ports_of e).out_data
same_output d e same = ap (λ (s : Shapes). s.width (ports_of d).out_data) (same_shapes d e same) ∙ ap (λ (p : Ports). (shapes_of e).width p.out_data) (same_ports d e same)

-- its output is as wide as `out_q`
pub output_width : (cells : List Cell) (d : Design) → IsSameButPlaces d (written_module cells) → (shapes_of d).width (ports_of d).out_data ≡ (cell_at cells (output_place cells)).width
output_width cells d same = same_output d (written_module cells) same

-- its input is as wide as the net's
pub input_port : (cells : List Cell) (d : Design) → IsSameButPlaces d (written_module cells) → (shapes_of d).width (ports_of d).in_data ≡ (cell_at cells (input_place cells)).width
input_port cells d same =
    ap (λ (s : Shapes). s.width (ports_of d).in_data) (same_shapes d (written_module cells) same)
    ∙ ap (λ (p : Ports). (shapes_of (written_module cells)).width p.in_data) (same_ports d (written_module cells) same)
