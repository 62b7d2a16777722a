use Rattle.std.proofs.Common.{◌<◌, ◌≤◌, ℕ, length, sym, subst}
use Rattle.verilog_tree.specs.View.{design_view}
use Rattle.verilog_tree.specs.Names.{shapes_of}
use Rattle.clock_sim.proofs.Formed.{widths_fit}
use Rattle.clock_sim.proofs.PortPlaces.{rst_inside, ce_inside, in_data_inside}
use Rattle.clock_sim.proofs.PortWidths.{in_data_narrow, out_data_narrow}
use Rattle.clock_sim.proofs.sim.port_names.Goals as goal

pub returns : goal.returns
returns c =
    let d = design_view c.args.design.now in
    record {
      rst = c.name_number.ensures;
      ce = c.name_number-2.ensures;
      in_data = c.name_number-3.ensures;
      out_valid = c.name_number-4.ensures;
      out_data = c.name_number-5.ensures;
      rst_inside = subst (λ (n : ℕ). n < length d.names) (sym c.name_number.ensures) (rst_inside d c.requires.passes);
      ce_inside = subst (λ (n : ℕ). n < length d.names) (sym c.name_number-2.ensures) (ce_inside d c.requires.passes);
      in_data_inside = subst (λ (n : ℕ). n < length d.names) (sym c.name_number-3.ensures) (in_data_inside d c.requires.passes);
      rst_width = (widths_fit d c.requires.formed c.requires.passes c.name_number.result).least;
      ce_width = (widths_fit d c.requires.formed c.requires.passes c.name_number-2.result).least;
      in_data_width = record {
        least = (widths_fit d c.requires.formed c.requires.passes c.name_number-3.result).least;
        most = subst (λ (n : ℕ). (shapes_of d).width n ≤ 127) (sym c.name_number-3.ensures) (in_data_narrow d c.requires.formed c.requires.passes);
      };
      out_data_width = record {
        least = (widths_fit d c.requires.formed c.requires.passes c.name_number-5.result).least;
        most = subst (λ (n : ℕ). (shapes_of d).width n ≤ 127) (sym c.name_number-5.ensures) (out_data_narrow d c.requires.formed c.requires.passes);
      };
    }
