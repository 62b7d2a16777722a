use Rattle.net_module.specs.Written.{written_module}
use Rattle.module_names.proofs.Control.{has_control}
use Rattle.module_names.proofs.Places.{control_kept}
use Rattle.module_names.proofs.law_of_control.Goals as goal

pub returns : goal.returns
returns c cells netlist writable closed d same = control_kept d (written_module cells) same (has_control cells netlist writable closed)
