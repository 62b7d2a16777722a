use Rattle.net_module.specs.Steps.{width_in}
use Rattle.net_module.specs.Written.{written_module}
use Rattle.module_names.proofs.Ports.{has_ports}
use Rattle.module_names.proofs.Places.{ports_kept}
use Rattle.module_names.proofs.law_of_ports.Goals as goal

pub returns : goal.returns
returns c cells netlist writable d same = ports_kept d (written_module cells) same (width_in cells) (has_ports cells netlist writable)
