use Rattle.net_module.specs.Written.{written_module}
use Rattle.module_names.proofs.Registers.{has_reset}
use Rattle.module_names.proofs.Places.{reset_kept}
use Rattle.module_names.proofs.law_of_reset.Goals as goal

pub returns : goal.returns
returns c cells netlist writable d same = reset_kept d (written_module cells) same (has_reset cells netlist writable)
