use Rattle.net_module.specs.Written.{written_module}
use Rattle.module_names.proofs.Names.{all_named}
use Rattle.module_names.proofs.Places.{names_kept}
use Rattle.module_names.proofs.law_of_names.Goals as goal

pub returns : goal.returns
returns c cells netlist writable count groups named d same = names_kept d (written_module cells) same count (all_named cells netlist writable count groups named)
