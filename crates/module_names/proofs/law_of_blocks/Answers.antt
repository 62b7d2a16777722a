use Rattle.net_module.specs.Written.{written_module}
use Rattle.module_names.proofs.Registers.{held_blocks}
use Rattle.module_names.proofs.Places.{blocks_kept}
use Rattle.module_names.proofs.law_of_blocks.Goals as goal

pub returns : goal.returns
returns c cells netlist writable d same = blocks_kept d (written_module cells) same (held_blocks cells netlist writable)
