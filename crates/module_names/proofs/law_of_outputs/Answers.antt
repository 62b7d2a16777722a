use Rattle.net_module.specs.Written.{written_module}
use Rattle.module_names.proofs.Outputs.{plain_outputs}
use Rattle.module_names.proofs.Places.{outputs_kept}
use Rattle.module_names.proofs.law_of_outputs.Goals as goal

pub returns : goal.returns
returns c cells netlist d same = outputs_kept d (written_module cells) same (plain_outputs cells netlist)
