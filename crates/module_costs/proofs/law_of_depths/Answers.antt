use Rattle.module_costs.proofs.Depths.{has_depth}
use Rattle.module_costs.proofs.law_of_depths.Goals as goal

pub returns : goal.returns
returns c cells netlist small own group some low shallow = has_depth cells netlist small own group some low shallow
