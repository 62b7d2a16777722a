use Rattle.net_module.specs.Written.{written_module}
use Rattle.module_shapes.proofs.Places.{same_linear}
use Rattle.module_shapes.proofs.Shapes.{linear_shapes}
use Rattle.module_shapes.proofs.law_of_shapes.Goals as goal

pub returns : goal.returns
returns c cells netlist small own group some low linear d same = same_linear d (written_module cells) same group (linear_shapes cells netlist small own group some low linear)
