use Rattle.std.proofs.Common.{◌∙◌, sym}
use Rattle.clock_sim.proofs.Settled.{inputs_view}
use Rattle.clock_sim.proofs.sim.Sim.set_inputs.Goals as goal

pub returns-clause-set : goal.returns-clause-set
returns-clause-set c =
    inputs_view c.args.self.now c.self.inside.design.now c.self.inside.values.items c.as_mut_slice-values.result.now c.set_inputs.new.values
    _ c.self.inside.values.len c.args.rst c.args.ce c.args.in_data (sym c.self.view_is) c.as_mut_slice-values.ensures.value c.set_inputs.ensures.set
    (c.set_inputs.auto.values ∙ c.as_mut_slice-values.ensures.len)
