use Rattle.verilog_tree.specs.View.{design_view}
use Rattle.clock_sim.proofs.Start.{inputs_set, inputs_fit}
use Rattle.clock_sim.proofs.sim.set_inputs.Goals as goal

pub returns-clause-set : goal.returns-clause-set
returns-clause-set c =
    inputs_set (design_view c.args.design.now) c.args.ports c.args.values.now c.write.new.values c.write-2.new.values c.write-3.new.values c.args.rst c.args.ce c.args.in_data c.flag.result c.flag-2.result
    c.requires.ports c.flag.ensures c.flag-2.ensures c.write.ensures c.write-2.ensures c.write-3.ensures

pub returns-clause-names : goal.returns-clause-names
returns-clause-names c =
    inputs_fit (design_view c.args.design.now) c.args.ports c.args.values.now c.write.new.values c.write-2.new.values c.write-3.new.values c.args.rst c.args.ce c.args.in_data c.flag.result c.flag-2.result
    c.requires.ports c.flag.ensures c.flag-2.ensures c.write.ensures c.write-2.ensures c.write-3.ensures c.requires.names c.requires.fits
