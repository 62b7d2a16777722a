use Rattle.clock_sim.specs.Simulated.{values_of}
use Rattle.chain_run.proofs.ChainLines.{gives-run}
use Rattle.chain_run.proofs.stream.ChainStream.start.Goals as goal

pub returns : goal.returns
returns c = λ elements shows bytes text last g.
    gives-run elements c.args.timing c.args.design.now c.in_ok-sim.sim.design c.settle.new.self.design c.edge.new.self.design c.in_ok-new.field-0
    (values_of c.in_ok-sim.sim.values) (values_of c.settle.new.self.values) (values_of c.edge.new.self.values) c.requires.timing shows
    c.in_ok-sim.ensures.design c.settle.ensures.design c.edge.ensures.design c.in_ok-new.ensures c.settle.ensures.settled c.edge.ensures.next bytes text last g
