use Rattle.chain_values.proofs.StartSteps.{gives_values}
use Rattle.chain_values.proofs.elements.values_of.Goals as goal

pub returns : goal.returns
returns c =
    gives_values c.args.elements.now c.in_ok-stages.stages.items c.push_chain.new.stages.items c.args.xs.now c.push_chain.new.out.items c.in_ok-stages.ensures (rw c.new-out.ensures.items at c.in_ok-push_chain.ensures)
