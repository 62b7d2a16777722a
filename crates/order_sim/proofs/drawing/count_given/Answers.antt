use Rattle.std.proofs.Common.{◌∙◌}
use Rattle.verilog_tree.specs.View.{design_view}
use Rattle.clock_sim.specs.Simulated.{values_of}
use Rattle.order_sim.proofs.TextOrder.{same_count}
use Rattle.order_sim.proofs.drawing.count_given.Goals as goal

pub returns : goal.returns
returns c = c.count_signals.ensures ∙ same_count (design_view c.args.design.now) (values_of c.args.sim.now.values)
