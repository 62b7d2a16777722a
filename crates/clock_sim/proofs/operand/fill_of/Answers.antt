use Rattle.std.proofs.Common.{arith}
use Rattle.verilog_tree.proofs.Powers.{power_order}
use Rattle.clock_sim.proofs.operand.fill_of.Goals as goal

pub overflow_sub-result : goal.overflow_sub-result
overflow_sub-result c = omega (arith, c.mask_of.ensures.all, c.mask_of-then-signed.ensures.all, (power_order c.args.from c.args.length c.requires.order).0)
