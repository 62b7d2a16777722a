use Rattle.std.proofs.Common.{arith}
use Rattle.mr_values.proofs.Logarithm.{ceil_log_more}
use Rattle.fir_pieces.proofs.numbers.ceil_log.Goals as goal

pub halve-preserved : goal.halve-preserved
halve-preserved c = record {
  so_far = ceil_log_more _ _ _ c.halve-test.true c.halve.invariant.so_far;
  small = omega arith;
}
