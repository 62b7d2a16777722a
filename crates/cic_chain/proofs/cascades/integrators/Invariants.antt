use Rattle.std.proofs.Common.{◌≡◌, length}
use Rattle.cic_chain.proofs.RowLemmas.{IsRow, IsFilled}
use Rattle.cic_chain.proofs.cascades.integrators.Given as goal

abbrev pub invariant-loop-stage : goal.invariant-loop-stage
invariant-loop-stage g l = record {
  row : IsRow l.fn.net l.net l.fn.from l.gate l.width l.stage l.last;
  filled : IsFilled l.net.cells l.fn.from l.width l.stage l.last l.registers;
  long : length l.registers ≡ g.row.N;
}
