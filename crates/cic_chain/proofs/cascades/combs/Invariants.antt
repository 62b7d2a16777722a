use Rattle.std.proofs.Common.{◌≡◌, length}
use Rattle.cic_chain.specs.Pieces.{AddsCombRow}
use Rattle.cic_chain.proofs.cascades.combs.Given as goal

abbrev pub invariant-loop-stage : goal.invariant-loop-stage
invariant-loop-stage g l = record {
  combs : AddsCombRow l.fn.net l.net l.fn.from l.width l.stage g.row.D l.each l.to;
  long : length l.each ≡ g.row.N;
}
