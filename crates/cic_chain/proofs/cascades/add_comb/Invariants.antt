use Rattle.std.proofs.Common.{◌≡◌, length}
use Rattle.cic_chain.proofs.RowLemmas.{IsDelayed, AreDelays}
use Rattle.cic_chain.proofs.cascades.add_comb.Given as goal

abbrev pub invariant-loop-value : goal.invariant-loop-value
invariant-loop-value g l = record {
  delayed : IsDelayed l.fn.net l.net l.fn.from l.gate l.width l.value l.last;
  filled : AreDelays l.net.cells l.fn.from l.width l.value l.delays;
  long : length l.delays ≡ g.row.D;
}
