use Rattle.filter_text.proofs.ByNumber.{AreWritten}
use Rattle.filter_text.proofs.extremes.by_number.Given as goal

abbrev pub invariant-loop-one : goal.invariant-loop-one
invariant-loop-one l = AreWritten l.told l.names l.one-index l.extremes.items
