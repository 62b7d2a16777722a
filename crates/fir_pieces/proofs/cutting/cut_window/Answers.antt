use Rattle.std.proofs.lemmas.Result.{IfOk-weaker}
use Rattle.fir_pieces.proofs.CuttingLemmas.{AddsWindow-class}
use Rattle.fir_pieces.proofs.cutting.cut_window.Goals as goal

pub returns-clause-ok : goal.returns-clause-ok
returns-clause-ok g c = IfOk-weaker c.class_window.result _ _ (λ nodes w. AddsWindow-class (g.R.Ranges.streams c.args.ranges.now) c.args.from c.requires.unused w) c.class_window.ensures.ok
