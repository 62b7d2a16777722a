use Rattle.std.proofs.lemmas.Result.{IfOk-weaker}
use Rattle.fir_pieces.proofs.ReadersLemmas.{TakesNext-taken}
use Rattle.fir_pieces.proofs.readers.take_next.Goals as goal

pub returns-clause-ok : goal.returns-clause-ok
returns-clause-ok c = IfOk-weaker c.taking_register.result _ _ (λ to t. TakesNext-taken c.requires.of_data c.group-group.ensures c.free_number.ensures t) c.taking_register.ensures.ok
