use Rattle.fir_pieces.proofs.SilentLemmas.{IsRange-silent}
use Rattle.distributed_table.proofs.tests.SilentRanges.range.Goals as goal

pub returns : goal.returns
returns c = IsRange-silent _ _ _ c.args.self.now.none c.requires.class
