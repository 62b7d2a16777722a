use Rattle.std.proofs.Common.{◌∙◌, ap}
use Rattle.mr_values.specs.Timing.{ceil_log}
use Rattle.distributed_table.proofs.EndLemmas.{ceil_same}
use Rattle.distributed_table.proofs.distributed.levels_over.Goals as goal

pub returns : goal.returns
returns c = c.ceil_log.ensures ∙ ap ceil_log (c.div_ceil-count.ensures ∙ ceil_same c.args.taps c.args.size c.requires.some)
