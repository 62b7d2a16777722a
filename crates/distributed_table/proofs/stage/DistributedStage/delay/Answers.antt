use Rattle.std.proofs.Common.{arith}
use Rattle.distributed_table.proofs.ReadyLemmas.{levels_low}
use Rattle.distributed_table.proofs.stage.DistributedStage.delay.Goals as goal

pub overflow_add-result-2 : goal.overflow_add-result-2
overflow_add-result-2 g c =
    let d = c.args.self.now in
    let low = levels_low g.row.G d.taps.items d.some d.limits.1 in
    let are = d.is_levels in
    let first = c.from.ensures in
    let second = c.from-2.ensures in
    let narrow = d.bits_high in
    omega arith
