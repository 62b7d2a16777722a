use Rattle.std.proofs.Common.{arith}
use Rattle.width_extreme.proofs.Walk.{late-room}
use Rattle.width_extreme.proofs.prefix.PrefixRanges.next_entry.Goals as goal

pub overflow_add-result-else-entry-gt0-2 : goal.overflow_add-result-else-entry-gt0-2
overflow_add-result-else-entry-gt0-2 c =
    let e = c.args.entry in
    omega (arith, c.from.ensures, c.step.ensures, late-room c.args.self.now.table c.args.index e.back e.class e.late c.requires.entry c.requires.near)
