use Rattle.std.proofs.Common.{arith, ◌≤◌, ◌≡◌}
use Rattle.polyphase_fir.specs.Facts.{levels_of}
use Rattle.polyphase_fir.proofs.PhaseBounds.{low_levels}
use Rattle.polyphase_fir.proofs.polyphase.Polyphase.shown.Goals as goal

pub overflow_add-offset-2 : goal.overflow_add-offset-2
overflow_add-offset-2 c =
    let p = c.args.self.now in
    let low : levels_of p.taps.items p.rates.up ≤ 18 = low_levels p.rates.up p.taps.items p.few in
    let are : p.levels ≡ levels_of p.taps.items p.rates.up = p.is_levels in
    let value = c.from-3.ensures in
    let early = c.requires.early in
    omega arith
