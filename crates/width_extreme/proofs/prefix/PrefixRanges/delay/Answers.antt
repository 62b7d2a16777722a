use Rattle.std.proofs.Common.{ℕ, ◌-◌, ◌∙◌, sym, ap}
use Rattle.width_extreme.proofs.Walk.{entry-delay, newest-pos}
use Rattle.width_extreme.proofs.prefix.PrefixRanges.delay.Goals as goal

pub returns-clause-delay : goal.returns-clause-delay
returns-clause-delay c =
    let table = c.args.self.now.table in
    let here = newest-pos table c.args.index c.requires.index in
    c.saturating_sub.ensures ∙ ap (λ (n : ℕ). c.args.entry.late - n) c.from.ensures
    ∙ sym (entry-delay table c.args.index c.args.entry.back c.args.entry.class c.args.entry.late here.0 c.newest.result c.requires.index c.requires.entry here.1 (sym c.newest.ensures))
