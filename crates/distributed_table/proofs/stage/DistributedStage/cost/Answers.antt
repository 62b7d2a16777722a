use Rattle.std.proofs.Common.{◌≡◌, ◌∙◌, ◌*◌, ◌-◌, ℕ, ap, length}
use Rattle.mr_values.specs.Timing.{ceil_div}
use Rattle.distributed_table.proofs.EndLemmas.{ceil_same}
use Rattle.distributed_table.proofs.stage.DistributedStage.cost.Goals as goal

pub returns-clause-tables : goal.returns-clause-tables
returns-clause-tables g c =
    let d = c.args.self.now in
    let count : c.len.result ≡ length d.taps.items = c.len.ensures ∙ d.taps.ok.0 in
    c.div_ceil-runs.ensures ∙ ceil_same c.len.result g.row.G d.some ∙ ap (λ (n : ℕ). ceil_div n g.row.G) count

pub returns-clause-adders : goal.returns-clause-adders
returns-clause-adders g c = ap (λ (n : ℕ). 3 * n - 1) (returns-clause-tables g c)
