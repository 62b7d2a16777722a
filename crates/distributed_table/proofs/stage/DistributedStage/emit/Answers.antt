use Rattle.std.proofs.Common.{◌+◌, ◌*◌, ◌∙◌, ℕ, ap, arith}
use Rattle.net_graph.specs.declared.cell.Stream.{Stream}
use Rattle.distributed_table.proofs.ReadyLemmas.{levels_low}
use Rattle.distributed_table.proofs.stage.DistributedStage.emit.Goals as goal

pub overflow_add-later-2 : goal.overflow_add-later-2
overflow_add-later-2 g c =
    let d = c.args.self.now in
    let low = levels_low g.row.G d.taps.items d.some d.limits.1 in
    let are = d.is_levels in
    let first = c.from.ensures in
    let second = c.from-2.ensures in
    let narrow = d.bits_high in
    omega arith

pub overflow_add-stream : goal.overflow_add-stream
overflow_add-stream g c =
    let d = c.args.self.now in
    let low = levels_low g.row.G d.taps.items d.some d.limits.1 in
    let are = d.is_levels in
    let first = c.from.ensures in
    let second = c.from-2.ensures in
    let narrow = d.bits_high in
    let early = c.requires.early in
    omega arith

pub returns-clause-realises : goal.returns-clause-realises
returns-clause-realises g c =
    let d = c.args.self.now in
    let from = c.args.from in
    let by_period : ℕ → Stream = λ n. record { node = c.in_ok-root.root; period = from.period * n; offset = from.offset + (2 + c.from.result + c.from-2.result) } in
    let by_offset : ℕ → ℕ → Stream = λ bits levels. record { node = c.in_ok-root.root; period = from.period * d.down; offset = from.offset + (2 + bits + levels) } in
    c.in_ok-root.ensures.ok.realises _ (ap by_period c.from-3.ensures ∙ ap (λ (n : ℕ). by_offset n c.from-2.result) c.from.ensures ∙ ap (by_offset d.bits) c.from-2.ensures)
