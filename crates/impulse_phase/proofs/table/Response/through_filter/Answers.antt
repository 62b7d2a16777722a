use Rattle.std.proofs.Common.{◌≡◌, ℕ, length, map, subst, refl, arith}
use Rattle.mr_values.specs.Sequence.{filter}
use Rattle.impulse_phase.specs.Response.{through_filter, Cycle}
use Rattle.impulse_phase.specs.Reading.{as_response, rows_of, responses_of}
use Rattle.impulse_phase.proofs.Steps.{filter-keeps}
use Rattle.impulse_phase.proofs.Tables.{AreRows, passes, count_of}
use Rattle.impulse_phase.proofs.table.Response.through_filter.Goals as goal

pub returns : goal.returns
returns c =
    let table = c.args.self.now in
    let taps = c.args.taps.now in
    let end : c.loop-index.index ≡ length (rows_of table) = omega (arith, c.loop-index-test.false, c.loop-index.auto.index-end, c.len-index-end.ensures, count_of table, table.rows.ok.0) in
    passes (through_filter taps) (λ (cycle : Cycle). cycle) table _ (λ x. filter taps (c.requires.table.transform x))
    (filter-keeps taps c.requires.table.transform (responses_of table) (length (rows_of table)) table.step c.requires.table.law)
    (subst (λ (n : ℕ). AreRows (through_filter taps (responses_of table)) n (map as_response c.loop-index.rows.items)) end c.loop-index.invariant) refl
