use Rattle.std.proofs.Common.{◌≡◌, ℕ, ◌+◌, ◌<◌, List, length, map, subst, refl, sym, arith}
use Rattle.running_sums.specs.Rows.{full}
use Rattle.impulse_phase.specs.declared.table.Row.{Row}
use Rattle.impulse_phase.specs.Response.{respond, Cycle}
use Rattle.impulse_phase.specs.Reading.{as_response, rows_of, responses_of}
use Rattle.impulse_phase.proofs.MovingRows.{full-keeps, full_here}
use Rattle.impulse_phase.proofs.Tables.{AreRows, passes, count_of, rows_more}
use Rattle.impulse_phase.proofs.summed.full_rows.Goals as goal

pub loop-index-preserved : goal.loop-index-preserved
loop-index-preserved c =
    let table = c.args.table.now in
    let f = full (responses_of table) in
    let below : c.loop-index.index < length (rows_of table) = omega (arith, c.loop-index-test.true, c.loop-index.auto.index-end, c.len-index-end.ensures, count_of table, table.rows.ok.0) in
    let long : c.len.result ≡ length c.index-row.result.now.weights.items = omega (arith, c.len.ensures, c.index-row.result.now.weights.ok.0) in
    let row = full_here table c.loop-index.index c.len.result c.index-row.result.now c.in_ok-ones.field-0.items below c.index-row.ensures long c.in_ok-ones.ensures in
    subst (λ (rows : List Row). AreRows f (c.loop-index.index + 1) (map as_response rows)) (sym c.in_ok-push.ensures.items) (rows_more f c.loop-index.index c.loop-index.rows.items _ c.loop-index.invariant row)

pub returns : goal.returns
returns c =
    let table = c.args.table.now in
    let end : c.loop-index.index ≡ length (rows_of table) = omega (arith, c.loop-index-test.false, c.loop-index.auto.index-end, c.len-index-end.ensures, count_of table, table.rows.ok.0) in
    passes full (λ (cycle : Cycle). cycle) table _ (λ x n. respond (full (responses_of table) n) x)
    (full-keeps c.requires.transform (responses_of table) (length (rows_of table)) table.step c.requires.law)
    (subst (λ (n : ℕ). AreRows (full (responses_of table)) n (map as_response c.loop-index.rows.items)) end c.loop-index.invariant) refl
