use Rattle.std.proofs.Common.{◌≡◌, ◌/◌, ◌<◌, List, ℤ, pos, get_or, length, ◌∙◌, ap, arith}
use Rattle.impulse_phase.specs.Reading.{as_response, silent, rows_of}
use Rattle.impulse_phase.proofs.Tables.{up_here, up_between, quotient_below, row_of, count_of}
use Rattle.impulse_phase.proofs.table.Response.up_row.Goals as goal

pub returns-then-index-factor-ne0 : goal.returns-then-index-factor-ne0
returns-then-index-factor-ne0 c =
    let table = c.args.self.now in
    let row = c.index-row.result.now in
    let place = c.args.index / c.args.factor in
    let below : place < length (rows_of table) = quotient_below c.args.index c.args.factor (length (rows_of table)) c.requires.some c.requires.index in
    let read : get_or (rows_of table) place silent ≡ as_response row = row_of table place row (omega (arith, below, count_of table)) c.index-row.ensures in
    ap (λ (w : List ℤ). record { newest = pos row.newest; weights = w }) c.new.ensures.items
    ∙ up_between (rows_of table) table.step c.args.factor c.args.index (as_response row) below read c.if-index-factor-ne0.true

pub returns : goal.returns
returns c =
    let table = c.args.self.now in
    let row = c.index-row.result.now in
    let place = c.args.index / c.args.factor in
    let below : place < length (rows_of table) = quotient_below c.args.index c.args.factor (length (rows_of table)) c.requires.some c.requires.index in
    let read : get_or (rows_of table) place silent ≡ as_response row = row_of table place row (omega (arith, below, count_of table)) c.index-row.ensures in
    ap (λ (w : List ℤ). record { newest = pos row.newest; weights = w }) (c.in_ok-from_slice.ensures.items ∙ c.deref.ensures.value)
    ∙ up_here (rows_of table) table.step c.args.factor c.args.index (as_response row) below read c.if-index-factor-ne0.false
