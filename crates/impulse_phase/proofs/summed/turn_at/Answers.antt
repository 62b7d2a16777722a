use Rattle.std.proofs.Common.{◌≡◌, ℕ, ◌+◌, ◌-◌, ◌*◌, ◌<◌, length, arith, subst}
use Rattle.impulse_phase.specs.Reading.{rows_of, IsPlaceBefore}
use Rattle.impulse_phase.specs.Summed.{IsTurn}
use Rattle.impulse_phase.proofs.Tables.{row_of, count_of}
use Rattle.impulse_phase.proofs.MovingRows.{turn_is}
use Rattle.impulse_phase.proofs.summed.turn_at.Goals as goal

pub returns : goal.returns
returns c =
    let table = c.args.table.now in
    let class = c.place_before-old.result.class in
    let rounds = c.place_before-old.result.rounds in
    let many : c.len.result ≡ length (rows_of table) = omega (arith, c.len.ensures, count_of table, table.rows.ok.0) in
    let place = subst (λ (n : ℕ). IsPlaceBefore n c.args.index c.args.width class rounds) many c.place_before-old.ensures in
    let here_below : c.args.index < length table.rows.items = omega (arith, c.requires.index, count_of table) in
    let last_below : c.args.index - 1 < length table.rows.items = omega (arith, c.requires.index, count_of table) in
    let row_below : class < length table.rows.items = omega (arith, place.below, count_of table) in
    let turn =
    turn_is table c.args.width c.args.index class rounds c.index.result.now c.index-2.result.now c.index-3.result.now c.requires.later c.requires.index place
    (row_of table c.args.index c.index.result.now here_below c.index.ensures) (row_of table (c.args.index - 1) c.index-2.result.now last_below c.index-2.ensures)
    (row_of table class c.index-3.result.now row_below c.index-3.ensures) in
    let ahead : c.index.result.now.newest - c.index-2.result.now.newest ≡ c.saturating_sub.result = omega (arith, c.saturating_sub.ensures, c.from-here.ensures, c.from-before.ensures) in
    let back : c.index.result.now.newest + rounds * table.step - c.index-3.result.now.newest ≡ c.saturating_sub-2.result = omega (arith, c.saturating_sub-2.ensures, c.from-here.ensures, c.from-less.ensures) in
    subst (λ (n : ℕ). IsTurn table c.args.width c.args.index n class c.saturating_sub-2.result) ahead
    (subst (λ (n : ℕ). IsTurn table c.args.width c.args.index (c.index.result.now.newest - c.index-2.result.now.newest) class n) back turn)
