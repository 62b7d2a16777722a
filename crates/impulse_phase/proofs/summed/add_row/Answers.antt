use Rattle.std.proofs.Common.{◌≡◌, ℕ, List, ℤ, length, ◌∙◌, ap, subst, arith, pos, ◌-ℤ◌, IfOk}
use Rattle.running_sums.specs.Weights.{added, behind, moving}
use Rattle.impulse_phase.specs.Reading.{rows_of, responses_of, IsPlaceBefore}
use Rattle.impulse_phase.specs.Summed.{gap}
use Rattle.impulse_phase.proofs.Tables.{count_of}
use Rattle.impulse_phase.proofs.MovingRows.{row_room, read_row, read_gap, read_room}
use Rattle.impulse_phase.proofs.summed.add_row.Goals as goal

pub moving_sum-requires-clause-room : goal.moving_sum-requires-clause-room
moving_sum-requires-clause-room c =
    let table = c.args.table.now in
    let many : c.len.result ≡ length (rows_of table) = omega (arith, c.len.ensures, count_of table, table.rows.ok.0) in
    let place = subst (λ (n : ℕ). IsPlaceBefore n 0 c.args.back c.place_before-place.result.class c.place_before-place.result.rounds) many c.place_before-place.ensures in
    let row = read_row table c.args.back c.place_before-place.result.class c.place_before-place.result.rounds c.index-row.result.now place c.index-row.ensures in
    read_room table c.args.back c.args.rounds c.requires.room.0 c.requires.room.1 c.deref.result.now c.requires.room.2 (c.deref.ensures.value ∙ row) c.requires.room.4

pub added_behind-requires : goal.added_behind-requires
added_behind-requires c =
    let table = c.args.table.now in
    let many : c.len.result ≡ length (rows_of table) = omega (arith, c.len.ensures, count_of table, table.rows.ok.0) in
    let place = subst (λ (n : ℕ). IsPlaceBefore n 0 c.args.back c.place_before-place.result.class c.place_before-place.result.rounds) many c.place_before-place.ensures in
    let row = read_row table c.args.back c.place_before-place.result.class c.place_before-place.result.rounds c.index-row.result.now place c.index-row.ensures in
    row_room table c.args.rounds c.requires.room.0 c.requires.room.1 c.saturating_sub-delay.result (pos 0 -ℤ pos c.args.back) c.deref.result.now c.deref-2.result.now c.args.sums.now
    c.requires.room.2 c.requires.room.3 c.requires.room.4 (c.deref.ensures.value ∙ row) (c.deref-2.ensures.value ∙ c.in_ok-weights.ensures)

pub returns : goal.returns
returns c =
    let table = c.args.table.now in
    let many : c.len.result ≡ length (rows_of table) = omega (arith, c.len.ensures, count_of table, table.rows.ok.0) in
    let place = subst (λ (n : ℕ). IsPlaceBefore n 0 c.args.back c.place_before-place.result.class c.place_before-place.result.rounds) many c.place_before-place.ensures in
    let row = read_row table c.args.back c.place_before-place.result.class c.place_before-place.result.rounds c.index-row.result.now place c.index-row.ensures in
    let gap_is = read_gap table c.args.back c.place_before-place.result.class c.place_before-place.result.rounds c.index-row.result.now c.index.result.now place c.index-row.ensures c.index.ensures in
    let delay : c.saturating_sub-delay.result ≡ gap table (pos 0) (pos 0 -ℤ pos c.args.back) = omega (arith, c.saturating_sub-delay.ensures, c.from.ensures, c.from-2.ensures, gap_is) in
    let weights : c.deref-2.result.now ≡ moving table.step c.args.rounds (responses_of table (pos 0 -ℤ pos c.args.back)).weights =
    c.deref-2.ensures.value ∙ c.in_ok-weights.ensures ∙ ap (moving table.step c.args.rounds) (c.deref.ensures.value ∙ row) in
    subst (λ (d : ℕ). IfOk c.added_behind.result (λ all. all.items ≡ added (behind d (moving table.step c.args.rounds (responses_of table (pos 0 -ℤ pos c.args.back)).weights)) c.args.sums.now)) delay
    (subst (λ (w : List ℤ). IfOk c.added_behind.result (λ all. all.items ≡ added (behind c.saturating_sub-delay.result w) c.args.sums.now)) weights c.added_behind.ensures)
