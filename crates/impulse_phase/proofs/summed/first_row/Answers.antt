use Rattle.std.proofs.Common.{◌≡◌, ℕ, ◌%◌, List, ℤ, length, ap, subst, arith, IfOk, refl}
use Rattle.impulse_phase.specs.Reading.{rows_of}
use Rattle.impulse_phase.specs.Summed.{with_part}
use Rattle.impulse_phase.proofs.Tables.{count_of}
use Rattle.impulse_phase.proofs.MovingRows.{first_row_is, rest_room}
use Rattle.impulse_phase.proofs.summed.first_row.Goals as goal

pub add_part-requires-clause-room : goal.add_part-requires-clause-room
add_part-requires-clause-room c =
    let table = c.args.table.now in
    let many : c.len.result ≡ length (rows_of table) = omega (arith, c.len.ensures, count_of table, table.rows.ok.0) in
    rest_room table c.args.width c.len.result c.requires.room.0 c.in_ok-rounds.rounds.items c.requires.table many c.in_ok-rounds.ensures c.requires.room.1 c.requires.room.2

pub returns : goal.returns
returns c =
    let table = c.args.table.now in
    let width = c.args.width in
    let many : c.len.result ≡ length (rows_of table) = omega (arith, c.len.ensures, count_of table, table.rows.ok.0) in
    let is = first_row_is table width (width % c.len.result) c.in_ok-rounds.rounds.items (with_part table 0 1 (width % c.len.result) c.in_ok-rounds.rounds.items) c.requires.table
    (ap (λ (n : ℕ). width % n) many) c.in_ok-rounds.ensures refl in
    subst (λ (w : List ℤ). IfOk c.add_part.result (λ row. row.items ≡ w)) is c.add_part.ensures
