use Rattle.std.proofs.Common.{◌≡◌, ℕ, ◌%◌, ◌/◌, List, length, ◌∙◌, ap, subst, arith, IfOk, ℤ}
use Rattle.impulse_phase.specs.Reading.{rows_of}
use Rattle.impulse_phase.specs.Summed.{with_part}
use Rattle.impulse_phase.proofs.Tables.{count_of}
use Rattle.impulse_phase.proofs.MovingRows.{whole_none, whole_room}
use Rattle.impulse_phase.proofs.summed.whole_rounds.Goals as goal

pub returns-then-width-classes : goal.returns-then-width-classes
returns-then-width-classes c =
    let table = c.args.table.now in
    c.new-sums.ensures.items ∙ whole_none table c.args.width (omega (arith, c.if-width-classes.true, c.len-classes.ensures, count_of table, table.rows.ok.0))

pub add_part-requires-clause-room : goal.add_part-requires-clause-room
add_part-requires-clause-room c =
    let table = c.args.table.now in
    let many : c.len-classes.result ≡ length (rows_of table) = omega (arith, c.len-classes.ensures, count_of table, table.rows.ok.0) in
    whole_room table c.args.width c.len-classes.result c.requires.room.0 c.new-sums.result.items many c.new-sums.ensures.items c.requires.room.1 c.requires.room.2

pub returns : goal.returns
returns c =
    let table = c.args.table.now in
    let width = c.args.width in
    let many : c.len-classes.result ≡ length (rows_of table) = omega (arith, c.len-classes.ensures, count_of table, table.rows.ok.0) in
    let is = ap (λ (n : ℕ). with_part table (width % n) (width / n) n c.new-sums.result.items) many
    ∙ ap (with_part table (width % length (rows_of table)) (width / length (rows_of table)) (length (rows_of table))) c.new-sums.ensures.items in
    subst (λ (w : List ℤ). IfOk c.add_part.result (λ sums. sums.items ≡ w)) is c.add_part.ensures
