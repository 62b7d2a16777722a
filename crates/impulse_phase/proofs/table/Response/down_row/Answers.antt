use Rattle.std.proofs.Common.{◌≡◌, ℕ, ◌*◌, ◌/◌, ◌%◌, ◌^◌, ◌≤◌, ◌<◌, get_or, length, sym, subst, arith}
use Rattle.std.proofs.lemmas.Nat.{mod_below}
use Rattle.plan_check.specs.Costs.{gcd}
use Rattle.impulse_phase.specs.Reading.{as_response, silent, rows_of}
use Rattle.impulse_phase.proofs.Tables.{down_soon, ahead_row, row_of, count_of}
use Rattle.impulse_phase.proofs.table.Response.down_row.Goals as goal

pub overflow_cast-result : goal.overflow_cast-result
overflow_cast-result c =
    let table = c.args.self.now in
    let rows = rows_of table in
    let classes = c.len-classes.result in
    let class = c.args.index * c.args.factor % classes in
    let row = c.index-row.result.now in
    let many : classes ≡ length rows = omega (arith, c.len-classes.ensures, count_of table, table.rows.ok.0) in
    let some : 0 < classes = omega (arith, c.len-classes.ensures, table.some) in
    let below : class < classes = mod_below (c.args.index * c.args.factor) classes some in
    let read : get_or rows class silent ≡ as_response row = row_of table class row (omega (arith, below, many, count_of table)) c.index-row.ensures in
    let ahead : row.newest ≤ table.step = ahead_row table class row c.requires.ahead (omega (arith, below, many)) read in
    let index : c.args.index < classes / gcd classes c.args.factor = subst (λ (n : ℕ). c.args.index < n / gcd n c.args.factor) (sym many) c.requires.index in
    let soon : c.args.factor / gcd classes c.args.factor * table.step < 2 ^ 32 = subst (λ (n : ℕ). c.args.factor / gcd n c.args.factor * table.step < 2 ^ 32) (sym many) c.requires.soon in
    omega (arith, c.from.ensures, soon, down_soon classes c.args.factor table.step c.args.index row.newest some c.requires.some index ahead)
