-- How great the indices are at which an end is reached.
use Rattle.std.proofs.Common.{ℕ, ◌+◌, ◌*◌, ◌/◌, ◌^◌, ◌<◌, ◌≤◌, length, arith}
use Rattle.std.proofs.Math.Nat.{div-le_self, mul-le-mul_left, mul-le-mul_right}
use Rattle.std.proofs.lemmas.Nat.{div_below}
use Rattle.impulse_phase.specs.declared.table.Response.{Response as Table}
use Rattle.impulse_phase.specs.Reading.{rows_of}
use Rattle.impulse_phase.proofs.Tables.{count_of}
use Rattle.width_extreme.proofs.Lawful.{rows-some}

pub few-classes : (table : Table) → length (rows_of table) ≤ 2 ^ 32
few-classes table = omega (arith, count_of table, table.few)

pub classes-times : (table : Table) (longest : ℕ) → longest < 2 ^ 64 → length (rows_of table) * (longest / table.step + 1) ≤ length (rows_of table) * 2 ^ 64
classes-times table longest small = mul-le-mul_left (length (rows_of table)) (omega (arith, div-le_self longest table.step, small))

pub classes-room : (table : Table) → length (rows_of table) * 2 ^ 64 ≤ 2 ^ 96
classes-room table = omega (arith, few-classes table)

-- so many classes hold few rounds
pub rounds-few : (table : Table) (index : ℕ) → index ≤ length (rows_of table) * 2 ^ 64 + 2 ^ 66 → index / length (rows_of table) < 2 ^ 67
rounds-few table index near =
    let classes = length (rows_of table) in
    let some = rows-some table in
    let more : 1 * 2 ^ 66 ≤ classes * 2 ^ 66 = mul-le-mul_right (2 ^ 66) some in
    div_below index classes (2 ^ 67) some (omega (arith, near, more, some))

pub finer-room : (count modulus : ℕ) → count ≤ 2 ^ 32 → modulus < 2 ^ 32 → count * modulus < 2 ^ 64
finer-room count modulus few small = omega (arith, mul-le-mul_right modulus few, small)
