-- Products of bounded numbers.
use Rattle.std.proofs.Common.{ℕ, ◌-◌, ◌*◌, ◌^◌, ◌≤◌, arith}
use Rattle.std.proofs.Math.Nat.{mul-le-mul_left, mul-le-mul_right}

bounded : (a b m n : ℕ) → a ≤ m → b ≤ n → a * b ≤ m * n
bounded a b m n h k = omega (arith, mul-le-mul_left a k, mul-le-mul_right n h)

positive : (a b : ℕ) → 1 ≤ a → 1 ≤ b → 1 ≤ a * b
positive a b h k = omega (arith, bounded 1 1 a b h k)

-- the terms of a group times the classes
pub work_small : (terms classes : ℕ) → terms ≤ 2 ^ 18 → classes ≤ 2 ^ 20 → terms * classes ≤ 2 ^ 38
work_small terms classes h k = omega (arith, bounded terms classes (2 ^ 18) (2 ^ 20) h k)

pub left_small : (a b most : ℕ) → 1 ≤ b → a * b ≤ most → a ≤ most
left_small a b most h k = omega (arith, mul-le-mul_left a h)

pub right_small : (a b most : ℕ) → 1 ≤ a → a * b ≤ most → b ≤ most
right_small a b most h k = omega (arith, mul-le-mul_right b h)

pub classes_small : (classes up : ℕ) → classes ≤ 2 ^ 20 → up ≤ 4096 → classes * up ≤ 2 ^ 32
classes_small classes up h k = omega (arith, bounded classes up (2 ^ 20) 4096 h k)

pub classes_some : (classes up : ℕ) → 1 ≤ classes → 1 ≤ up → 1 ≤ classes * up
classes_some classes up h k = positive classes up h k

-- how many steps back a group looks, times the period
pub back_small : (memory period : ℕ) → memory ≤ 2 ^ 17 → period ≤ 2 ^ 31 - 1 → memory * period ≤ 2 ^ 48
back_small memory period h k = omega (arith, bounded memory period (2 ^ 17) (2 ^ 31 - 1) h k)

pub ticks_small : (up ticks : ℕ) → up ≤ 4096 → ticks ≤ 65536 → up * ticks ≤ 2 ^ 28
ticks_small up ticks h k = omega (arith, bounded up ticks 4096 65536 h k)

pub ticks_some : (up ticks : ℕ) → 1 ≤ up → 1 ≤ ticks → 1 ≤ up * ticks
ticks_some up ticks h k = positive up ticks h k

-- tables of at most 64 sums
pub tables_small : (tables size : ℕ) → tables ≤ 1024 → size ≤ 64 → tables * size ≤ 65536
tables_small tables size h k = omega (arith, bounded tables size 1024 64 h k)
