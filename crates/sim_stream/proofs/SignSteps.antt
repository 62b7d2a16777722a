-- Patterns by the sign of their port.
use Rattle.std.proofs.Common.{◌≡◌, ℕ, ◌-◌, ◌<◌, ◌≤◌, ◌^◌, Bool, true, false, not, pos, FitsSigned, refl, arith}
use Rattle.std.specs.Int.{w128}
use Rattle.std.proofs.Math.Pow.{pow_mono}
use Rattle.std.proofs.lemmas.Bool.{lt-leb}
use Rattle.verilog_tree.specs.Shown.{signed_value}

pub number-fits : (w bits : ℕ) → w ≤ 127 → bits < 2 ^ w → FitsSigned w128 (pos bits)
number-fits w bits most small = let large : 2 ^ w ≤ 2 ^ 127 = pow_mono most in record { sfits = omega (arith, large) }

pub value-unsigned : (signed : Bool) (w bits : ℕ) → not signed ≡ true → pos bits ≡ signed_value signed w bits
value-unsigned true w bits h = cc
value-unsigned false w bits h = refl

pub value-low : (signed : Bool) (w bits : ℕ) → bits < 2 ^ (w - 1) → pos bits ≡ signed_value signed w bits
value-low false w bits h = refl
value-low true w bits h = rw (lt-leb (2 ^ (w - 1)) bits h) refl
