-- The search for an expression of more than 128 bits, turn by turn.
use Rattle.std.proofs.Common.{◌≡◌, List}
use Rattle.verilog_tree.specs.Tree.{Design}
use Rattle.verilog_tree.specs.Checks.{Side}
use Rattle.verilog_check.specs.Widths.{first_told}

-- what is left gives what all gives
pub record NoneBefore (d : Design) (all left : List Side → List Side) : Type 0 where
  pub same : (rest : List Side) → first_told d (left rest) ≡ first_told d (all rest)
