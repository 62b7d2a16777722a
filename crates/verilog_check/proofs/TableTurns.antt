-- The table of declarations, turn by turn.
use Rattle.std.proofs.Common.{◌≡◌, ℕ, List, Option, drop}
use Rattle.verilog_tree.specs.declared.tree.Signal.{Signal}
use Rattle.verilog_tree.specs.Names.{declaration_in}
use Rattle.verilog_tree.specs.Checks.{or_else}

-- what the table has, else what is declared from this place on, is what is declared
pub record IsTable (signals : List Signal) (k : ℕ) (table : ℕ → Option Signal) : Type 0 where
  pub has : (n : ℕ) → or_else (table n) (declaration_in (drop k signals) n) ≡ declaration_in signals n
