-- What a table of declarations tells.
use Rattle.std.specs.Prelude.{◌≡◌, ℕ, nat_eq}
use Rattle.std.specs.HashMap.{get}
use Rattle.verilog_tree.specs.Names.{declaration_in}
use Rattle.verilog_check.specs.declared.declared.Declared.{Declared}

-- of each name the table has the first declaration in the module
abbrev pub Tells : Declared → Type 0
Tells declared = (n : ℕ) → get nat_eq declared.by_name n ≡ declaration_in declared.design.now.signals.items n
