-- What is promised of modules as a whole.
use Rattle.std.specs.Prelude.{◌≡◌, ℕ}
use Rattle.verilog_tree.specs.Tree.{Design}
use Rattle.verilog_tree.specs.Meaning.{Values}
use Rattle.verilog_tree.specs.Circuit.{IsSettling}
use Rattle.verilog_tree.specs.Cycle.{circuit_of}

-- each content of registers and inputs has exactly one settling
abbrev pub HasOneSettling : Design → Type 0
HasOneSettling d =
    (content : Values) → (values : Values) × IsSettling (circuit_of d) content values × ((others : Values) → IsSettling (circuit_of d) content others → (n : ℕ) → others n ≡ values n)
