-- That there is one uncut run.
use Rattle.std.specs.Prelude.{◌≡◌, List}
use Rattle.verilog_tree.specs.Meaning.{Values}
use Rattle.verilog_tree.specs.Tree.{Design}
use Rattle.verilog_tree.specs.Uncut.{Numbers, IsUncutRun}

-- from any whole numbers of the registers, and beside any patterns of its cycles, the module has exactly one uncut run
abbrev pub HasOneUncutRun : Design → Type 0
HasOneUncutRun d =
    (begins : Numbers) (settled : List Values) → (uncut : List Numbers) × IsUncutRun d begins settled uncut × ((other : List Numbers) → IsUncutRun d begins settled other → other ≡ uncut)
