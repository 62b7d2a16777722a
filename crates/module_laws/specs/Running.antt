-- That a module runs.
use Rattle.std.specs.Prelude.{List}
use Rattle.verilog_tree.specs.Meaning.{Values}
use Rattle.verilog_tree.specs.Shown.{Cycle, RunsOver}
use Rattle.verilog_tree.specs.Tree.{Design}

-- from every content of the registers there is a run over any cycles
abbrev pub HasRuns : Design → Type 0
HasRuns d = (content : Values) (cycles : List Cycle) → (settled : List Values) × RunsOver d content cycles settled
