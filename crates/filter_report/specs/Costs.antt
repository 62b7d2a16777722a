-- The lines of the groups, by what is told of them.
use Rattle.std.specs.Prelude.{ℕ, ◌+◌, List, [], ◌∷◌, ◌++◌}
use Rattle.stage_law.specs.declared.stage.Cost.{Cost}
use Rattle.verilog_tree.specs.Counted.{Counts}
use Rattle.chain_build.specs.declared.groups.GroupCost.{GroupCost}
use Rattle.filter_report.specs.Report.{group_line}

abbrev pub counts_of : Cost → Counts
counts_of cost = record { adders = cost.adders; windows = cost.windows; tables = cost.tables }

abbrev pub cost_line : ℕ → GroupCost → List ℕ
cost_line number group = group_line number group.kind (counts_of group.cost)

abbrev pub cost_lines : ℕ → List GroupCost → List ℕ
cost_lines number [] = []
cost_lines number (group ∷ groups) = cost_line number group ++ cost_lines (number + 1) groups
