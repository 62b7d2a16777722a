use Rattle.std.proofs.Common.{◌≡◌, ◌++◌, ◌+◌, drop}
use Rattle.filter_report.specs.Costs.{cost_lines}
use Rattle.filter_report.proofs.groups.put_groups.Given as goal

-- what is written and what is left are the whole
abbrev pub invariant-loop-index : goal.invariant-loop-index
invariant-loop-index l = l.text.items ++ cost_lines (l.index + 1) (drop l.index l.groups) ≡ l.initial.text.items ++ cost_lines 1 l.groups
