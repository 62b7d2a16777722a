use Rattle.std.proofs.Common.{◌≡◌, drop}
use Rattle.toml.specs.View.{items_view}
use Rattle.plan_reader.specs.Fields.{are_numbers}
use Rattle.plan_reader.proofs.fields.are_numbers.Given as goal

-- all are numbers exactly where those that are left are
abbrev pub invariant-loop-value : goal.invariant-loop-value
invariant-loop-value l = are_numbers (items_view (drop l.value-index l.values)) ≡ are_numbers (items_view l.values)
