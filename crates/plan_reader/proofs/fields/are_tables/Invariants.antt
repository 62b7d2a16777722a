use Rattle.std.proofs.Common.{◌≡◌, drop}
use Rattle.toml.specs.View.{items_view}
use Rattle.plan_reader.specs.Fields.{are_tables}
use Rattle.plan_reader.proofs.fields.are_tables.Given as goal

-- all are tables exactly where those that are left are
abbrev pub invariant-loop-value : goal.invariant-loop-value
invariant-loop-value l = are_tables (items_view (drop l.value-index l.values)) ≡ are_tables (items_view l.values)
