use Rattle.std.proofs.Common.{◌≡◌, ◌++◌, drop}
use Rattle.toml.specs.View.{items_view}
use Rattle.plan_reader.specs.Fields.{numbers_of}
use Rattle.plan_reader.proofs.document.numbers_of.Given as goal

-- the numbers so far, before those of the values that are left, are those of all values
abbrev pub invariant-loop-value : goal.invariant-loop-value
invariant-loop-value l = l.numbers.items ++ numbers_of (items_view (drop l.value-index l.values)) ≡ numbers_of (items_view l.values)
