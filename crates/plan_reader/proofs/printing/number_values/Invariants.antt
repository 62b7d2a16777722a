use Rattle.std.proofs.Common.{◌≡◌, take}
use Rattle.toml.specs.View.{items_view}
use Rattle.plan_reader.specs.Printed.{number_items}
use Rattle.plan_reader.proofs.printing.number_values.Given as goal

abbrev pub invariant-loop-number : goal.invariant-loop-number
invariant-loop-number l = items_view l.values.items ≡ number_items (take l.number-index l.numbers)
