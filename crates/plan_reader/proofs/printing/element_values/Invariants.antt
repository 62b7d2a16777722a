use Rattle.std.proofs.Common.{◌≡◌, take}
use Rattle.toml.specs.View.{items_view}
use Rattle.plan_reader.specs.Printed.{element_items}
use Rattle.plan_reader.proofs.printing.element_values.Given as goal

abbrev pub invariant-loop-element : goal.invariant-loop-element
invariant-loop-element l = items_view l.values.items ≡ element_items (take l.element-index l.elements)
