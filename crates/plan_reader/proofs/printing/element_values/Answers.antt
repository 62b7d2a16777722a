use Rattle.std.proofs.Common.{◌∙◌, ap}
use Rattle.toml.specs.Data.{table}
use Rattle.toml.specs.declared.value.Value.{Table}
use Rattle.toml.proofs.Views.{view-Table}
use Rattle.plan_reader.proofs.PrintSteps.{elements-pushed}
use Rattle.plan_reader.proofs.printing.element_values.Goals as goal

pub loop-element-preserved : goal.loop-element-preserved
loop-element-preserved c =
    elements-pushed c.loop-element.values.items c.push.new.self.items c.args.elements.now c.loop-element.element-index c.element-item.result c.element-item.result (Table c.in_ok-table.table) c.loop-element-test.true
    c.loop-element.invariant (view-Table c.in_ok-table.table ∙ ap table c.in_ok-table.ensures) c.element-item.is c.in_ok-push.ensures.items
