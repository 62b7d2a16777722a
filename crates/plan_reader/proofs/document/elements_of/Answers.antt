use Rattle.std.proofs.Common.{◌≡◌, ◌+◌, Ok, subst}
use Rattle.toml.specs.Data.{as_table}
use Rattle.toml.specs.declared.value.Value.{Value}
use Rattle.toml.specs.View.{view}
use Rattle.plan_reader.specs.Documents.{elements_from, element_value}
use Rattle.toml.specs.View.{items_view}
use Rattle.plan_reader.proofs.ElementSteps.{element-read}
use Rattle.plan_reader.proofs.document.elements_of.Goals as goal

pub loop-index-preserved : goal.loop-index-preserved
loop-index-preserved c =
    let is = subst (λ (v : Value). element_value c.args.version (c.loop-index.index + 1) (as_table (view v)) ≡ Ok c.in_ok-read.read) c.index-values-index.is c.in_ok-read.ensures in
    element-read c.loop-index.elements.items c.push.new.self.items c.loop-index.files.items c.push_file.new.files.items c.args.version c.loop-index.index c.args.values.now c.index-values-index.result c.in_ok-read.read
    (elements_from c.args.version 1 (items_view c.args.values.now)) c.loop-index-test.true is c.loop-index.invariant c.in_ok-push.ensures.items c.in_ok-push_file.ensures.ok
