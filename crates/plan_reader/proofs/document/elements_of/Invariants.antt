use Rattle.std.proofs.Common.{◌≡◌, ◌+◌, drop}
use Rattle.toml.specs.View.{items_view}
use Rattle.plan_reader.specs.Documents.{elements_from}
use Rattle.plan_reader.proofs.ElementSteps.{behind}
use Rattle.plan_reader.proofs.document.elements_of.Given as goal

-- what was read, before what is left, is all
abbrev pub invariant-loop-index : goal.invariant-loop-index
invariant-loop-index l = behind l.elements.items l.files.items (elements_from l.version (l.index + 1) (items_view (drop l.index l.values))) ≡ elements_from l.version 1 (items_view l.values)
