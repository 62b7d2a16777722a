-- What a clipping is as a stage.
use Rattle.std.specs.Prelude.{ℕ, ◌≤◌, [], ◌∷◌, pos}
use Rattle.mr_values.specs.declared.plan.Element.TheVariants.{Clip}
use Rattle.stage_law.specs.Facts.{StageFacts}
use Rattle.stage_law.specs.declared.stage.Kind.TheVariants.{Clipping}

abbrev pub clipping_facts : ℕ → StageFacts
clipping_facts bits = record { kind = Clipping; elements = Clip (pos bits) ∷ []; up = 1; down = 1; delay = λ period. 1; gain = 1; adders = 0; windows = 0; tables = 0; longest = 0; alike = 0; registers = λ period. [] }

abbrev pub clipping_takes : ℕ → Type 0
clipping_takes period = 1 ≤ period
