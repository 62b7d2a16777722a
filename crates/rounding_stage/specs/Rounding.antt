-- What a rounding is as a stage.
use Rattle.std.specs.Prelude.{ℕ, ◌≤◌, [], ◌∷◌, pos}
use Rattle.mr_values.specs.declared.plan.Element.TheVariants.{Round}
use Rattle.mr_values.specs.declared.plan.Mode.{Mode}
use Rattle.mr_values.specs.declared.plan.Mode.TheVariants.{HalfUp, HalfEven, Floor}
use Rattle.stage_law.specs.Facts.{StageFacts}
use Rattle.stage_law.specs.declared.stage.Kind.TheVariants.{Rounding}

-- the half is added, and a floor adds nothing
abbrev pub rounding_adders : Mode → ℕ
rounding_adders HalfUp = 1
rounding_adders HalfEven = 1
rounding_adders Floor = 0

abbrev pub rounding_facts : ℕ → Mode → StageFacts
rounding_facts shift mode = record { kind = Rounding; elements = Round (pos shift) mode ∷ []; up = 1; down = 1; delay = λ period. 1; gain = 1; adders = rounding_adders mode; windows = 0; tables = 0; longest = 0; alike = 0; registers = λ period. [] }

abbrev pub rounding_takes : ℕ → Type 0
rounding_takes period = 1 ≤ period
