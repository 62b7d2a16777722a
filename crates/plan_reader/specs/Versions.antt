-- Versions of plan files: 1, and 2, which alone knows clipping and rounding of halves to even.
use Rattle.std.specs.Prelude.{◌≡◌, ◌⊎◌, ℕ, List}
use Rattle.mr_values.specs.declared.plan.Element.{Element}
use Rattle.mr_values.specs.Value.{AreFirst}

-- a plan file of this version can say these elements
abbrev pub IsVersioned : ℕ → List Element → Type 0
IsVersioned version elements = (version ≡ 2) ⊎ ((version ≡ 1) × AreFirst elements)
