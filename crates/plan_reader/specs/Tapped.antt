-- A plan with other taps in one of its filters.
use Rattle.std.specs.Prelude.{ℕ, zero, suc, ℤ, List, [], ◌∷◌}
use Rattle.mr_values.specs.declared.plan.Element.{Element}
use Rattle.mr_values.specs.declared.plan.Element.TheVariants.{Up, Down, Filter, CicDown, CicUp, Round, Clip}
use Rattle.mr_values.specs.declared.plan.Plan.{Plan}

-- other taps where the element is a filter
abbrev pub tapped : List ℤ → Element → Element
tapped taps (Filter old form) = Filter taps form
tapped taps (Up factor) = Up factor
tapped taps (Down factor) = Down factor
tapped taps (CicDown factor stages delay) = CicDown factor stages delay
tapped taps (CicUp factor stages delay) = CicUp factor stages delay
tapped taps (Round shift mode) = Round shift mode
tapped taps (Clip bits) = Clip bits

-- other taps at a place from 0
abbrev pub tapped_at : ℕ → List ℤ → List Element → List Element
tapped_at place taps [] = []
tapped_at zero taps (e ∷ es) = tapped taps e ∷ es
tapped_at (suc place) taps (e ∷ es) = e ∷ tapped_at place taps es

-- other taps in the element of this number, counted from 1
abbrev pub tapped_number : ℕ → List ℤ → List Element → List Element
tapped_number zero taps es = es
tapped_number (suc place) taps es = tapped_at place taps es

abbrev pub plan_tapped : ℕ → List ℤ → Plan → Plan
plan_tapped element taps plan = record { width = plan.width; ticks = plan.ticks; elements = tapped_number element taps plan.elements }
