-- Small chains, for the tests.
use Rattle.std.proofs.Common.{◌≡◌, ℕ, zero, suc, List, [], ◌∷◌, take, pos, lit≤, lit<, sym, subst}
use Rattle.mr_values.specs.declared.plan.Element.{Element}
use Rattle.mr_values.specs.declared.plan.Element.TheVariants.{Up, Down, Filter, CicDown, CicUp}
use Rattle.mr_values.specs.declared.plan.Form.TheVariants.{Parallel}
use Rattle.impulse_phase.specs.Response.{full_cycle}
use Rattle.impulse_phase.specs.Gain.{gain_after_all}
use Rattle.impulse_phase.specs.Reading.{IsModest, AreModest}

-- up by 2, three taps, and every third value
abbrev pub chain_of : Element → List Element
chain_of middle = Up (pos 2) ∷ middle ∷ Down (pos 3) ∷ []

abbrev pub three_taps : Element
three_taps = Filter (pos 1 ∷ pos 2 ∷ pos 3 ∷ []) Parallel

modest : (k : ℕ) → IsModest (full_cycle (take k (chain_of three_taps))) (gain_after_all (take k (chain_of three_taps)) 1)
modest zero = record { classes = lit≤ tt; step = lit< tt; gain = lit≤ tt }
modest (suc zero) = record { classes = lit≤ tt; step = lit< tt; gain = lit≤ tt }
modest (suc (suc zero)) = record { classes = lit≤ tt; step = lit< tt; gain = lit≤ tt }
modest (suc (suc (suc zero))) = record { classes = lit≤ tt; step = lit< tt; gain = lit≤ tt }
modest (suc (suc (suc (suc k)))) = record { classes = lit≤ tt; step = lit< tt; gain = lit≤ tt }

pub chain_modest : (middle : Element) → middle ≡ three_taps → AreModest (chain_of middle)
chain_modest middle is = subst (λ (e : Element). AreModest (chain_of e)) (sym is) (record { each = modest })

-- an interpolator alone
abbrev pub interpolator : List Element
interpolator = CicUp (pos 2) (pos 2) (pos 1) ∷ []

pub interpolator_modest : AreModest interpolator
interpolator_modest = record { each = at }
  where
    at : (k : ℕ) → IsModest (full_cycle (take k interpolator)) (gain_after_all (take k interpolator) 1)
    at zero = record { classes = lit≤ tt; step = lit< tt; gain = lit≤ tt }
    at (suc zero) = record { classes = lit≤ tt; step = lit< tt; gain = lit≤ tt }
    at (suc (suc k)) = record { classes = lit≤ tt; step = lit< tt; gain = lit≤ tt }

-- a decimator behind an up by 2
abbrev pub decimator : List Element
decimator = Up (pos 2) ∷ CicDown (pos 3) (pos 1) (pos 1) ∷ []

pub decimator_modest : AreModest decimator
decimator_modest = record { each = at }
  where
    at : (k : ℕ) → IsModest (full_cycle (take k decimator)) (gain_after_all (take k decimator) 1)
    at zero = record { classes = lit≤ tt; step = lit< tt; gain = lit≤ tt }
    at (suc zero) = record { classes = lit≤ tt; step = lit< tt; gain = lit≤ tt }
    at (suc (suc zero)) = record { classes = lit≤ tt; step = lit< tt; gain = lit≤ tt }
    at (suc (suc (suc k))) = record { classes = lit≤ tt; step = lit< tt; gain = lit≤ tt }
