-- Ranges of small chains, computed.
use Rattle.std.proofs.Common.{◌≡◌, List, [], ◌∷◌, pos, negsuc, refl}
use Rattle.mr_values.specs.declared.plan.Element.{Element}
use Rattle.mr_values.specs.declared.plan.Element.TheVariants.{Up, Down, Filter, CicDown}
use Rattle.mr_values.specs.declared.plan.Form.TheVariants.{Parallel}
use Rattle.impulse_phase.specs.Response.{responses, full_cycle}
use Rattle.width_extreme.specs.Prefix.{range_of, finer_classes}
use Rattle.impulse_phase.specs.Reach.{extent}

-- a pair of equal values, and then a difference
abbrev pub prefix : List Element
prefix = Up (pos 2) ∷ Filter (pos 1 ∷ pos 1 ∷ []) Parallel ∷ []

even : range_of 4 (pos 0 ∷ pos 1 ∷ negsuc 0 ∷ []) (responses prefix) (record { modulus = 2; residue = 0 }) (finer_classes (full_cycle prefix).classes 2) ≡ record { lo = pos 0; hi = pos 0 }
even = refl

odd : range_of 4 (pos 0 ∷ pos 1 ∷ negsuc 0 ∷ []) (responses prefix) (record { modulus = 2; residue = 1 }) (finer_classes (full_cycle prefix).classes 2) ≡ record { lo = negsuc 14; hi = pos 15 }
odd = refl

whole : range_of 4 (pos 0 ∷ pos 1 ∷ negsuc 0 ∷ []) (responses prefix) (record { modulus = 1; residue = 0 }) (finer_classes (full_cycle prefix).classes 1) ≡ record { lo = negsuc 14; hi = pos 15 }
whole = refl

reach : (extent prefix).reach ≡ 2
reach = refl

-- a decimator between two filters
abbrev pub decimator : List Element
decimator = Filter (pos 1 ∷ pos 1 ∷ []) Parallel ∷ Down (pos 2) ∷ Filter (pos 1 ∷ negsuc 0 ∷ []) Parallel ∷ []

decimator-weights : (responses decimator (pos 0)).weights ≡ pos 1 ∷ pos 1 ∷ negsuc 0 ∷ negsuc 0 ∷ []
decimator-weights = refl

decimator-range : range_of 4 (pos 1 ∷ []) (responses decimator) (record { modulus = 1; residue = 0 }) (finer_classes (full_cycle decimator).classes 1) ≡ record { lo = negsuc 29; hi = pos 30 }
decimator-range = refl

decimator-reach : (extent decimator).reach ≡ 4
decimator-reach = refl

-- three stages of a comb-integrator decimator by 8, and a filter
abbrev pub comb : List Element
comb = CicDown (pos 8) (pos 3) (pos 1) ∷ Filter (pos 1 ∷ negsuc 0 ∷ []) Parallel ∷ []

comb-range : range_of 4 (pos 1 ∷ []) (responses comb) (record { modulus = 1; residue = 0 }) (finer_classes (full_cycle comb).classes 1) ≡ record { lo = negsuc 5159; hi = pos 5160 }
comb-range = refl
