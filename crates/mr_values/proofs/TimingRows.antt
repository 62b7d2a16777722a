-- The worked rows.
use Rattle.std.proofs.Common.{◌≡◌, List, [], ◌∷◌, ℤ, pos, negsuc, refl}
use Rattle.mr_values.specs.declared.plan.Element.{Element}
use Rattle.mr_values.specs.declared.plan.Element.TheVariants.{Up, Down, Filter, CicDown, CicUp, Round}
use Rattle.mr_values.specs.declared.plan.Form.TheVariants.{Parallel, Symmetric, HalfBand, Folded, Distributed}
use Rattle.mr_values.specs.declared.plan.Mode.TheVariants.{HalfUp}
use Rattle.mr_values.specs.Timing.{latency, last_stream}

three_taps : latency 4 1 (Filter (pos 1 ∷ pos 2 ∷ pos 3 ∷ []) Parallel ∷ []) ≡ 4
three_taps = refl

negation : latency 4 1 (Filter (negsuc 0 ∷ []) Parallel ∷ []) ≡ 2
negation = refl

sum_and_difference : latency 4 1 (Filter (pos 1 ∷ pos 1 ∷ []) Parallel ∷ Filter (pos 1 ∷ negsuc 0 ∷ []) Parallel ∷ []) ≡ 5
sum_and_difference = refl

interpolator : latency 8 2 (Up (pos 2) ∷ Filter (pos 1 ∷ pos 2 ∷ pos 3 ∷ []) Parallel ∷ []) ≡ 4
interpolator = refl

decimator : latency 4 1 (CicDown (pos 2) (pos 2) (pos 1) ∷ []) ≡ 5
decimator = refl

folded : latency 4 4 (Filter (pos 1 ∷ pos 2 ∷ pos 3 ∷ pos 4 ∷ []) (Folded (pos 4)) ∷ []) ≡ 8
folded = refl

distributed : latency 3 3 (Filter (pos 1 ∷ negsuc 0 ∷ []) (Distributed (pos 2)) ∷ []) ≡ 6
distributed = refl

half_band : List ℤ
half_band = negsuc 0 ∷ pos 0 ∷ pos 9 ∷ pos 16 ∷ pos 9 ∷ pos 0 ∷ negsuc 0 ∷ []

half_band_decimator : latency 4 1 (Filter half_band HalfBand ∷ Down (pos 2) ∷ []) ≡ 5
unfolding half_band
half_band_decimator = refl

cic_up : latency 4 2 (CicUp (pos 2) (pos 2) (pos 1) ∷ []) ≡ 5
cic_up = refl

ramp : List ℤ
ramp = pos 1 ∷ pos 2 ∷ pos 3 ∷ pos 4 ∷ pos 5 ∷ pos 6 ∷ pos 7 ∷ pos 8 ∷ pos 9 ∷ pos 10 ∷ pos 11 ∷ pos 12 ∷ pos 13 ∷ pos 14 ∷ pos 15 ∷ pos 16 ∷ pos 16 ∷ pos 15 ∷ pos 14 ∷ pos 13 ∷ pos 12 ∷ pos 11 ∷ pos 10 ∷ pos 9 ∷ pos 8 ∷ pos 7 ∷ pos 6 ∷ pos 5 ∷ pos 4 ∷ pos 3 ∷ pos 2 ∷ pos 1 ∷ []

converter : List Element
converter = CicDown (pos 16) (pos 5) (pos 1) ∷ Filter half_band HalfBand ∷ Down (pos 2) ∷ Filter ramp Symmetric ∷ Down (pos 2) ∷ Round (pos 33) HalfUp ∷ []

down_converter : latency 16 1 converter ≡ 23
unfolding converter half_band ramp
down_converter = refl

down_converter_period : (last_stream 16 1 converter).period ≡ 64
unfolding converter half_band ramp
down_converter_period = refl
