-- Taps that are the same from both ends, or the same but for their signs, and their pairs.
use Rattle.std.specs.Prelude.{◌≡◌, ℕ, zero, suc, ◌-◌, ◌/◌, ◌%◌, ◌<◌, ◌≤◌, Bool, true, false, if◌then◌else◌, List, [], ◌∷◌, ◌++◌, length, map, slice_index_or, ℤ, pos, negsuc, neg_ℤ}
use Rattle.signed_digit.specs.declared.term_list.Term.{Term}
use Rattle.signed_digit.specs.Terms.{terms_of}
use Rattle.fir_pieces.specs.declared.reading.Reading.{Reading}
use Rattle.fir_pieces.specs.declared.reading.Reading.TheVariants.{One, Sum, Difference}

abbrev pub tap : List ℤ → ℕ → ℤ
tap taps i = slice_index_or taps i (pos 0)

-- a number, or its negation
abbrev pub opposite : ℕ → ℤ → ℤ
opposite zero z = z
opposite (suc n) z = neg_ℤ z

-- each tap is that of the other end, or its negation
pub record IsMirrored (anti : ℕ) (taps : List ℤ) : Type 0 where
  pub sign : anti ≤ 1
  pub same : (i : ℕ) → i < length taps → tap taps i ≡ opposite anti (tap taps (length taps - 1 - i))

-- ---- pairs

abbrev pub is_zero : ℤ → Bool
is_zero (pos zero) = true
is_zero (pos (suc n)) = false
is_zero (negsuc n) = false

-- the place, where the tap there isn't 0
abbrev pub place_if : List ℤ → ℕ → List ℕ
place_if taps i = if is_zero (tap taps i) then [] else i ∷ []

-- the places below i whose taps aren't 0
abbrev pub places_below : List ℤ → ℕ → List ℕ
places_below taps zero = []
places_below taps (suc i) = places_below taps i ++ place_if taps i

-- the first places of the pairs whose taps aren't 0
abbrev pub pair_places : List ℤ → List ℕ
pair_places taps = places_below taps (length taps / 2)

-- the place of the centre, where there is one and its tap isn't 0
abbrev pub centre_if : ℕ → List ℤ → List ℕ
centre_if zero taps = []
centre_if (suc n) taps = place_if taps (length taps / 2)

abbrev pub centre_places : List ℤ → List ℕ
centre_places taps = centre_if (length taps % 2) taps

-- ---- what is read of the window

-- the sum of a pair's values, or their difference
abbrev pub pair_at : ℕ → ℕ → ℕ → Reading
pair_at zero count i = Sum i (count - 1 - i)
pair_at (suc n) count i = Difference i (count - 1 - i)

abbrev pub pairs : ℕ → List ℤ → List Reading
pairs anti taps = map (pair_at anti (length taps)) (pair_places taps)

abbrev pub centres : List ℤ → List Reading
centres taps = map One (centre_places taps)

abbrev pub readings : ℕ → List ℤ → List Reading
readings anti taps = pairs anti taps ++ centres taps

-- ---- their terms

-- the first taps of the pairs, and the centre's
abbrev pub firsts : List ℤ → List ℤ
firsts taps = map (tap taps) (pair_places taps ++ centre_places taps)

-- by tap index, and for each from the lowest digit
abbrev pub mirror_terms : List ℤ → List Term
mirror_terms taps = terms_of 1 0 (firsts taps)
