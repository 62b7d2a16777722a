-- What a node shows of a stream's values: one of them, or the sum or the difference of two.
use Rattle.std.specs.Prelude.{ℕ, zero, suc, ◌+◌, ◌<◌, List, [], ◌∷◌, ◌++◌, not, slice_index_or, ℤ, ◌+ℤ◌, ◌-ℤ◌}
use Rattle.signed_digit.specs.declared.term_list.Term.{Term}
use Rattle.fir_pieces.specs.declared.reading.Reading.{Reading}
use Rattle.fir_pieces.specs.declared.reading.Reading.TheVariants.{One, Sum, Difference}

-- its value, from the values by their places
abbrev pub read : Reading → (ℕ → ℤ) → ℤ
read (One i) f = f i
read (Sum i j) f = f i +ℤ f j
read (Difference i j) f = f i -ℤ f j

-- each of so many last values by itself, the newest first
abbrev pub ages : ℕ → List Reading
ages zero = []
ages (suc n) = ages n ++ One n ∷ []

-- the places that it reads are below this one
abbrev pub ReadsWithin : ℕ → Reading → Type 0
ReadsWithin depth (One i) = i < depth
ReadsWithin depth (Sum i j) = (i < depth) × (j < depth)
ReadsWithin depth (Difference i j) = (i < depth) × (j < depth)

-- the adders that it takes
abbrev pub reading_adders : Reading → ℕ
reading_adders (One i) = 0
reading_adders (Sum i j) = 1
reading_adders (Difference i j) = 1

abbrev pub all_adders : List Reading → ℕ
all_adders [] = 0
all_adders (r ∷ rs) = reading_adders r + all_adders rs

-- ---- terms

-- the term at another place
abbrev pub moved_to : ℕ → Term → Term
moved_to i t = record { index = i; place = t.place; negative = t.negative }

-- and negated
abbrev pub turned_to : ℕ → Term → Term
turned_to i t = record { index = i; place = t.place; negative = not t.negative }

-- a term of what a node shows, as terms of the values
abbrev pub terms_at : Reading → Term → List Term
terms_at (One i) t = moved_to i t ∷ []
terms_at (Sum i j) t = moved_to i t ∷ moved_to j t ∷ []
terms_at (Difference i j) t = moved_to i t ∷ turned_to j t ∷ []

-- what node number k of a list shows
abbrev pub reading_at : List Reading → ℕ → Reading
reading_at readings k = slice_index_or readings k (One 0)

-- terms over the nodes of a list, as terms of the values
abbrev pub spread : List Reading → List Term → List Term
spread readings [] = []
spread readings (t ∷ ts) = terms_at (reading_at readings t.index) t ++ spread readings ts
