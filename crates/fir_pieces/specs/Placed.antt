-- Terms over a list of nodes.
use Rattle.std.specs.Prelude.{ℕ, zero, suc, ◌+◌, ◌*◌, ◌^◌, List, [], ◌∷◌, length, take, drop, Bool, true, false, if◌then◌else◌, slice_index_or}
use Rattle.net_graph.specs.declared.cell.Leaf.{Leaf}
use Rattle.net_graph.specs.declared.cell.Node.{Node}
use Rattle.signed_digit.specs.declared.term_list.Term.{Term}

-- each term is negative
abbrev pub all_minus : List Term → Bool
all_minus [] = true
all_minus (t ∷ ts) = if t.negative then all_minus ts else false

-- the adders of a tree over so many terms: one fewer than terms, and one more where all are negative
abbrev pub adders_for : ℕ → Bool → ℕ
adders_for zero negative = 0
adders_for (suc n) true = suc n
adders_for (suc n) false = n

abbrev pub term_adders : List Term → ℕ
term_adders terms = adders_for (length terms) (all_minus terms)

-- the sum of the powers of two
abbrev pub powers : List Term → ℕ
powers [] = 0
powers (t ∷ ts) = 2 ^ t.place + powers ts

-- the terms under the register number j of a level
abbrev pub term_segment : ℕ → ℕ → List Term → List Term
term_segment level j terms = take (2 ^ level) (drop (j * 2 ^ level) terms)

-- a term as a leaf over the nodes of a list
abbrev pub leaf_of : List Node → Term → Leaf
leaf_of nodes t = record { node = slice_index_or nodes t.index (record { place = 0 }); place = t.place; negative = t.negative }
