-- The terms of a phase, by the places of a window that they weigh.
use Rattle.std.specs.Prelude.{ℕ, ◌/◌, List, map, ℤ}
use Rattle.signed_digit.specs.declared.term_list.Term.{Term}
use Rattle.signed_digit.specs.Terms.{terms_of}

-- a term of the tap h[phase + k * up], which weighs place k
abbrev pub at_place : ℕ → Term → Term
at_place up t = record { index = t.index / up; place = t.place; negative = t.negative }

-- the terms of a phase, each with the place of the window that it weighs
abbrev pub placed_terms : ℕ → ℕ → List ℤ → List Term
placed_terms up phase taps = map (at_place up) (terms_of up phase taps)
