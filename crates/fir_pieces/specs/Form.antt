-- What a register holds, as weights of a stream's values.
use Rattle.std.specs.Prelude.{ℕ, suc, ◌-◌, ◌^◌, max, List, [], ◌∷◌, replicate, slice_set, slice_index_or, Bool, false, ℤ, pos, ◌+ℤ◌}
use Rattle.mr_values.specs.Digit.{with_sign}
use Rattle.signed_digit.specs.declared.term_list.Term.{Term}
use Rattle.pipeline_balance.specs.Leaves.{signed_by}
use Rattle.fir_pieces.specs.declared.reading.Reading.{Reading}
use Rattle.fir_pieces.specs.Placed.{all_minus}
use Rattle.fir_pieces.specs.Reading.{terms_at, spread}

-- a term's power of two, or its negation
abbrev pub power_of : Bool → Term → ℤ
power_of negated t = signed_by negated (with_sign t.negative (2 ^ t.place))

-- the form with one term more
abbrev pub with_term : Bool → List ℤ → Term → List ℤ
with_term negated form t = slice_set form t.index (slice_index_or form t.index (pos 0) +ℤ power_of negated t)

abbrev pub with_terms : Bool → List ℤ → List Term → List ℤ
with_terms negated form [] = form
with_terms negated form (t ∷ ts) = with_terms negated (with_term negated form t) ts

-- how many places there are up to the last that a term weighs
abbrev pub reach_of : List Term → ℕ
reach_of [] = 0
reach_of (t ∷ ts) = max (suc t.index) (reach_of ts)

-- the weights of these terms, or of their negations
abbrev pub weights_by : Bool → List Term → List ℤ
weights_by negated terms = with_terms negated (replicate (reach_of terms) (pos 0)) terms

-- the weights of terms over nodes that show these, or of their negations where all are negative
abbrev pub form_of : List Reading → List Term → List ℤ
form_of readings terms = weights_by (all_minus terms) (spread readings terms)

-- a value by itself, as a term
abbrev pub one_value : Term
one_value = record { index = 0; place = 0; negative = false }

-- the weights of what a node shows
abbrev pub reading_form : Reading → List ℤ
reading_form r = weights_by false (terms_at r one_value)

-- the term at a place so many places before
abbrev pub moved : ℕ → Term → Term
moved behind t = record { index = t.index - behind; place = t.place; negative = t.negative }
