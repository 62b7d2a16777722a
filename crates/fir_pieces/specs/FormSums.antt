-- Sums and multiples of forms, and terms over nodes that hold forms.
use Rattle.std.specs.Prelude.{◌≡◌, ℕ, ◌+◌, ◌*◌, ◌^◌, List, [], ◌∷◌, slice_get, Some, ℤ, ◌+ℤ◌, ◌*ℤ◌}
use Rattle.mr_values.specs.Digit.{with_sign}
use Rattle.net_graph.specs.declared.cell.Cell.{Cell}
use Rattle.net_graph.specs.declared.cell.Node.{Node}
use Rattle.net_graph.specs.declared.cell.Stream.{Stream}
use Rattle.signed_digit.specs.declared.term_list.Term.{Term}
use Rattle.stage_law.specs.Streams.{Streams, magnitudes}
use Rattle.fir_pieces.specs.Placed.{all_minus}
use Rattle.fir_pieces.specs.Moment.{Pace, Forms, HoldsForms}

-- ---- one form

-- place by place, as long as the longer
abbrev pub plus_form : List ℤ → List ℤ → List ℤ
plus_form [] ys = ys
plus_form (a ∷ xs) [] = a ∷ xs
plus_form (a ∷ xs) (b ∷ ys) = (a +ℤ b) ∷ plus_form xs ys

abbrev pub times_form : ℤ → List ℤ → List ℤ
times_form c [] = []
times_form c (a ∷ xs) = (c *ℤ a) ∷ times_form c xs

-- ---- forms for each phase

abbrev pub plus_forms : Forms → Forms → Forms
plus_forms f g φ = plus_form (f φ) (g φ)

abbrev pub times_forms : ℤ → Forms → Forms
times_forms c f φ = times_form c (f φ)

-- ---- terms over the nodes of a list, of which each has its forms

-- the signed sum of the terms
abbrev pub terms_forms : (ℕ → Forms) → List Term → Forms
terms_forms shown [] φ = []
terms_forms shown (t ∷ ts) φ = plus_form (times_form (with_sign t.negative (2 ^ t.place)) (shown t.index φ)) (terms_forms shown ts φ)

-- what a register over the terms holds: their sum, or that of their negations where all are negative
abbrev pub held_forms : (ℕ → Forms) → List Term → Forms
held_forms shown ts φ = times_form (with_sign (all_minus ts) 1) (terms_forms shown ts φ)

-- the sum of the powers of two, each as often as its node's form is great
abbrev pub powers_of : (ℕ → Forms) → ℕ → List Term → ℕ
powers_of shown φ [] = 0
powers_of shown φ (t ∷ ts) = 2 ^ t.place * magnitudes (shown t.index φ) + powers_of shown φ ts

-- each node of the list holds its forms
pub record AllHold (streams : Streams) (cells : List Cell) (from : Stream) (pace : Pace) (shown : ℕ → Forms) (ticks : ℕ) (nodes : List Node) : Type 0 where
  pub each : (k : ℕ) (node : Node) → slice_get nodes k ≡ Some node → HoldsForms streams cells from pace (shown k) ticks node
