-- The terms of a phase: one for each digit of the non-adjacent forms of its taps.
use Rattle.std.specs.Prelude.{ℕ, zero, suc, ◌-◌, List, [], ◌∷◌, ◌++◌, map, ◌^◌, ℤ, pos, ◌+ℤ◌, ◌*ℤ◌}
use Rattle.mr_values.specs.declared.digit.Digit.{Digit}
use Rattle.mr_values.specs.Digit.{with_sign, non_adjacent}
use Rattle.signed_digit.specs.declared.term_list.Term.{Term}

abbrev pub term_of : ℕ → Digit → Term
term_of index d = record { index = index; place = d.place; negative = d.negative }

-- the terms of one tap, from the lowest place
abbrev pub tap_terms : ℕ → ℤ → List Term
tap_terms index c = map (term_of index) (non_adjacent c)

-- the terms of the taps from an index on, where `wait` taps stand before the next one of the phase
abbrev pub terms_from : ℕ → ℕ → ℕ → List ℤ → List Term
terms_from up wait index [] = []
terms_from up zero index (c ∷ cs) = tap_terms index c ++ terms_from up (up - 1) (suc index) cs
terms_from up (suc wait) index (c ∷ cs) = terms_from up wait (suc index) cs

-- the terms of h[phase], h[phase + up], ..
abbrev pub terms_of : ℕ → ℕ → List ℤ → List Term
terms_of up phase taps = terms_from up phase 0 taps

-- the sum over the terms of ± 2 ^ place * f(index)
abbrev pub term_sum : (ℕ → ℤ) → List Term → ℤ
term_sum f [] = pos 0
term_sum f (t ∷ ts) = with_sign t.negative (2 ^ t.place) *ℤ f t.index +ℤ term_sum f ts
