-- The weights of moving sums one after another.
use Rattle.std.specs.Prelude.{ℕ, zero, suc, List, [], ◌∷◌, ℤ, pos, ◌+ℤ◌}

-- place by place, the longer list's rest as it is
abbrev pub added : List ℤ → List ℤ → List ℤ
added [] ys = ys
added (x ∷ xs) [] = x ∷ xs
added (x ∷ xs) (y ∷ ys) = (x +ℤ y) ∷ added xs ys

-- n places further on; no weights stay none
abbrev pub behind : ℕ → List ℤ → List ℤ
behind n [] = []
behind zero (x ∷ xs) = x ∷ xs
behind (suc n) (x ∷ xs) = pos 0 ∷ behind n (x ∷ xs)

-- the weights of a moving sum of `count` sums with these weights, `stride` places apart: their product, as polynomials, with
-- 1 + z^stride + z^(2 * stride) + .. of `count` terms
abbrev pub moving : (stride count : ℕ) → List ℤ → List ℤ
moving stride zero weights = []
moving stride (suc count) weights = added weights (behind stride (moving stride count weights))

-- the same so many times
abbrev pub moving_times : (stages stride count : ℕ) → List ℤ → List ℤ
moving_times zero stride count weights = weights
moving_times (suc stages) stride count weights = moving stride count (moving_times stages stride count weights)

-- The same of single values: the weights of a cascade of integrators and combs. Hogenauer 1981, II.
abbrev pub cic_weights : (stages width : ℕ) → List ℤ
cic_weights stages width = moving_times stages 1 width (pos 1 ∷ [])
