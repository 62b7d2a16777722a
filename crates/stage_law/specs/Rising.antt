-- The weights of a sum over a stream, the newest value first.
use Rattle.std.specs.Prelude.{ℕ, zero, suc, ◌<◌, ◌-◌, List, [], ◌∷◌, ◌++◌, length, get_or, map, Bool, true, false, ℤ, pos, negsuc, replicate}
use Rattle.stage_law.specs.declared.weights.Weight.{Weight}

-- ---- the weights of a list

abbrev pub blank : Weight
blank = record { behind = 0; factor = pos 0 }

abbrev pub behind_at : List Weight → ℕ → ℕ
behind_at ws i = (get_or ws i blank).behind

abbrev pub factors_in : List Weight → List ℤ
factors_in ws = map (λ (w : Weight). w.factor) ws

-- each is of an older value than those before
pub record AreRising (ws : List Weight) : Type 0 where
  pub each : (i j : ℕ) → i < j → j < length ws → behind_at ws i < behind_at ws j

-- ---- from weights to factors and back

-- the factor of each value from this one on, 0 where there is no weight
abbrev pub factors_from : ℕ → List Weight → List ℤ
factors_from place [] = []
factors_from place (w ∷ ws) = replicate (w.behind - place) (pos 0) ++ (w.factor ∷ factors_from (suc w.behind) ws)

-- the factor of a value, where it isn't 0 or is the last
abbrev pub kept : Bool → ℕ → ℤ → List Weight
kept true place z = record { behind = place; factor = z } ∷ []
kept false place (pos zero) = []
kept false place (pos (suc n)) = record { behind = place; factor = pos (suc n) } ∷ []
kept false place (negsuc n) = record { behind = place; factor = negsuc n } ∷ []
