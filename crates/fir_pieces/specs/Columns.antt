-- Registers that hold several sums each, one for each phase.
use Rattle.std.specs.Prelude.{◌≡◌, ℕ, List, [], ◌∷◌, ◌++◌, map, Option, None, Some, slice_get}
use Rattle.stage_law.specs.Range.{IsRange}
use Rattle.stage_law.specs.Registers.{HeldSum}
use Rattle.stage_law.specs.Streams.{Streams}
use Rattle.stage_law.specs.Weights.{weights_of}
use Rattle.fir_pieces.specs.declared.held.Held.{Held}
use Rattle.fir_pieces.specs.declared.held_sums.HeldSums.{HeldSums}
use Rattle.fir_pieces.specs.Held.{held_sum}

abbrev pub parts_in : HeldSums → List Held
parts_in own = own.sums.items

-- none where there were none
abbrev pub parts_before : Option HeldSums → List Held
parts_before None = []
parts_before (Some own) = parts_in own

abbrev pub parts_of : List HeldSums → List (List Held)
parts_of held = map parts_in held

-- each list of the first ones, where there is one, with the element of the second that stands beside it
abbrev pub with_more : {X : Type 0} → List (List X) → List X → List (List X)
with_more all [] = []
with_more [] (x ∷ more) = (x ∷ []) ∷ with_more [] more
with_more (xs ∷ all) (x ∷ more) = (xs ++ x ∷ []) ∷ with_more all more

-- these are the sums of each register, with their ranges over the streams
pub record AreAllHeld (streams : Streams) (all : List (List HeldSum)) (parts : List (List Held)) : Type 0 where
  pub same : map (map held_sum) parts ≡ all
  pub each : (k : ℕ) (held : List Held) → slice_get parts k ≡ Some held → (j : ℕ) (own : Held) → slice_get held j ≡ Some own → IsRange streams (weights_of own.sum) own.class own.range
