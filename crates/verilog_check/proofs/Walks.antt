-- Walks that add to a list in memory.
use Rattle.std.proofs.Common.{◌≡◌, List, ◌++◌, map}

-- what is left leads from here to where all leads from the start
pub record IsUnderway {X Y : Type 0} (view : X → Y) (all left : List Y → List Y) (old now : List X) : Type 0 where
  pub goes : (rest : List Y) → map view now ++ left rest ≡ map view old ++ all rest
