-- Lists in memory to which a walk adds.
use Rattle.std.specs.Prelude.{◌≡◌, List, ◌++◌, map}

-- behind what was there stands what is put before further elements
pub record Adds {X Y : Type 0} (view : X → Y) (put : List Y → List Y) (old new : List X) : Type 0 where
  pub adds : (rest : List Y) → map view new ++ rest ≡ map view old ++ put rest
