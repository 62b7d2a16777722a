-- What the files of the system give and take, where a reader or a writer tells its bytes.
use Rattle.std.specs.Prelude.{◌≡◌, ℕ, ◌<◌, true, false, Bool, List, length, take, Option, Some, None, Result, Ok, Err}
use Rattle.std.specs.Io.KnownBytes.{Appends, Consumes, IsAtEnd, Keeps}

-- all bytes of a piece were taken, in their order, or those of a front of it
abbrev pub IsTaken : Bool → List ℕ → Option (List ℕ) → Option (List ℕ) → Type 0
IsTaken true piece old new = Appends old new piece
IsTaken false piece old new = (count : ℕ) × Appends old new (take count piece)

-- the bytes that came into the room are those that the reader gave: none at its end alone, or where there is no room
abbrev pub IsGiven : {E : Type 0} → Result ℕ E → List ℕ → Option (List ℕ) → Option (List ℕ) → Type 0
IsGiven (Ok count) room old new = Consumes old new (take count room) × (count ≡ 0 → 0 < length room → IsAtEnd new)
IsGiven (Err e) room old new = Keeps old new
