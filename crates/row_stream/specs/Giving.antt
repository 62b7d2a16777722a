-- How the calls of a stream of rows end: what it gives at each point of its file, and what a call says of that.
use Rattle.std.specs.Prelude.{◌≡◌, ℕ, Bool, true, false, List, [], ◌++◌, drop, Option, Some, None, Result, Ok, Err}
use Rattle.sample_file.specs.declared.fault.LineFault.{LineFault}
use Rattle.row_stream.specs.declared.fault.StreamFault.{StreamFault}
use Rattle.row_stream.specs.declared.fault.StreamFault.TheVariants.{Line, Memory}

-- what is given at a point of a file: where these bytes follow up to its end, this text, and the fault of the line that is refused, if any
abbrev pub Giving : Type 1
Giving = List ℕ → List ℕ → Option LineFault → Type 0

-- whatever bytes follow, a text is given
abbrev pub GivesSome : Giving → Type 0
GivesSome gives = (bytes : List ℕ) → (text : List ℕ) × (last : Option LineFault) × gives bytes text last

-- whatever bytes follow, the old point gives the output, and then what the new point gives; of the piece some bytes are left
pub record GoesOn (old new : Giving) (piece left more : List ℕ) : Type 0 where
  pub gives : (rest text : List ℕ) (last : Option LineFault) → new (left ++ rest) text last → old (piece ++ rest) (more ++ text) last

-- at the end of the file the old point gives the output, and then what the new point gives
pub record EndsOn (old new : Giving) (more : List ℕ) : Type 0 where
  pub gives : (text : List ℕ) (last : Option LineFault) → new [] text last → old [] (more ++ text) last

-- bytes were taken, or a line of them is refused: the output grows by what is given up to there, and by something at want of memory
abbrev pub Takes : Giving → Giving → List ℕ → List ℕ → Result ℕ StreamFault → List ℕ → Type 0
Takes old new piece before (Ok taken) after = (more : List ℕ) × (after ≡ before ++ more) × GoesOn old new piece (drop taken piece) more
Takes old new piece before (Err (Line fault)) after = (more : List ℕ) × (after ≡ before ++ more) × ((rest : List ℕ) → old (piece ++ rest) more (Some fault))
Takes old new piece before (Err Memory) after = (more : List ℕ) × (after ≡ before ++ more)

-- the file is at its end, and all was given or not all, or its last line is refused
abbrev pub Closes : Giving → Giving → List ℕ → Result Bool StreamFault → List ℕ → Type 0
Closes old new before (Ok true) after = (more : List ℕ) × (after ≡ before ++ more) × old [] more None
Closes old new before (Ok false) after = (more : List ℕ) × (after ≡ before ++ more) × EndsOn old new more
Closes old new before (Err (Line fault)) after = (more : List ℕ) × (after ≡ before ++ more) × old [] more (Some fault)
Closes old new before (Err Memory) after = (more : List ℕ) × (after ≡ before ++ more)
