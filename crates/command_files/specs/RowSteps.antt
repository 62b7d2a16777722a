-- The steps of streaming the rows of a file.
use Rattle.std.specs.Prelude.{◌≡◌, ◌≢◌, ◌⊎◌, ℕ, Bool, true, false, List, [], ◌++◌, Option, Some, None, Result, Ok, Err, OnOk}
use Rattle.std.specs.FinMap.{insert}
use Rattle.mr_values.specs.Files.{Files}
use Rattle.mr_values.specs.Host.{HostState, left_of}
use Rattle.mr_values.specs.declared.host.HostCall.TheVariants.{Next, Put, OpenOutput}
use Rattle.sample_file.specs.declared.fault.LineFault.{LineFault}
use Rattle.row_stream.specs.Giving.{Giving, GoesOn, EndsOn}
use Rattle.row_stream.specs.declared.fault.StreamFault.{StreamFault}
use Rattle.row_stream.specs.declared.fault.StreamFault.TheVariants as stream
use Rattle.command_files.specs.declared.fault.RowsFault.{RowsFault}
use Rattle.command_files.specs.declared.fault.RowsFault.TheVariants.{HostFault, Memory, Line}
use Rattle.command_files.specs.Ends.{IsReadToEnd}
use Rattle.command_files.specs.WholeFiles.{IsEmptied}

-- where the output held what was sent, it now holds these bytes behind it, and no other file has changed
abbrev pub Appended : List ℕ → HostState → HostState → Type 0
Appended front old new = (base : Files) (sent : List ℕ) → old.files ≡ insert base old.output sent → new.files ≡ insert base old.output (sent ++ front)

-- the output was opened: the file is empty, or as it was where it couldn't be opened
abbrev pub OpenAnswer : List ℕ → Result (Unit {0}) RowsFault → HostState → HostState → Type 0
OpenAnswer name (Ok done) old new = (new.files ≡ insert old.files name []) × (new.output ≡ name)
OpenAnswer name (Err (HostFault OpenOutput)) old new = IsEmptied name old.files new.files
OpenAnswer name (Err Memory) old new = IsEmptied name old.files new.files
OpenAnswer name (Err _) old new = ⊥

pub record OpensOut (name : List ℕ) (result : Result (Unit {0}) RowsFault) (old new : HostState) : Type 0 where
  pub answer : OpenAnswer name result old new
  pub input : new.input ≡ old.input
  pub place : new.place ≡ old.place

-- ---- one output

-- all bytes were put, or a part of them
abbrev pub PutAnswer : List ℕ → List ℕ → Result (Unit {0}) RowsFault → Type 0
PutAnswer bytes front (Ok done) = front ≡ bytes
PutAnswer bytes front (Err (HostFault Put)) = (behind : List ℕ) × (bytes ≡ front ++ behind)
PutAnswer bytes front (Err Memory) = (behind : List ℕ) × (bytes ≡ front ++ behind)
PutAnswer bytes front (Err _) = ⊥

pub record PutsOut (bytes : List ℕ) (result : Result (Unit {0}) RowsFault) (old new : HostState) : Type 0 where
  pub front : List ℕ
  pub answer : PutAnswer bytes front result
  pub grown : Appended front old new
  pub input : new.input ≡ old.input
  pub place : new.place ≡ old.place
  pub output : OnOk result (new.output ≡ old.output)

-- a part of the bytes, and nothing of them where there was no memory to make them
abbrev pub IsPart : {A : Type 0} → Result A StreamFault → List ℕ → List ℕ → Type 0
IsPart answer bytes front = (front ≡ []) ⊎ ((behind : List ℕ) × (answer ≢ Err stream.Memory) × (bytes ≡ front ++ behind))

-- what was put of the bytes that a call of a stream appended, and what is answered for it
abbrev pub HandedOn : {A : Type 0} → Result A StreamFault → List ℕ → List ℕ → Result A RowsFault → Type 0
HandedOn answer bytes front (Ok x) = (answer ≡ Ok x) × (front ≡ bytes)
HandedOn answer bytes front (Err (Line fault)) = (answer ≡ Err (stream.Line fault)) × (front ≡ bytes)
HandedOn answer bytes front (Err (HostFault Put)) = IsPart answer bytes front
HandedOn answer bytes front (Err Memory) = IsPart answer bytes front
HandedOn answer bytes front (Err _) = ⊥

pub record HandsOn {A : Type 0} (answer : Result A StreamFault) (bytes : List ℕ) (result : Result A RowsFault) (old new : HostState) : Type 0 where
  pub front : List ℕ
  pub handed : HandedOn answer bytes front result
  pub grown : Appended front old new
  pub input : new.input ≡ old.input
  pub place : new.place ≡ old.place
  pub output : OnOk result (new.output ≡ old.output)

-- ---- bytes of the file

-- a text that is given for the bytes begins so
abbrev pub GivesFront : Giving → List ℕ → List ℕ → Type 0
GivesFront gives bytes front = (behind : List ℕ) × (last : Option LineFault) × gives bytes (front ++ behind) last

-- what was put for bytes of which these were left, whatever bytes follow
abbrev pub Taken : {A : Type 0} → (A → List ℕ) → Giving → Giving → List ℕ → List ℕ → Result A RowsFault → Type 0
Taken left old new bytes front (Ok x) = GoesOn old new bytes (left x) front
Taken left old new bytes front (Err (Line fault)) = (rest : List ℕ) → old (bytes ++ rest) front (Some fault)
Taken left old new bytes front (Err (HostFault Next)) = (rest : List ℕ) → GivesFront old (bytes ++ rest) front
Taken left old new bytes front (Err (HostFault Put)) = (rest : List ℕ) → GivesFront old (bytes ++ rest) front
Taken left old new bytes front (Err Memory) = (rest : List ℕ) → GivesFront old (bytes ++ rest) front
Taken left old new bytes front (Err _) = ⊥

-- bytes of a piece were taken, and what is given for them was put
pub record TakesPiece {A : Type 0} (left : A → List ℕ) (start end : Giving) (bytes : List ℕ) (result : Result A RowsFault) (old new : HostState) : Type 0 where
  pub front : List ℕ
  pub answer : Taken left start end bytes front result
  pub grown : Appended front old new
  pub input : new.input ≡ old.input
  pub place : new.place ≡ old.place
  pub output : OnOk result (new.output ≡ old.output)

-- nothing of the bytes is left
abbrev pub none_left : Unit {0} → List ℕ
none_left done = []

-- all that was left of the input was taken, and what is given for it was put behind what was sent before
pub record TakesRows (start end : Giving) (base : Files) (sent : List ℕ) (result : Result (Unit {0}) RowsFault) (old new : HostState) : Type 0 where
  pub front : List ℕ
  pub answer : Taken none_left start end (left_of old) front result
  pub grown : new.files ≡ insert base old.output (sent ++ front)
  pub input : OnOk result (new.input ≡ old.input)
  pub ended : OnOk result (left_of new ≡ [])
  pub read : OnOk result (IsReadToEnd old.input old new)
  pub output : OnOk result (new.output ≡ old.output)

-- ---- the end of the file

-- what was put for these bytes up to the end of the file
abbrev pub Given : Giving → List ℕ → List ℕ → Result (Unit {0}) RowsFault → Type 0
Given gives bytes front (Ok done) = gives bytes front None
Given gives bytes front (Err (Line fault)) = gives bytes front (Some fault)
Given gives bytes front (Err (HostFault Next)) = GivesFront gives bytes front
Given gives bytes front (Err (HostFault Put)) = GivesFront gives bytes front
Given gives bytes front (Err Memory) = GivesFront gives bytes front
Given gives bytes front (Err _) = ⊥

-- the same of one call at the end of the file, after which there may be more to give
abbrev pub GivenOnce : Giving → Giving → List ℕ → Result Bool RowsFault → Type 0
GivenOnce old new front (Ok true) = Given old [] front (Ok tt)
GivenOnce old new front (Ok false) = EndsOn old new front
GivenOnce old new front (Err fault) = Given old [] front (Err fault)

pub record EndsOnce (start end : Giving) (result : Result Bool RowsFault) (old new : HostState) : Type 0 where
  pub front : List ℕ
  pub answer : GivenOnce start end front result
  pub grown : Appended front old new
  pub input : new.input ≡ old.input
  pub place : new.place ≡ old.place
  pub output : OnOk result (new.output ≡ old.output)

-- what is given at the end of the file was put
pub record EndsRows (start : Giving) (result : Result (Unit {0}) RowsFault) (old new : HostState) : Type 0 where
  pub front : List ℕ
  pub answer : Given start [] front result
  pub grown : Appended front old new
  pub input : new.input ≡ old.input
  pub place : new.place ≡ old.place
