-- Whole files, read and written.
use Rattle.std.specs.Prelude.{◌≡◌, ◌⊎◌, ℕ, ◌≤◌, ◌<◌, List, [], length, take, Option, Some, Result, Ok, Err, Vec, OnOk}
use Rattle.std.specs.FinMap.{get, insert}
use Rattle.std.specs.declared.alloc.Global.{Global}
use Rattle.mr_values.specs.Files.{Files}
use Rattle.mr_values.specs.Host.{HostState, left_of}
use Rattle.mr_values.specs.declared.host.HostCall.TheVariants.{OpenInput, Next, OpenOutput, Put}
use Rattle.command_files.specs.declared.fault.FileFault.{FileFault}
use Rattle.command_files.specs.declared.fault.FileFault.TheVariants.{HostFault, Memory, FileTooLong}
use Rattle.command_files.specs.declared.fault.WriteFault.{WriteFault}
use Rattle.command_files.specs.declared.fault.WriteFault.TheVariants as written
use Rattle.command_files.specs.declared.fault.FileKind.{FileKind}
use Rattle.command_files.specs.Ends.{IsReadToEnd}

-- What is answered for a file of these bytes. A blamed host call and want of memory are said elsewhere.
abbrev pub ReadAnswer : Option (List ℕ) → FileKind → ℕ → Result (Vec ℕ Global) FileFault → Type 0
ReadAnswer found file limit (Ok bytes) = (found ≡ Some bytes.items) × (length bytes.items ≤ limit)
ReadAnswer found file limit (Err (FileTooLong kind)) = (kind ≡ file) × ((bytes : List ℕ) × (found ≡ Some bytes) × (limit < length bytes))
ReadAnswer found file limit (Err (HostFault OpenInput)) = Unit {0}
ReadAnswer found file limit (Err (HostFault Next)) = Unit {0}
ReadAnswer found file limit (Err Memory) = Unit {0}
ReadAnswer found file limit (Err _) = ⊥

-- a file was read: where all is well it is the input, and nothing of it is left, since it was read to its end
pub record ReadsFile (name : List ℕ) (file : FileKind) (limit : ℕ) (result : Result (Vec ℕ Global) FileFault) (old new : HostState) : Type 0 where
  pub answer : ReadAnswer (get old.files name) file limit result
  pub input : OnOk result (new.input ≡ name)
  pub end : OnOk result (left_of new ≡ [])
  pub ended : OnOk result (IsReadToEnd name old new)
  pub files : new.files ≡ old.files
  pub output : new.output ≡ old.output

-- the file is as it was, or empty
abbrev pub IsEmptied : List ℕ → Files → Files → Type 0
IsEmptied name old new = (new ≡ old) ⊎ (new ≡ insert old name [])

-- the file holds a part of the text from its beginning
abbrev pub HoldsFront : List ℕ → List ℕ → Files → Files → Type 0
HoldsFront name text old new = (count : ℕ) × (new ≡ insert old name (take count text))

-- the file holds a part of the text from its beginning, or is as it was
abbrev pub HoldsPart : List ℕ → List ℕ → Files → Files → Type 0
HoldsPart name text old new = (new ≡ old) ⊎ HoldsFront name text old new

-- what a file holds after it was written, or after the call that failed
abbrev pub WriteAnswer : List ℕ → List ℕ → Result (Unit {0}) WriteFault → Files → Files → Type 0
WriteAnswer name text (Ok done) old new = new ≡ insert old name text
WriteAnswer name text (Err (written.HostFault OpenOutput)) old new = IsEmptied name old new
WriteAnswer name text (Err (written.HostFault Put)) old new = HoldsFront name text old new
WriteAnswer name text (Err written.Memory) old new = HoldsPart name text old new
WriteAnswer name text (Err _) old new = ⊥

pub record WritesFile (name text : List ℕ) (result : Result (Unit {0}) WriteFault) (old new : HostState) : Type 0 where
  pub answer : WriteAnswer name text result old.files new.files
  pub input : new.input ≡ old.input
  pub place : new.place ≡ old.place
