-- The rows of a file, streamed to an output.
use Rattle.std.specs.Prelude.{◌≡◌, ◌⊎◌, ℕ, List, [], Option, Some, None, Result, Ok, Err}
use Rattle.std.specs.FinMap.{get, insert}
use Rattle.mr_values.specs.Files.{Files}
use Rattle.mr_values.specs.Host.{HostState, left_of}
use Rattle.mr_values.specs.declared.host.HostCall.TheVariants.{OpenInput, Next, OpenOutput, Put}
use Rattle.sample_file.specs.declared.fault.LineFault.{LineFault}
use Rattle.row_stream.specs.Giving.{Giving}
use Rattle.command_files.specs.declared.fault.RowsFault.{RowsFault}
use Rattle.command_files.specs.declared.fault.RowsFault.TheVariants.{HostFault, Memory, Line}
use Rattle.command_files.specs.Ends.{IsReadToEnd}
use Rattle.command_files.specs.WholeFiles.{IsEmptied, HoldsFront}

-- the file is there
abbrev pub IsThere : List ℕ → Files → Type 0
IsThere name files = (bytes : List ℕ) × (get files name ≡ Some bytes)

-- the input is there, and this text is given for its bytes; `last` is the fault of the line that is refused, if any
pub record IsGiven (gives : Giving) (input : List ℕ) (files : Files) (text : List ℕ) (last : Option LineFault) : Type 0 where
  pub bytes : List ℕ
  pub there : get files input ≡ Some bytes
  pub given : gives bytes text last

-- the output holds exactly a text that is given, and no other file has changed
pub record HoldsGiven (gives : Giving) (input output : List ℕ) (last : Option LineFault) (old new : Files) : Type 0 where
  pub text : List ℕ
  pub given : IsGiven gives input old text last
  pub written : new ≡ insert old output text

-- the output holds a text that is given from its beginning, and no other file has changed
pub record HoldsGivenFront (gives : Giving) (input output : List ℕ) (old new : Files) : Type 0 where
  pub text : List ℕ
  pub last : Option LineFault
  pub given : IsGiven gives input old text last
  pub written : HoldsFront output text old new

-- the whole text was given and written, and the input was read to its end
pub record IsStreamed (gives : Giving) (input output : List ℕ) (old new : HostState) : Type 0 where
  pub holds : HoldsGiven gives input output None old.files new.files
  pub read : new.input ≡ input
  pub end : left_of new ≡ []
  pub ended : IsReadToEnd input old new

-- each answer of the loop over the rows of a file, and the host after it
abbrev pub RowsEnd : Giving → List ℕ → List ℕ → Result (Unit {0}) RowsFault → HostState → HostState → Type 0
RowsEnd gives input output (Ok done) old new = IsStreamed gives input output old new
RowsEnd gives input output (Err (Line fault)) old new = HoldsGiven gives input output (Some fault) old.files new.files
RowsEnd gives input output (Err (HostFault OpenInput)) old new = new.files ≡ old.files
RowsEnd gives input output (Err (HostFault OpenOutput)) old new = IsThere input old.files × IsEmptied output old.files new.files
RowsEnd gives input output (Err (HostFault Next)) old new = HoldsGivenFront gives input output old.files new.files
RowsEnd gives input output (Err (HostFault Put)) old new = HoldsGivenFront gives input output old.files new.files
RowsEnd gives input output (Err Memory) old new = (new.files ≡ old.files) ⊎ HoldsGivenFront gives input output old.files new.files
