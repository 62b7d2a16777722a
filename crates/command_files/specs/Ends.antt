-- How a command ends: which host call, if any, is to blame, and what the counts of faults say of it.
use Rattle.std.specs.Prelude.{◌≡◌, ◌⊎◌, ℕ, ◌≤◌, List, IsTrue, Option, Some, None, Result, Ok, Err}
use Rattle.std.specs.FinMap.{get}
use Rattle.mr_values.specs.declared.host.HostCall.{HostCall}
use Rattle.mr_values.specs.declared.host.HostCall.TheVariants.{OpenInput}
use Rattle.mr_values.specs.Faults.{IsRisen, RaisesOnly}
use Rattle.mr_values.specs.Files.{Files}
use Rattle.mr_values.specs.Host.{HostState}
use Rattle.command_files.specs.declared.fault.CommandFault.{CommandFault}
use Rattle.command_files.specs.declared.fault.CommandFault.TheVariants.{HostFault}
use Rattle.command_files.specs.declared.fault.FileFault.{FileFault}
use Rattle.command_files.specs.declared.fault.FileFault.TheVariants as file
use Rattle.command_files.specs.declared.fault.WriteFault.{WriteFault}
use Rattle.command_files.specs.declared.fault.WriteFault.TheVariants as written
use Rattle.command_files.specs.declared.fault.RowsFault.{RowsFault}
use Rattle.command_files.specs.declared.fault.RowsFault.TheVariants as rows

-- the host call that a fault blames
abbrev pub blamed_call : CommandFault → Option HostCall
blamed_call (HostFault call) = Some call
blamed_call _ = None

abbrev pub call_of : {A : Type 0} → Result A CommandFault → Option HostCall
call_of (Ok value) = None
call_of (Err fault) = blamed_call fault

-- the same where a file is read
abbrev pub blamed_in_file : FileFault → Option HostCall
blamed_in_file (file.HostFault call) = Some call
blamed_in_file _ = None

abbrev pub call_in_file : {A : Type 0} → Result A FileFault → Option HostCall
call_in_file (Ok value) = None
call_in_file (Err fault) = blamed_in_file fault

-- the same where a file is written
abbrev pub blamed_in_writing : WriteFault → Option HostCall
blamed_in_writing (written.HostFault call) = Some call
blamed_in_writing _ = None

abbrev pub call_in_writing : {A : Type 0} → Result A WriteFault → Option HostCall
call_in_writing (Ok value) = None
call_in_writing (Err fault) = blamed_in_writing fault

-- the same where rows are streamed
abbrev pub blamed_in_rows : RowsFault → Option HostCall
blamed_in_rows (rows.HostFault call) = Some call
blamed_in_rows _ = None

abbrev pub call_in_rows : {A : Type 0} → Result A RowsFault → Option HostCall
call_in_rows (Ok value) = None
call_in_rows (Err fault) = blamed_in_rows fault

-- A blamed call's count has risen, and no other: no call came after it. Where none is blamed, all counts are as before.
abbrev pub IsBlamed : Option HostCall → HostState → HostState → Type 0
IsBlamed None old new = new.faults ≡ old.faults
IsBlamed (Some call) old new = RaisesOnly call old.faults new.faults

-- ---- which files are to be read, by the files and a name

abbrev pub IsNoFile : Files → List ℕ → Type 0
IsNoFile files name = ⊥

abbrev pub IsThisFile : List ℕ → Files → List ℕ → Type 0
IsThisFile file files name = name ≡ file

-- a file that is to be read isn't there
abbrev pub IsMissing : (Files → List ℕ → Type 0) → Files → Type 0
IsMissing IsRead files = (name : List ℕ) × IsRead files name × (get files name ≡ None)

-- Over told files, a call is blamed only where the host was struck, or where a file to be read isn't there.
abbrev pub IsStruckFor : (Files → List ℕ → Type 0) → Option HostCall → HostState → HostState → Type 0
IsStruckFor IsRead None old new = new.struck ≡ old.struck
IsStruckFor IsRead (Some call) old new = IsRisen old.struck new.struck ⊎ ((call ≡ OpenInput) × IsMissing IsRead old.files)

-- no count has fallen
abbrev pub AreNoFewer : (List ℕ → ℕ) → (List ℕ → ℕ) → Type 0
AreNoFewer old new = (name : List ℕ) → old name ≤ new name

-- an input was read to its end: a `next` with room in it gave no bytes
abbrev pub IsReadToEnd : List ℕ → HostState → HostState → Type 0
IsReadToEnd name old new = IsRisen (old.ends name) (new.ends name)

-- how a command that reads these files, or a part of one, ends
pub record EndsWith (IsRead : Files → List ℕ → Type 0) (call : Option HostCall) (old new : HostState) : Type 0 where
  pub same_kind : new.tells ≡ old.tells
  pub blamed : IsBlamed call old new
  pub struck : IsTrue old.tells → IsStruckFor IsRead call old new
  -- no input that was read to its end is forgotten
  pub ends : IsTrue old.tells → AreNoFewer old.ends new.ends
