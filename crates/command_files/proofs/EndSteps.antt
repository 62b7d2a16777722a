-- How a command ends after a part of it that went well.
use Rattle.std.proofs.Common.{◌≡◌, ◌∙◌, ℕ, List, Option, Some, None, IsTrue, inl, inr, refl, subst}
use Rattle.mr_values.specs.declared.host.HostCall.{HostCall}
use Rattle.mr_values.specs.declared.host.FaultCounts.{FaultCounts}
use Rattle.mr_values.specs.Faults.{IsRisen, RaisesOnly}
use Rattle.mr_values.specs.Files.{Files}
use Rattle.mr_values.specs.Host.{HostState}
use Rattle.command_files.specs.declared.fault.FileFault.{FileFault}
use Rattle.command_files.specs.declared.fault.FileFault.TheVariants as file
use Rattle.command_files.specs.declared.fault.WriteFault.{WriteFault}
use Rattle.command_files.specs.declared.fault.WriteFault.TheVariants as written
use Rattle.command_files.specs.declared.fault.RowsFault.{RowsFault}
use Rattle.command_files.specs.declared.fault.RowsFault.TheVariants as rows
use Rattle.command_files.specs.Conversions.{fault_of_file, fault_of_writing, fault_of_rows}
use Rattle.command_files.specs.Ends.{blamed_call, blamed_in_file, blamed_in_writing, blamed_in_rows, IsBlamed, IsMissing, IsStruckFor, EndsWith}
use Rattle.command_files.proofs.EndsKept.{kept_after}

blamed_after : (call : Option HostCall) (old middle new : HostState) → middle.faults ≡ old.faults → IsBlamed call middle new → IsBlamed call old new
blamed_after None old middle new same blamed = blamed ∙ same
blamed_after (Some call) old middle new same blamed = subst (λ (counts : FaultCounts). RaisesOnly call counts new.faults) same blamed

struck_after : (IsRead IsReadMore : Files → List ℕ → Type 0) (call : Option HostCall) (old middle new : HostState) → middle.struck ≡ old.struck → (IsMissing IsReadMore middle.files → IsMissing IsRead old.files)
    → IsStruckFor IsReadMore call middle new → IsStruckFor IsRead call old new
struck_after IsRead IsReadMore None old middle new same missing struck = struck ∙ same
struck_after IsRead IsReadMore (Some call) old middle new same missing (inl risen) = inl (subst (λ (count : ℕ). IsRisen count new.struck) same risen)
struck_after IsRead IsReadMore (Some call) old middle new same missing (inr (is, gone)) = inr (is, missing gone)

-- a part that blames no call, and then another part, of whose missing files the command says that they are its own
pub ends_after : (IsRead IsReadBefore IsReadMore : Files → List ℕ → Type 0) (call : Option HostCall) (old middle new : HostState) → EndsWith IsReadBefore None old middle → EndsWith IsReadMore call middle new
    → (IsTrue old.tells → IsMissing IsReadMore middle.files → IsMissing IsRead old.files) → EndsWith IsRead call old new
ends_after IsRead IsReadBefore IsReadMore call old middle new before more missing = record {
  same_kind = more.same_kind ∙ before.same_kind;
  blamed = blamed_after call old middle new before.blamed more.blamed;
  struck = λ told. struck_after IsRead IsReadMore call old middle new (before.struck told) (missing told) (more.struck (before.same_kind ∙ told));
  ends = λ told. kept_after old.ends middle.ends new.ends (before.ends told) (more.ends (before.same_kind ∙ told));
}

-- the same call in other words
pub ends_as : (IsRead : Files → List ℕ → Type 0) (call other : Option HostCall) (old new : HostState) → call ≡ other → EndsWith IsRead call old new → EndsWith IsRead other old new
ends_as IsRead call other old new same ends = subst (λ (c : Option HostCall). EndsWith IsRead c old new) same ends

-- ---- which call a part blames

pub called_in_file : (why : FileFault) → blamed_in_file why ≡ blamed_call (fault_of_file why)
called_in_file (file.HostFault call) = refl
called_in_file (file.FileTooLong kind) = refl
called_in_file file.Memory = refl

pub called_in_writing : (why : WriteFault) → blamed_in_writing why ≡ blamed_call (fault_of_writing why)
called_in_writing (written.HostFault call) = refl
called_in_writing written.Memory = refl

pub called_in_rows : (why : RowsFault) → blamed_in_rows why ≡ blamed_call (fault_of_rows why)
called_in_rows (rows.HostFault call) = refl
called_in_rows (rows.Line fault) = refl
called_in_rows rows.Memory = refl
