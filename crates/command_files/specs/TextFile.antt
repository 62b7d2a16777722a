-- TEXT as a module, and why it is refused.
use Rattle.std.specs.Prelude.{◌≡◌, ℕ, ◌≤◌, ◌<◌, ◌^◌, List, length, Some, Result, Ok, Err, OnOk}
use Rattle.std.specs.FinMap.{get}
use Rattle.mr_values.specs.Files.{Files}
use Rattle.mr_values.specs.Host.{HostState}
use Rattle.mr_values.specs.declared.host.HostCall.TheVariants.{OpenInput, Next}
use Rattle.verilog_tree.specs.declared.tree.Module.{Module}
use Rattle.verilog_tree.specs.Checks.{Passes}
use Rattle.verilog_tree.specs.Tree.{Design}
use Rattle.verilog_tree.specs.View.{design_view}
use Rattle.verilog_tree.specs.declared.fault.ModuleFault.{ModuleFault}
use Rattle.verilog_tree.specs.declared.fault.ModuleFault.TheVariants as check
use Rattle.verilog_text.specs.Reading.{Reads}
use Rattle.verilog_read.specs.declared.fault.ReadFault.{ReadFault}
use Rattle.verilog_read.specs.declared.fault.ReadFault.TheVariants as reading
use Rattle.verilog_read.specs.Answer.{IsStop}
use Rattle.module_reader.specs.Reader.{FailsCheck}
use Rattle.command_files.specs.declared.fault.CommandFault.{CommandFault}
use Rattle.command_files.specs.declared.fault.CommandFault.TheVariants as fault
use Rattle.command_files.specs.declared.fault.CommandFault.TheVariants.{HostFault, Memory}
use Rattle.command_files.specs.declared.fault.FileKind.TheVariants as file
use Rattle.command_files.specs.Ends.{IsReadToEnd}

-- the file is there, with these bytes, of which there are at most 64 MiB
pub record HasText (name : List ℕ) (files : Files) (bytes : List ℕ) : Type 0 where
  pub there : get files name ≡ Some bytes
  pub short : length bytes ≤ 2 ^ 26

-- the file is there and has more than 64 MiB
pub record IsLongText (name : List ℕ) (files : Files) : Type 0 where
  pub bytes : List ℕ
  pub there : get files name ≡ Some bytes
  pub long : 2 ^ 26 < length bytes

-- TEXT is there and reads as this module, which passes the checks
pub record IsTextFile (name : List ℕ) (files : Files) (design : Design) : Type 0 where
  pub bytes : List ℕ
  pub has : HasText name files bytes
  pub reads : Reads bytes design
  pub passes : Passes design

-- TEXT is there, and reads as no module that passes the checks
pub record IsOtherText (name : List ℕ) (files : Files) (bytes : List ℕ) : Type 0 where
  pub has : HasText name files bytes
  pub other : (design : Design) → Reads bytes design → ¬ Passes design

-- the first place at which no text of the grammar goes on so
abbrev pub IsUnreadAt : List ℕ → ReadFault → Type 0
IsUnreadAt bytes (reading.Module why) = ⊥
IsUnreadAt bytes reading.Memory = ⊥
IsUnreadAt bytes why = IsStop bytes why

-- the first check that the text's module fails
abbrev pub IsUncheckedFor : List ℕ → ModuleFault → Type 0
IsUncheckedFor bytes check.Memory = ⊥
IsUncheckedFor bytes why = FailsCheck bytes why

-- TEXT is refused: it is too long, or no text of the grammar, or its module fails a check
abbrev pub IsRefusedText : List ℕ → Files → CommandFault → Type 0
IsRefusedText name files (fault.FileTooLong file.Text) = IsLongText name files
IsRefusedText name files (fault.Read why) = (bytes : List ℕ) × IsOtherText name files bytes × IsUnreadAt bytes why
IsRefusedText name files (fault.Module why) = (bytes : List ℕ) × IsOtherText name files bytes × IsUncheckedFor bytes why
IsRefusedText name files _ = ⊥

-- ---- the steps of reading it

-- what is answered for the bytes of TEXT
abbrev pub BytesAnswer : List ℕ → Result Module CommandFault → Type 0
BytesAnswer bytes (Ok design) = Reads bytes (design_view design) × Passes (design_view design)
BytesAnswer bytes (Err (fault.Read why)) = ((design : Design) → Reads bytes design → ¬ Passes design) × IsUnreadAt bytes why
BytesAnswer bytes (Err (fault.Module why)) = ((design : Design) → Reads bytes design → ¬ Passes design) × IsUncheckedFor bytes why
BytesAnswer bytes (Err Memory) = Unit {0}
BytesAnswer bytes (Err _) = ⊥

-- What is answered for TEXT. A blamed host call and want of memory are said elsewhere.
abbrev pub DesignAnswer : List ℕ → Files → Result Module CommandFault → Type 0
DesignAnswer name files (Ok design) = IsTextFile name files (design_view design)
DesignAnswer name files (Err (HostFault OpenInput)) = Unit {0}
DesignAnswer name files (Err (HostFault Next)) = Unit {0}
DesignAnswer name files (Err Memory) = Unit {0}
DesignAnswer name files (Err why) = IsRefusedText name files why

-- TEXT was read: where all is well, to its end
pub record ReadsDesign (name : List ℕ) (result : Result Module CommandFault) (old new : HostState) : Type 0 where
  pub answer : DesignAnswer name old.files result
  pub ended : OnOk result (IsReadToEnd name old new)
  pub files : new.files ≡ old.files
