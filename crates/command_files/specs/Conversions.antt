-- What a command answers for the fault of a part of it. Want of memory is one fault of its own, and never one of an inner fault.
use Rattle.std.specs.Prelude.{◌≢◌, ℕ, Result, Ok, Err}
use Rattle.plan_check.specs.declared.fault.PlanFault.{PlanFault}
use Rattle.plan_check.specs.declared.fault.PlanFault.TheVariants as check
use Rattle.plan_reader.specs.declared.fault.PlanReadFault.{PlanReadFault}
use Rattle.plan_reader.specs.declared.fault.PlanReadFault.TheVariants as reading
use Rattle.plan_reader.specs.declared.fault.TapFault.{TapFault}
use Rattle.plan_reader.specs.declared.fault.TapFault.TheVariants as taps
use Rattle.verilog_read.specs.declared.fault.ReadFault.{ReadFault}
use Rattle.verilog_read.specs.declared.fault.ReadFault.TheVariants as text
use Rattle.verilog_tree.specs.declared.fault.ModuleFault.TheVariants as module_
use Rattle.command_files.specs.declared.fault.FileFault.{FileFault}
use Rattle.command_files.specs.declared.fault.FileFault.TheVariants as file
use Rattle.command_files.specs.declared.fault.WriteFault.{WriteFault}
use Rattle.command_files.specs.declared.fault.WriteFault.TheVariants as written
use Rattle.command_files.specs.declared.fault.RowsFault.{RowsFault}
use Rattle.command_files.specs.declared.fault.RowsFault.TheVariants as rows
use Rattle.command_files.specs.declared.fault.CommandFault.{CommandFault}
use Rattle.command_files.specs.declared.fault.CommandFault.TheVariants.{HostFault, Memory, FileTooLong, PlanRead, Tap, Plan, Line, Read, Module}

abbrev pub fault_of_file : FileFault → CommandFault
fault_of_file (file.HostFault call) = HostFault call
fault_of_file (file.FileTooLong kind) = FileTooLong kind
fault_of_file file.Memory = Memory

abbrev pub fault_of_writing : WriteFault → CommandFault
fault_of_writing (written.HostFault call) = HostFault call
fault_of_writing written.Memory = Memory

abbrev pub fault_of_rows : RowsFault → CommandFault
fault_of_rows (rows.HostFault call) = HostFault call
fault_of_rows (rows.Line fault) = Line fault
fault_of_rows rows.Memory = Memory

abbrev pub fault_of_reading : PlanReadFault → CommandFault
fault_of_reading reading.Memory = Memory
fault_of_reading why = PlanRead why

-- the fault of the tap file of this element
abbrev pub fault_of_taps : ℕ → TapFault → CommandFault
fault_of_taps element (taps.Bad row why) = Tap element row why
fault_of_taps element taps.Memory = Memory

abbrev pub fault_of_check : PlanFault → CommandFault
fault_of_check check.Memory = Memory
fault_of_check why = Plan why

abbrev pub fault_of_text : ReadFault → CommandFault
fault_of_text (text.Module module_.Memory) = Memory
fault_of_text (text.Module why) = Module why
fault_of_text text.Memory = Memory
fault_of_text why = Read why

abbrev pub result_of_rows : Result (Unit {0}) RowsFault → Result (Unit {0}) CommandFault
result_of_rows (Ok done) = Ok done
result_of_rows (Err why) = Err (fault_of_rows why)

abbrev pub result_of_writing : Result (Unit {0}) WriteFault → Result (Unit {0}) CommandFault
result_of_writing (Ok done) = Ok done
result_of_writing (Err why) = Err (fault_of_writing why)

-- ---- no inner want of memory

-- a place at which a text is refused: neither a failed check, which is a fault of its own, nor want of memory
abbrev pub IsPlaceFault : ReadFault → Type 0
IsPlaceFault (text.Module why) = ⊥
IsPlaceFault text.Memory = ⊥
IsPlaceFault why = Unit {0}

-- the fault holds no want of memory of a part, and no check in a fault of the grammar
abbrev pub IsPlain : CommandFault → Type 0
IsPlain (PlanRead why) = why ≢ reading.Memory
IsPlain (Plan why) = why ≢ check.Memory
IsPlain (Read why) = IsPlaceFault why
IsPlain (Module why) = why ≢ module_.Memory
IsPlain fault = Unit {0}
