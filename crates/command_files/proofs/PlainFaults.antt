-- What a command answers for the fault of a part holds no want of memory of that part.
use Rattle.std.proofs.Common.{◌≡◌, ℕ}
use Rattle.plan_check.specs.declared.fault.PlanFault.{PlanFault}
use Rattle.plan_check.specs.declared.fault.PlanFault.TheVariants as check
use Rattle.plan_reader.specs.declared.fault.PlanReadFault.{PlanReadFault}
use Rattle.plan_reader.specs.declared.fault.PlanReadFault.TheVariants as reading
use Rattle.plan_reader.specs.declared.fault.TapFault.{TapFault}
use Rattle.plan_reader.specs.declared.fault.TapFault.TheVariants as taps
use Rattle.verilog_read.specs.declared.fault.ReadFault.{ReadFault}
use Rattle.verilog_read.specs.declared.fault.ReadFault.TheVariants as text
use Rattle.verilog_tree.specs.declared.fault.ModuleFault.{ModuleFault}
use Rattle.verilog_tree.specs.declared.fault.ModuleFault.TheVariants as module_
use Rattle.command_files.specs.declared.fault.FileFault.{FileFault}
use Rattle.command_files.specs.declared.fault.FileFault.TheVariants as file
use Rattle.command_files.specs.declared.fault.WriteFault.{WriteFault}
use Rattle.command_files.specs.declared.fault.WriteFault.TheVariants as written
use Rattle.command_files.specs.declared.fault.RowsFault.{RowsFault}
use Rattle.command_files.specs.declared.fault.RowsFault.TheVariants as rows
use Rattle.command_files.specs.Conversions.{fault_of_file, fault_of_writing, fault_of_rows, fault_of_reading, fault_of_taps, fault_of_check, fault_of_text, IsPlain}

pub plain_file : (why : FileFault) → IsPlain (fault_of_file why)
plain_file (file.HostFault call) = tt
plain_file (file.FileTooLong kind) = tt
plain_file file.Memory = tt

pub plain_writing : (why : WriteFault) → IsPlain (fault_of_writing why)
plain_writing (written.HostFault call) = tt
plain_writing written.Memory = tt

pub plain_rows : (why : RowsFault) → IsPlain (fault_of_rows why)
plain_rows (rows.HostFault call) = tt
plain_rows (rows.Line fault) = tt
plain_rows rows.Memory = tt

pub plain_reading : (why : PlanReadFault) → IsPlain (fault_of_reading why)
plain_reading reading.NotToml = λ (e : reading.NotToml ≡ reading.Memory). absurd (cc)
plain_reading (reading.Field element field why) = λ (e : reading.Field element field why ≡ reading.Memory). absurd (cc)
plain_reading (reading.Version found) = λ (e : reading.Version found ≡ reading.Memory). absurd (cc)
plain_reading reading.Memory = tt

pub plain_check : (why : PlanFault) → IsPlain (fault_of_check why)
plain_check (check.Limit element which value) = λ (e : check.Limit element which value ≡ check.Memory). absurd (cc)
plain_check (check.RateNotWhole element) = λ (e : check.RateNotWhole element ≡ check.Memory). absurd (cc)
plain_check (check.TooWide element) = λ (e : check.TooWide element ≡ check.Memory). absurd (cc)
plain_check (check.BoundTooWide element) = λ (e : check.BoundTooWide element ≡ check.Memory). absurd (cc)
plain_check (check.FormNotFit element) = λ (e : check.FormNotFit element ≡ check.Memory). absurd (cc)
plain_check (check.Cost element which value) = λ (e : check.Cost element which value ≡ check.Memory). absurd (cc)
plain_check (check.PeriodOver element period) = λ (e : check.PeriodOver element period ≡ check.Memory). absurd (cc)
plain_check check.Memory = tt

pub plain_taps : (element : ℕ) (why : TapFault) → IsPlain (fault_of_taps element why)
plain_taps element (taps.Bad row why) = tt
plain_taps element taps.Memory = tt

plain_module : (why : ModuleFault) → IsPlain (fault_of_text (text.Module why))
plain_module (module_.Redeclared name) = λ (e : module_.Redeclared name ≡ module_.Memory). absurd (cc)
plain_module (module_.Undeclared name) = λ (e : module_.Undeclared name ≡ module_.Memory). absurd (cc)
plain_module (module_.PortShape name) = λ (e : module_.PortShape name ≡ module_.Memory). absurd (cc)
plain_module (module_.WrongKind name) = λ (e : module_.WrongKind name ≡ module_.Memory). absurd (cc)
plain_module (module_.WidthOver name) = λ (e : module_.WidthOver name ≡ module_.Memory). absurd (cc)
plain_module (module_.BadSelect name) = λ (e : module_.BadSelect name ≡ module_.Memory). absurd (cc)
plain_module (module_.ManyDrivers name) = λ (e : module_.ManyDrivers name ≡ module_.Memory). absurd (cc)
plain_module (module_.NoDriver name) = λ (e : module_.NoDriver name ≡ module_.Memory). absurd (cc)
plain_module (module_.CombLoop name) = λ (e : module_.CombLoop name ≡ module_.Memory). absurd (cc)
plain_module module_.Memory = tt

pub plain_text : (why : ReadFault) → IsPlain (fault_of_text why)
plain_text (text.Lexical place) = tt
plain_text (text.Syntax place) = tt
plain_text (text.OutsideSubset place) = tt
plain_text (text.TooDeep place) = tt
plain_text (text.Module why) = plain_module why
plain_text text.Memory = tt
