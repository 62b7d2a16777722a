-- The number that the program ends with: 0 where its command was done, and one for each kind of fault.
use Rattle.std.specs.Prelude.{ℕ, Option, Some, None}
use Rattle.plan_check.specs.declared.fault.PlanFault.{PlanFault}
use Rattle.plan_check.specs.declared.fault.PlanFault.TheVariants as plan
use Rattle.plan_reader.specs.declared.fault.PlanReadFault.{PlanReadFault}
use Rattle.plan_reader.specs.declared.fault.PlanReadFault.TheVariants as reading
use Rattle.sample_file.specs.declared.fault.LineFault.{LineFault}
use Rattle.sample_file.specs.declared.fault.LineFault.TheVariants as line
use Rattle.verilog_read.specs.declared.fault.ReadFault.{ReadFault}
use Rattle.verilog_read.specs.declared.fault.ReadFault.TheVariants as read
use Rattle.verilog_tree.specs.declared.fault.ModuleFault.{ModuleFault}
use Rattle.verilog_tree.specs.declared.fault.ModuleFault.TheVariants as check
use Rattle.filter_core.specs.declared.fault.Fault.{Fault}
use Rattle.filter_core.specs.declared.fault.Fault.TheVariants.{Usage, HostFault, Memory, FileTooLong, PlanRead, Tap, Plan, Line, Read, Module, NoSuchRegister, NotOneCic, DropCount, DropTooDeep, PruneTooWide, NotShareable, ChannelLimit, ShareCost, SharePeriod, NotBuilt}

abbrev pub plan_read_status : PlanReadFault → ℕ
plan_read_status reading.NotToml = 11
plan_read_status (reading.Field element field why) = 12
plan_read_status (reading.Version found) = 13
plan_read_status reading.Memory = 4

abbrev pub plan_status : PlanFault → ℕ
plan_status (plan.Limit element which value) = 20
plan_status (plan.RateNotWhole element) = 21
plan_status (plan.TooWide element) = 22
plan_status (plan.BoundTooWide element) = 23
plan_status (plan.FormNotFit element) = 24
plan_status (plan.Cost element which value) = 25
plan_status (plan.PeriodOver element period) = 26
plan_status plan.Memory = 4

abbrev pub line_status : LineFault → ℕ
line_status (line.NotNumber number) = 30
line_status (line.OutOfRange number) = 31
line_status (line.Fields number count) = 32
line_status (line.LongLine number) = 33
line_status line.TooManyLines = 34

abbrev pub module_status : ModuleFault → ℕ
module_status (check.Redeclared name) = 50
module_status (check.Undeclared name) = 51
module_status (check.PortShape name) = 52
module_status (check.WrongKind name) = 53
module_status (check.WidthOver name) = 54
module_status (check.BadSelect name) = 55
module_status (check.ManyDrivers name) = 56
module_status (check.NoDriver name) = 57
module_status (check.CombLoop name) = 58
module_status check.Memory = 4

abbrev pub read_status : ReadFault → ℕ
read_status (read.Lexical place) = 40
read_status (read.Syntax place) = 41
read_status (read.OutsideSubset place) = 42
read_status (read.TooDeep place) = 43
read_status (read.Module fault) = module_status fault
read_status read.Memory = 4

abbrev pub fault_status : Fault → ℕ
fault_status Usage = 2
fault_status (HostFault call) = 3
fault_status Memory = 4
fault_status (FileTooLong kind) = 10
fault_status (PlanRead fault) = plan_read_status fault
fault_status (Tap element row why) = 14
fault_status (Plan fault) = plan_status fault
fault_status (Line fault) = line_status fault
fault_status (Read fault) = read_status fault
fault_status (Module fault) = module_status fault
fault_status (NoSuchRegister name) = 60
fault_status NotOneCic = 61
fault_status (DropCount found) = 62
fault_status (DropTooDeep total) = 63
fault_status PruneTooWide = 64
fault_status (NotShareable element) = 65
fault_status (ChannelLimit value) = 66
fault_status (ShareCost value) = 67
fault_status (SharePeriod period) = 68
fault_status NotBuilt = 70

abbrev pub status_of : Option Fault → ℕ
status_of None = 0
status_of (Some fault) = fault_status fault
