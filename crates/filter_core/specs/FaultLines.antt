-- The line that a fault is printed as: its variant's name, and for each field a space, its name, `=` and its value.
-- A fault that holds another is printed as the one that it holds.
use Rattle.std.specs.Prelude.{ℕ, List, ◌++◌, codes, decimal}
use Rattle.mr_values.specs.CallNames.{call_text}
use Rattle.plan_check.specs.FaultLines.{plan_fault_text}
use Rattle.plan_reader.specs.FaultLines.{plan_read_fault_text, tap_why_text}
use Rattle.sample_file.specs.FaultLines.{line_fault_text}
use Rattle.verilog_read.specs.FaultLines.{read_fault_text}
use Rattle.verilog_tree.specs.FaultLines.{module_fault_text}
use Rattle.command_files.specs.KindNames.{kind_text}
use Rattle.filter_core.specs.declared.fault.Fault.{Fault}
use Rattle.filter_core.specs.declared.fault.Fault.TheVariants.{Usage, HostFault, Memory, FileTooLong, PlanRead, Tap, Plan, Line, Read, Module, NoSuchRegister, NotOneCic, DropCount, DropTooDeep, PruneTooWide, NotShareable, ChannelLimit, ShareCost, SharePeriod, NotBuilt}

abbrev pub fault_text : Fault → List ℕ
fault_text Usage = codes "Usage"
fault_text (HostFault call) = codes "HostFault call=" ++ call_text call
fault_text Memory = codes "Memory"
fault_text (FileTooLong kind) = codes "FileTooLong file=" ++ kind_text kind
fault_text (PlanRead fault) = plan_read_fault_text fault
fault_text (Tap element row why) = codes "Tap element=" ++ decimal element ++ codes " row=" ++ decimal row ++ codes " why=" ++ tap_why_text why
fault_text (Plan fault) = plan_fault_text fault
fault_text (Line fault) = line_fault_text fault
fault_text (Read fault) = read_fault_text fault
fault_text (Module fault) = module_fault_text fault
fault_text (NoSuchRegister name) = codes "NoSuchRegister name=" ++ name
fault_text NotOneCic = codes "NotOneCic"
fault_text (DropCount found) = codes "DropCount found=" ++ decimal found
fault_text (DropTooDeep total) = codes "DropTooDeep total=" ++ decimal total
fault_text PruneTooWide = codes "PruneTooWide"
fault_text (NotShareable element) = codes "NotShareable element=" ++ decimal element
fault_text (ChannelLimit value) = codes "ChannelLimit value=" ++ decimal value
fault_text (ShareCost value) = codes "ShareCost value=" ++ decimal value
fault_text (SharePeriod period) = codes "SharePeriod period=" ++ decimal period
fault_text NotBuilt = codes "NotBuilt"

-- the whole line on standard error
abbrev pub fault_line : Fault → List ℕ
fault_line fault = codes "fault: " ++ fault_text fault
