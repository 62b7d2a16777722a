-- What the program answers for what a command answers.
use Rattle.std.specs.Prelude.{◌≡◌, ◌≢◌, Option, Some, None, Result, Ok, Err}
use Rattle.mr_values.specs.declared.host.HostCall.{HostCall}
use Rattle.plan_check.specs.declared.fault.PlanFault.TheVariants as check
use Rattle.plan_reader.specs.declared.fault.PlanReadFault.TheVariants as reading
use Rattle.verilog_tree.specs.declared.fault.ModuleFault.TheVariants as module_
use Rattle.command_files.specs.Conversions.{IsPlaceFault}
use Rattle.command_files.specs.declared.fault.CommandFault.{CommandFault}
use Rattle.command_files.specs.declared.fault.CommandFault.TheVariants as command
use Rattle.filter_core.specs.declared.fault.Fault.{Fault}
use Rattle.filter_core.specs.declared.fault.Fault.TheVariants.{HostFault, Memory, FileTooLong, PlanRead, Tap, Plan, Line, Read, Module, NoSuchRegister, NotBuilt}

abbrev pub fault_of : CommandFault → Fault
fault_of (command.HostFault call) = HostFault call
fault_of command.Memory = Memory
fault_of (command.FileTooLong file) = FileTooLong file
fault_of (command.PlanRead fault) = PlanRead fault
fault_of (command.Tap element row why) = Tap element row why
fault_of (command.Plan fault) = Plan fault
fault_of (command.Line fault) = Line fault
fault_of (command.Read fault) = Read fault
fault_of (command.Module fault) = Module fault
fault_of (command.NoSuchRegister name) = NoSuchRegister name
fault_of command.NotBuilt = NotBuilt

abbrev pub answer_of : Result (Unit {0}) CommandFault → Option Fault
answer_of (Ok done) = None
answer_of (Err why) = Some (fault_of why)

-- a command answered so, and it ends so
pub record Answers (Ends : Result (Unit {0}) CommandFault → Type 0) (fault : Option Fault) : Type 0 where
  pub result : Result (Unit {0}) CommandFault
  pub answered : fault ≡ answer_of result
  pub ends : Ends result

-- the host call that an answer blames
abbrev pub blamed : Option Fault → Option HostCall
blamed (Some (HostFault call)) = Some call
blamed _ = None

-- the fault holds no want of memory of a part, and no check in a fault of the grammar
abbrev pub IsPlainFault : Fault → Type 0
IsPlainFault (PlanRead why) = why ≢ reading.Memory
IsPlainFault (Plan why) = why ≢ check.Memory
IsPlainFault (Read why) = IsPlaceFault why
IsPlainFault (Module why) = why ≢ module_.Memory
IsPlainFault fault = Unit {0}
