-- What `order` writes, and what its answers mean.
use Rattle.std.specs.Prelude.{◌≡◌, ◌⊎◌, ℕ, List, [], map, Option, Some, None, Result, Ok, Err}
use Rattle.std.specs.FinMap.{insert}
use Rattle.mr_values.specs.Files.{Files}
use Rattle.mr_values.specs.Host.{HostState, left_of}
use Rattle.mr_values.specs.declared.host.HostCall.{HostCall}
use Rattle.mr_values.specs.declared.host.HostCall.TheVariants.{OpenInput, Next, OpenOutput, Put}
use Rattle.verilog_tree.specs.Meaning.{Values}
use Rattle.verilog_tree.specs.Names.{shapes_of}
use Rattle.verilog_tree.specs.Cycle.{circuit_of}
use Rattle.verilog_tree.specs.Shown.{RunsOver, ports_of, events_of}
use Rattle.verilog_tree.specs.Tree.{Design}
use Rattle.sample_file.specs.declared.fault.LineFault.{LineFault}
use Rattle.sample_file.specs.declared.ranges.Stimulus.{Stimulus}
use Rattle.sample_file.specs.Ranges.{Checked}
use Rattle.sim_stream.specs.Given.{cycle_at}
use Rattle.event_order.specs.Laws.{inputs_over, IsRegister, AreCyclesOf}
use Rattle.event_order.specs.Order.{AreOrders, first_moment}
use Rattle.order_stream.specs.Ordered.{Ordered, ordered_events, printed_orders}
use Rattle.command_files.specs.declared.fault.CommandFault.{CommandFault}
use Rattle.command_files.specs.declared.fault.CommandFault.TheVariants.{HostFault, Memory, Line}
use Rattle.command_files.specs.TextFile.{IsTextFile, IsRefusedText}
use Rattle.command_files.specs.Ends.{IsReadToEnd}
use Rattle.command_files.specs.RowFiles.{IsThere}
use Rattle.text_commands.specs.Sim.{SaysCycles, IsReadText}
use Rattle.command_files.specs.WholeFiles.{IsEmptied, HoldsFront}

-- From registers of 0, over these cycles, the module shows what is printed here, each value with the assignment that the steps drawn from the number
-- evaluate last in its cycle. Every order of these cycles, from registers of 0, any wires and any earlier inputs, shows the same values at the same ticks,
-- and in each cycle its outputs are read from the settled wires and its registers end as the next ones.
pub record IsShownDrawn (design : Design) (number : ℕ) (cycles : List Stimulus) (text : List ℕ) : Type 0 where
  pub settled : List Values
  pub run : RunsOver design (λ name. 0) (map cycle_at cycles) settled
  pub printed : text ≡ printed_orders (ordered_events design (map cycle_at cycles) settled 0 0 number)
  pub every : (begun : Values) (reads ends : List Values) → ((name : ℕ) → IsRegister design name → begun name ≡ 0)
      → AreOrders (circuit_of design) (inputs_over design (map cycle_at cycles)) (first_moment begun) reads ends
      → (events_of (shapes_of design) (ports_of design) (map cycle_at cycles) reads 0 0 ≡ map (λ (o : Ordered). o.event) (ordered_events design (map cycle_at cycles) settled 0 0 number))
      × AreCyclesOf design settled reads ends

-- what OUT is to hold: the lines of what TEXT's module shows over the cycles of STIMULUS, up to the line that is refused, if any
pub record IsOrderOutput (text stimulus : List ℕ) (number : ℕ) (files : Files) (out : List ℕ) (last : Option LineFault) : Type 0 where
  pub design : Design
  pub read : IsTextFile text files design
  pub cycles : Checked Stimulus
  pub said : SaysCycles stimulus files design cycles
  pub refused : last ≡ cycles.fault
  pub shown : IsShownDrawn design number cycles.items out

-- OUT holds exactly that, and no other file has changed
pub record HoldsDrawn (text stimulus out : List ℕ) (number : ℕ) (last : Option LineFault) (old new : Files) : Type 0 where
  pub bytes : List ℕ
  pub output : IsOrderOutput text stimulus number old bytes last
  pub written : new ≡ insert old out bytes

-- OUT holds that from its beginning, and no other file has changed
pub record HoldsDrawnFront (text stimulus out : List ℕ) (number : ℕ) (old new : Files) : Type 0 where
  pub bytes : List ℕ
  pub last : Option LineFault
  pub output : IsOrderOutput text stimulus number old bytes last
  pub written : HoldsFront out bytes old new

-- The command was done: TEXT reads as one module that passes the checks, each row of STIMULUS is a cycle of it, both were read to their
-- ends, and OUT holds the lines of what the module shows over these cycles from registers of 0, by the steps drawn from the number.
pub record IsOrdered (text stimulus out : List ℕ) (number : ℕ) (old new : HostState) : Type 0 where
  pub holds : HoldsDrawn text stimulus out number None old.files new.files
  pub text_ended : IsReadToEnd text old new
  pub ended : IsReadToEnd stimulus old new
  pub input : new.input ≡ stimulus
  pub end : left_of new ≡ []

-- what the files hold after the host call that failed
abbrev pub IsOrderStoppedAt : HostCall → List ℕ → List ℕ → List ℕ → ℕ → Files → Files → Type 0
IsOrderStoppedAt OpenInput text stimulus out number old new = new ≡ old
IsOrderStoppedAt OpenOutput text stimulus out number old new = IsReadText text old × IsThere stimulus old × IsEmptied out old new
IsOrderStoppedAt Next text stimulus out number old new = (new ≡ old) ⊎ HoldsDrawnFront text stimulus out number old new
IsOrderStoppedAt Put text stimulus out number old new = HoldsDrawnFront text stimulus out number old new

-- each answer of `order`, and the host after it
abbrev pub OrderEnds : List ℕ → List ℕ → List ℕ → ℕ → Result (Unit {0}) CommandFault → HostState → HostState → Type 0
OrderEnds text stimulus out number (Ok done) old new = IsOrdered text stimulus out number old new
OrderEnds text stimulus out number (Err (Line fault)) old new = HoldsDrawn text stimulus out number (Some fault) old.files new.files
OrderEnds text stimulus out number (Err (HostFault call)) old new = IsOrderStoppedAt call text stimulus out number old.files new.files
OrderEnds text stimulus out number (Err Memory) old new = (new.files ≡ old.files) ⊎ HoldsDrawnFront text stimulus out number old.files new.files
OrderEnds text stimulus out number (Err why) old new = IsRefusedText text old.files why × (new.files ≡ old.files)
