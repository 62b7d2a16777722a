-- What `sim` writes, and what its answers mean.
use Rattle.std.specs.Prelude.{◌≡◌, ◌⊎◌, ℕ, List, [], map, Option, Some, None, Result, Ok, Err}
use Rattle.std.specs.FinMap.{get, insert}
use Rattle.mr_values.specs.Files.{Files}
use Rattle.mr_values.specs.Host.{HostState, left_of}
use Rattle.mr_values.specs.declared.host.HostCall.{HostCall}
use Rattle.mr_values.specs.declared.host.HostCall.TheVariants.{OpenInput, Next, OpenOutput, Put}
use Rattle.verilog_tree.specs.Shown.{Event, Shows}
use Rattle.verilog_tree.specs.Tree.{Design}
use Rattle.sample_file.specs.declared.fault.LineFault.{LineFault}
use Rattle.sample_file.specs.declared.ranges.Stimulus.{Stimulus}
use Rattle.sample_file.specs.Ranges.{Checked}
use Rattle.sample_file.specs.Reading.{file_rows}
use Rattle.sim_stream.specs.Given.{cycle_at, cycles_for, printed_events}
use Rattle.command_files.specs.declared.fault.CommandFault.{CommandFault}
use Rattle.command_files.specs.declared.fault.CommandFault.TheVariants.{HostFault, Memory, Line}
use Rattle.command_files.specs.Ends.{IsReadToEnd}
use Rattle.command_files.specs.RowFiles.{IsThere}
use Rattle.command_files.specs.TextFile.{IsTextFile, IsRefusedText}
use Rattle.command_files.specs.WholeFiles.{IsEmptied, HoldsFront}

-- STIMULUS is there, and these are its cycles up to the first line that is refused, with the fault of that line
pub record SaysCycles (name : List ℕ) (files : Files) (design : Design) (cycles : Checked Stimulus) : Type 0 where
  pub bytes : List ℕ
  pub there : get files name ≡ Some bytes
  pub says : cycles ≡ cycles_for design (file_rows 3 bytes)

-- from registers of 0, over these cycles, the module shows what is printed here
pub record IsShown (design : Design) (cycles : List Stimulus) (text : List ℕ) : Type 0 where
  pub events : List Event
  pub shows : Shows design (λ name. 0) (map cycle_at cycles) events
  pub printed : text ≡ printed_events events

-- what OUT is to hold: the lines of what TEXT's module shows over the cycles of STIMULUS, up to the line that is refused, if any
pub record IsSimOutput (text stimulus : List ℕ) (files : Files) (out : List ℕ) (last : Option LineFault) : Type 0 where
  pub design : Design
  pub read : IsTextFile text files design
  pub cycles : Checked Stimulus
  pub said : SaysCycles stimulus files design cycles
  pub refused : last ≡ cycles.fault
  pub shown : IsShown design cycles.items out

-- OUT holds exactly that, and no other file has changed
pub record HoldsShown (text stimulus out : List ℕ) (last : Option LineFault) (old new : Files) : Type 0 where
  pub bytes : List ℕ
  pub output : IsSimOutput text stimulus old bytes last
  pub written : new ≡ insert old out bytes

-- OUT holds that from its beginning, and no other file has changed
pub record HoldsShownFront (text stimulus out : List ℕ) (old new : Files) : Type 0 where
  pub bytes : List ℕ
  pub last : Option LineFault
  pub output : IsSimOutput text stimulus old bytes last
  pub written : HoldsFront out bytes old new

-- The command was done: TEXT reads as one module that passes the checks, each row of STIMULUS is a cycle of it, both were read to their
-- ends, and OUT holds the lines of what the module shows over these cycles from registers of 0.
pub record IsSimulated (text stimulus out : List ℕ) (old new : HostState) : Type 0 where
  pub holds : HoldsShown text stimulus out None old.files new.files
  pub text_ended : IsReadToEnd text old new
  pub ended : IsReadToEnd stimulus old new
  pub input : new.input ≡ stimulus
  pub end : left_of new ≡ []

-- TEXT reads as a module that passes the checks
abbrev pub IsReadText : List ℕ → Files → Type 0
IsReadText text files = (design : Design) × IsTextFile text files design

-- what the files hold after the host call that failed
abbrev pub IsSimStoppedAt : HostCall → List ℕ → List ℕ → List ℕ → Files → Files → Type 0
IsSimStoppedAt OpenInput text stimulus out old new = new ≡ old
IsSimStoppedAt OpenOutput text stimulus out old new = IsReadText text old × IsThere stimulus old × IsEmptied out old new
IsSimStoppedAt Next text stimulus out old new = (new ≡ old) ⊎ HoldsShownFront text stimulus out old new
IsSimStoppedAt Put text stimulus out old new = HoldsShownFront text stimulus out old new

-- each answer of `sim`, and the host after it
abbrev pub SimEnds : List ℕ → List ℕ → List ℕ → Result (Unit {0}) CommandFault → HostState → HostState → Type 0
SimEnds text stimulus out (Ok done) old new = IsSimulated text stimulus out old new
SimEnds text stimulus out (Err (Line fault)) old new = HoldsShown text stimulus out (Some fault) old.files new.files
SimEnds text stimulus out (Err (HostFault call)) old new = IsSimStoppedAt call text stimulus out old.files new.files
SimEnds text stimulus out (Err Memory) old new = (new.files ≡ old.files) ⊎ HoldsShownFront text stimulus out old.files new.files
SimEnds text stimulus out (Err why) old new = IsRefusedText text old.files why × (new.files ≡ old.files)

-- ---- what it reads

-- TEXT, or STIMULUS once TEXT reads as a module that passes the checks
abbrev pub IsTextOrStimulus : List ℕ → List ℕ → Files → List ℕ → Type 0
IsTextOrStimulus text stimulus files name = (name ≡ text) ⊎ (IsReadText text files × (name ≡ stimulus))

-- TEXT reads as a module that passes the checks, and each row of STIMULUS is a cycle of it
pub record AreSimFiles (text stimulus : List ℕ) (files : Files) : Type 0 where
  pub design : Design
  pub read : IsTextFile text files design
  pub cycles : Checked Stimulus
  pub said : SaysCycles stimulus files design cycles
  pub accepted : cycles.fault ≡ None
