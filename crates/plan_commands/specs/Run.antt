-- What `run` writes, and what its answers mean.
use Rattle.std.specs.Prelude.{◌≡◌, ◌⊎◌, ℕ, List, [], Option, Some, None, Result, Ok, Err}
use Rattle.std.specs.FinMap.{get, insert}
use Rattle.mr_values.specs.Files.{Files}
use Rattle.mr_values.specs.Host.{HostState, left_of}
use Rattle.mr_values.specs.Timing.{latency, last_stream}
use Rattle.mr_values.specs.Value.{size}
use Rattle.mr_values.specs.declared.host.HostCall.TheVariants.{OpenInput, Next, OpenOutput, Put}
use Rattle.mr_values.specs.declared.plan.Plan.{Plan}
use Rattle.sample_file.specs.declared.fault.LineFault.{LineFault}
use Rattle.chain_run.specs.declared.timing.ChainTiming.{ChainTiming}
use Rattle.chain_run.specs.Outputs.{IsRunText, file_samples}
use Rattle.command_files.specs.declared.fault.CommandFault.{CommandFault}
use Rattle.command_files.specs.declared.fault.CommandFault.TheVariants.{HostFault, Memory, NotBuilt, Line}
use Rattle.plan_commands.specs.Compile.{IsBuiltFile, IsUnbuiltFile}
use Rattle.command_files.specs.Ends.{IsReadToEnd}
use Rattle.command_files.specs.PlanFile.{IsRefusedPlan, IsOfPlan, AreEnded}
use Rattle.command_files.specs.RowFiles.{IsThere}
use Rattle.command_files.specs.WholeFiles.{IsEmptied, HoldsFront}

-- at which ticks the samples and the values of a plan stand
abbrev pub plan_timing : Plan → ChainTiming
plan_timing plan = record {
  width = size plan.width;
  ticks = size plan.ticks;
  latency = latency (size plan.width) (size plan.ticks) plan.elements;
  period = (last_stream (size plan.width) (size plan.ticks) plan.elements).period;
}

-- What OUT is to hold: PLAN is accepted and built, and the text has the values of its chain that belong to the samples of SAMPLES, one on
-- each line. `last` is the fault of the line of SAMPLES that is refused, where one is: then they are the values whose ticks lie before
-- the end of the samples that stand before it.
pub record IsRunOf (plan samples : List ℕ) (files : Files) (text : List ℕ) (last : Option LineFault) : Type 0 where
  pub built : IsBuiltFile plan files
  pub bytes : List ℕ
  pub there : get files samples ≡ Some bytes
  pub values : IsRunText built.plan.elements (plan_timing built.plan) bytes text last

-- OUT holds the whole text, and no other file has changed
pub record HoldsRun (plan samples out : List ℕ) (last : Option LineFault) (old new : Files) : Type 0 where
  pub text : List ℕ
  pub is_run : IsRunOf plan samples old text last
  pub written : new ≡ insert old out text

-- OUT holds the text from its beginning, and no other file has changed
pub record HoldsRunFront (plan samples out : List ℕ) (old new : Files) : Type 0 where
  pub text : List ℕ
  pub last : Option LineFault
  pub is_run : IsRunOf plan samples old text last
  pub written : HoldsFront out text old new

-- the command was done: PLAN, its tap files and SAMPLES were read to their ends, and no line of SAMPLES is refused
pub record IsRun (plan samples out : List ℕ) (old new : HostState) : Type 0 where
  pub holds : HoldsRun plan samples out None old.files new.files
  pub plan_ended : AreEnded plan holds.is_run.built.accepted.says.text old new
  pub ended : IsReadToEnd samples old new
  pub read : new.input ≡ samples
  pub end : left_of new ≡ []

-- each answer of `run`, and the host after it
abbrev pub RunEnds : List ℕ → List ℕ → List ℕ → Result (Unit {0}) CommandFault → HostState → HostState → Type 0
RunEnds plan samples out (Ok done) old new = IsRun plan samples out old new
RunEnds plan samples out (Err NotBuilt) old new = IsUnbuiltFile plan old.files × (new.files ≡ old.files)
RunEnds plan samples out (Err (Line fault)) old new = HoldsRun plan samples out (Some fault) old.files new.files
RunEnds plan samples out (Err (HostFault OpenInput)) old new = new.files ≡ old.files
RunEnds plan samples out (Err (HostFault Next)) old new = (new.files ≡ old.files) ⊎ HoldsRunFront plan samples out old.files new.files
RunEnds plan samples out (Err (HostFault OpenOutput)) old new = IsBuiltFile plan old.files × IsThere samples old.files × IsEmptied out old.files new.files
RunEnds plan samples out (Err (HostFault Put)) old new = HoldsRunFront plan samples out old.files new.files
RunEnds plan samples out (Err Memory) old new = (new.files ≡ old.files) ⊎ HoldsRunFront plan samples out old.files new.files
RunEnds plan samples out (Err why) old new = IsRefusedPlan plan old.files why × (new.files ≡ old.files)

-- a file that `run` reads: PLAN, a tap file that it names, or SAMPLES, once PLAN is accepted and built
abbrev pub IsReadForRun : List ℕ → List ℕ → Files → List ℕ → Type 0
IsReadForRun plan samples files name = IsOfPlan plan files name ⊎ (IsBuiltFile plan files × (name ≡ samples))

-- PLAN is accepted and built, SAMPLES is there, and none of its lines is refused
pub record IsRunReady (plan samples : List ℕ) (files : Files) : Type 0 where
  pub built : IsBuiltFile plan files
  pub bytes : List ℕ
  pub there : get files samples ≡ Some bytes
  pub accepted : (file_samples (size built.plan.width) bytes).fault ≡ None
