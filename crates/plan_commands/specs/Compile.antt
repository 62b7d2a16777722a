-- What `compile` writes, and what its answers mean.
use Rattle.std.specs.Prelude.{◌≡◌, ◌⊎◌, ℕ, Option, Some, ◌≤◌, ◌^◌, ℤ, pos, ◌*ℤ◌, ◌-ℤ◌, unsigned_abs, List, [], true, false, Result, Ok, Err}
use Rattle.std.specs.FinMap.{insert}
use Rattle.mr_values.specs.Files.{Files}
use Rattle.mr_values.specs.Host.{HostState}
use Rattle.mr_values.specs.declared.host.HostCall.{HostCall}
use Rattle.mr_values.specs.declared.host.HostCall.TheVariants.{OpenInput, Next, OpenOutput, Put}
use Rattle.command_files.specs.declared.fault.CommandFault.{CommandFault}
use Rattle.command_files.specs.declared.fault.CommandFault.TheVariants.{HostFault, Memory, NotBuilt}
use Rattle.mr_values.specs.declared.plan.Plan.{Plan}
use Rattle.mr_values.specs.declared.plan.Element.{Element}
use Rattle.mr_values.specs.Timing.{groups}
use Rattle.mr_values.specs.Value.{size, val}
use Rattle.plan_check.specs.declared.facts.Facts.{Facts}
use Rattle.plan_check.specs.Accepted.{AreFacts}
use Rattle.chain_build.specs.Built.{are_built}
use Rattle.plan_laws.specs.Laws.{plain}
use Rattle.filter_text.specs.Extremes.{TellsExtremes}
use Rattle.filter_text.specs.Headline.{IsTextOf}
use Rattle.command_files.specs.PlanFile.{IsAcceptedFile, IsRefusedPlan, AreReadToEnd}
use Rattle.filter_report.specs.Report.{report_text}
use Rattle.command_files.specs.WholeFiles.{IsEmptied, HoldsFront, HoldsPart}

-- PLAN is accepted, and its elements are built
pub record IsBuiltFile (name : List ℕ) (files : Files) : Type 0 where
  pub plan : Plan
  pub accepted : IsAcceptedFile name files plan
  pub built : are_built plan.elements ≡ true

-- PLAN is accepted, and has an element that isn't built
pub record IsUnbuiltFile (name : List ℕ) (files : Files) : Type 0 where
  pub plan : Plan
  pub accepted : IsAcceptedFile name files plan
  pub other : are_built plan.elements ≡ false

-- where there is a bound, 2 ^ shift times a value of the chain is at most that far from the value of the chain without its roundings
abbrev pub IsBounded : List Element → Facts → Type 0
IsBounded elements facts =
    (bound : ℕ) → facts.bound ≡ Some bound → (xs : List ℤ) (n : ℤ) → unsigned_abs (pos (2 ^ facts.shift) *ℤ val elements xs n -ℤ val (plain elements) xs n) ≤ bound

-- What TEXT and REPORT are to hold: a text that reads as a module which shows the plan's chain, at its latency and period, and the
-- lines of the report, which tell these and the bound, the cost of each group in that module, and its registers: 2 ^ shift times a value
-- is at most the bound away from the value of the chain without its roundings. Of each linear register for which one bit is too few, and
-- of no other, the report tells a tick and a value to which some samples drive it then, and which needs all of its bits.
pub record AreOutputs (plan : List ℕ) (files : Files) (text report : List ℕ) : Type 0 where
  pub built : IsBuiltFile plan files
  pub facts : Facts
  pub are_facts : AreFacts (size built.plan.width) (size built.plan.ticks) built.plan.elements facts
  pub shows : IsTextOf built.plan.elements (size built.plan.width) (size built.plan.ticks) facts.latency facts.period text
  pub extremes : ℕ → Option (ℕ × ℤ)
  pub tells : TellsExtremes built.plan.elements (size built.plan.width) (size built.plan.ticks) shows.design extremes
  pub lines : report ≡ report_text facts (groups built.plan.elements) shows.design extremes
  pub bounded : IsBounded built.plan.elements facts

-- TEXT and REPORT hold these bytes, and no other file has changed
abbrev pub HoldsBoth : List ℕ → List ℕ → List ℕ → List ℕ → Files → Files → Type 0
HoldsBoth text report text_bytes report_bytes old new = new ≡ insert (insert old text text_bytes) report report_bytes

-- The command was done: PLAN and its tap files were read to their end and are accepted, TEXT reads as one module that shows, after any
-- reset, for all samples and clock enables, exactly the plan's chain at the reported latency and period and at no other tick, REPORT has
-- the lines of the report, and no other file has changed.
pub record IsCompiled (plan text report : List ℕ) (old new : HostState) : Type 0 where
  pub text_bytes : List ℕ
  pub report_bytes : List ℕ
  pub outputs : AreOutputs plan old.files text_bytes report_bytes
  pub ended : AreReadToEnd plan outputs.built.accepted.says.text old new
  pub written : HoldsBoth text report text_bytes report_bytes old.files new.files

-- what the files hold where TEXT was being written, or REPORT was and TEXT is whole
abbrev pub WhileWriting : (List ℕ → List ℕ → Files → Files → Type 0) → List ℕ → List ℕ → List ℕ → List ℕ → Files → Files → Type 0
WhileWriting Holds text report text_bytes report_bytes old new =
    Holds text text_bytes old new ⊎ Holds report report_bytes (insert old text text_bytes) new

-- the same for some outputs of the plan
abbrev pub IsCutShort : (List ℕ → List ℕ → Files → Files → Type 0) → List ℕ → List ℕ → List ℕ → Files → Files → Type 0
IsCutShort Holds plan text report old new =
    (text_bytes : List ℕ) × (report_bytes : List ℕ) × AreOutputs plan old text_bytes report_bytes × WhileWriting Holds text report text_bytes report_bytes old new

-- what the files hold after the host call that failed
abbrev pub IsStoppedAt : HostCall → List ℕ → List ℕ → List ℕ → Files → Files → Type 0
IsStoppedAt OpenInput plan text report old new = new ≡ old
IsStoppedAt Next plan text report old new = new ≡ old
IsStoppedAt OpenOutput plan text report old new = IsCutShort (λ name bytes. IsEmptied name) plan text report old new
IsStoppedAt Put plan text report old new = IsCutShort HoldsFront plan text report old new

-- memory ran out before the outputs were opened, or while they were written
abbrev pub IsCutOff : List ℕ → List ℕ → List ℕ → Files → Files → Type 0
IsCutOff plan text report old new = (new ≡ old) ⊎ IsCutShort HoldsPart plan text report old new

-- each answer of `compile`, and the host after it
abbrev pub CompileEnds : List ℕ → List ℕ → List ℕ → Result (Unit {0}) CommandFault → HostState → HostState → Type 0
CompileEnds plan text report (Ok done) old new = IsCompiled plan text report old new
CompileEnds plan text report (Err NotBuilt) old new = IsUnbuiltFile plan old.files × (new.files ≡ old.files)
CompileEnds plan text report (Err (HostFault call)) old new = IsStoppedAt call plan text report old.files new.files
CompileEnds plan text report (Err Memory) old new = IsCutOff plan text report old.files new.files
CompileEnds plan text report (Err why) old new = IsRefusedPlan plan old.files why × (new.files ≡ old.files)
