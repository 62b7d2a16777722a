-- What `migrate` writes, and what its answers mean.
use Rattle.std.specs.Prelude.{◌≡◌, ℕ, List, [], Result, Ok, Err}
use Rattle.std.specs.FinMap.{insert}
use Rattle.mr_values.specs.Files.{Files}
use Rattle.mr_values.specs.Host.{HostState}
use Rattle.mr_values.specs.declared.plan.Plan.{Plan}
use Rattle.plan_reader.specs.Documents.{Says}
use Rattle.command_files.specs.declared.fault.CommandFault.{CommandFault}
use Rattle.command_files.specs.declared.fault.CommandFault.TheVariants.{HostFault, Memory}
use Rattle.command_files.specs.PlanFile.{IsAcceptedFile, IsRefusedPlan, AreReadToEnd}
use Rattle.command_files.specs.OutFile.{IsHaltedAt, IsEnded}

-- the bytes are a plan file of version 2 of this plan, with its taps in it
abbrev pub IsSecond : Plan → List ℕ → Type 0
IsSecond plan bytes = Says bytes (Ok (record { version = 2; plan = plan; files = [] }))

-- what OUT is to hold: the plan of PLAN, its width, ticks and elements
pub record IsSecondOf (plan : List ℕ) (files : Files) (bytes : List ℕ) : Type 0 where
  pub meaning : Plan
  pub accepted : IsAcceptedFile plan files meaning
  pub second : IsSecond meaning bytes

-- the command was done: PLAN and its tap files were read to their end and are accepted, OUT says the same plan in version 2, and no other
-- file has changed
pub record IsMigrated (plan out : List ℕ) (old new : HostState) : Type 0 where
  pub bytes : List ℕ
  pub output : IsSecondOf plan old.files bytes
  pub ended : AreReadToEnd plan output.accepted.says.text old new
  pub written : new.files ≡ insert old.files out bytes

-- each answer of `migrate`, and the host after it
abbrev pub MigrateEnds : List ℕ → List ℕ → Result (Unit {0}) CommandFault → HostState → HostState → Type 0
MigrateEnds plan out (Ok unit) old new = IsMigrated plan out old new
MigrateEnds plan out (Err (HostFault call)) old new = IsHaltedAt call (IsSecondOf plan old.files) out old.files new.files
MigrateEnds plan out (Err Memory) old new = IsEnded (IsSecondOf plan old.files) out old.files new.files
MigrateEnds plan out (Err why) old new = IsRefusedPlan plan old.files why × (new.files ≡ old.files)
