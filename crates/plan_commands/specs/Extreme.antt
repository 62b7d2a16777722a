-- What `extreme` writes, and what its answers mean.
use Rattle.std.specs.Prelude.{◌≡◌, ℕ, List, Result, Ok, Err}
use Rattle.std.specs.FinMap.{insert}
use Rattle.mr_values.specs.Files.{Files}
use Rattle.mr_values.specs.Host.{HostState}
use Rattle.mr_values.specs.Value.{size}
use Rattle.chain_build.specs.Linear.{linear}
use Rattle.chain_build.specs.Told.{HasNoRegister}
use Rattle.filter_text.specs.Extremes.{IsWideIn}
use Rattle.register_extremes.specs.Text.{IsExtremeText}
use Rattle.command_files.specs.declared.fault.CommandFault.{CommandFault}
use Rattle.command_files.specs.declared.fault.CommandFault.TheVariants.{HostFault, Memory, NotBuilt, NoSuchRegister}
use Rattle.plan_commands.specs.Compile.{IsBuiltFile, IsUnbuiltFile}
use Rattle.command_files.specs.OutFile.{IsHaltedAt, IsEnded}
use Rattle.command_files.specs.PlanFile.{IsRefusedPlan, AreReadToEnd}

-- What OUT is to hold: PLAN is accepted and built, and the text names a tick and a value to which its samples drive this linear register
-- of the plan, in every module that has the plan's linear registers; one bit less doesn't hold the value.
pub record IsExtremeFile (plan register : List ℕ) (files : Files) (text : List ℕ) : Type 0 where
  pub built : IsBuiltFile plan files
  pub extreme : IsExtremeText (size built.plan.width) (size built.plan.ticks) built.plan.elements register text

-- PLAN is accepted and built, and has no linear register of this name for which one bit is too few
pub record LacksRegister (plan register : List ℕ) (files : Files) : Type 0 where
  pub built : IsBuiltFile plan files
  pub none : HasNoRegister (size built.plan.width) (size built.plan.ticks) built.plan.elements register

-- the command was done: PLAN and its tap files were read to their end, OUT has such a text, and no other file has changed
pub record IsExtremeTold (plan register out : List ℕ) (old new : HostState) : Type 0 where
  pub text : List ℕ
  pub output : IsExtremeFile plan register old.files text
  pub ended : AreReadToEnd plan output.built.accepted.says.text old new
  pub written : new.files ≡ insert old.files out text

-- each answer of `extreme`, and the host after it
abbrev pub ExtremeEnds : List ℕ → List ℕ → List ℕ → Result (Unit {0}) CommandFault → HostState → HostState → Type 0
ExtremeEnds plan register out (Ok unit) old new = IsExtremeTold plan register out old new
ExtremeEnds plan register out (Err NotBuilt) old new = IsUnbuiltFile plan old.files × (new.files ≡ old.files)
ExtremeEnds plan register out (Err (NoSuchRegister name)) old new = (name ≡ register) × LacksRegister plan register old.files × (new.files ≡ old.files)
ExtremeEnds plan register out (Err (HostFault call)) old new = IsHaltedAt call (IsExtremeFile plan register old.files) out old.files new.files
ExtremeEnds plan register out (Err Memory) old new = IsEnded (IsExtremeFile plan register old.files) out old.files new.files
ExtremeEnds plan register out (Err why) old new = IsRefusedPlan plan old.files why × (new.files ≡ old.files)

-- PLAN is accepted and built, and has a linear register of this name for which one bit is too few
pub record IsExtremeReady (plan register : List ℕ) (files : Files) : Type 0 where
  pub built : IsBuiltFile plan files
  pub wide : IsWideIn (linear (size built.plan.width) (size built.plan.ticks) built.plan.elements) register
