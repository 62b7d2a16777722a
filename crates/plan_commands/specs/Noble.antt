-- What `noble` writes, and what its answers mean.
use Rattle.std.specs.Prelude.{◌≡◌, ℕ, List, [], Result, Ok, Err}
use Rattle.std.specs.FinMap.{insert}
use Rattle.mr_values.specs.Files.{Files}
use Rattle.mr_values.specs.Host.{HostState}
use Rattle.mr_values.specs.Sequence.{Sequence}
use Rattle.mr_values.specs.Value.{chain}
use Rattle.mr_values.specs.declared.plan.Plan.{Plan}
use Rattle.noble_rewrite.specs.declared.turn.Applied.{Applied}
use Rattle.noble_rewrite.specs.Turns.{IsSettled, LeadsTo}
use Rattle.plan_reader.specs.Documents.{Says}
use Rattle.command_files.specs.declared.fault.CommandFault.{CommandFault}
use Rattle.command_files.specs.declared.fault.CommandFault.TheVariants.{HostFault, Memory}
use Rattle.command_files.specs.PlanFile.{IsAcceptedFile, IsRefusedPlan, AreReadToEnd}
use Rattle.command_files.specs.OutFile.{IsHaltedAt, IsEnded}

-- The bytes are a plan file of this version of a rewritten plan: the width and the ticks are the same, the noble identities lead to its elements,
-- none applies to them, and they have the same value at every index of every sequence.
pub record IsRewriting (version : ℕ) (plan : Plan) (bytes : List ℕ) : Type 0 where
  pub rewritten : Plan
  pub says : Says bytes (Ok (record { version = version; plan = rewritten; files = [] }))
  pub width : rewritten.width ≡ plan.width
  pub ticks : rewritten.ticks ≡ plan.ticks
  pub turns : List Applied
  pub leads : LeadsTo plan.elements turns rewritten.elements
  pub ended : IsSettled rewritten.elements
  pub value : (x : Sequence) → chain rewritten.elements x ≡ chain plan.elements x

-- what OUT is to hold: a plan file of the version that PLAN has
pub record IsOutput (plan : List ℕ) (files : Files) (bytes : List ℕ) : Type 0 where
  pub meaning : Plan
  pub accepted : IsAcceptedFile plan files meaning
  pub rewriting : IsRewriting accepted.says.text.version meaning bytes

-- the command was done: PLAN and its tap files were read to their end and are accepted, OUT says the rewritten plan, and no other file has
-- changed
pub record IsRewritten (plan out : List ℕ) (old new : HostState) : Type 0 where
  pub bytes : List ℕ
  pub output : IsOutput plan old.files bytes
  pub ended : AreReadToEnd plan output.accepted.says.text old new
  pub written : new.files ≡ insert old.files out bytes

-- each answer of `noble`, and the host after it
abbrev pub NobleEnds : List ℕ → List ℕ → Result (Unit {0}) CommandFault → HostState → HostState → Type 0
NobleEnds plan out (Ok unit) old new = IsRewritten plan out old new
NobleEnds plan out (Err (HostFault call)) old new = IsHaltedAt call (IsOutput plan old.files) out old.files new.files
NobleEnds plan out (Err Memory) old new = IsEnded (IsOutput plan old.files) out old.files new.files
NobleEnds plan out (Err why) old new = IsRefusedPlan plan old.files why × (new.files ≡ old.files)
