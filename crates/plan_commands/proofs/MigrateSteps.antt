-- Steps of `migrate`.
use Rattle.std.proofs.Common.{◌≡◌, ◌∙◌, ℕ, List, Result, Ok, Err, IsOkUnless, inl, inr, ap, refl, subst}
use Rattle.std.specs.FinMap.{insert}
use Rattle.mr_values.specs.Faults.{IsRisen}
use Rattle.mr_values.specs.Files.{Files}
use Rattle.mr_values.specs.Host.{HostState}
use Rattle.mr_values.specs.declared.host.HostCall.TheVariants.{OpenInput, Next, OpenOutput, Put}
use Rattle.mr_values.specs.declared.plan.Plan.{Plan}
use Rattle.command_files.specs.declared.fault.CommandFault.{CommandFault}
use Rattle.command_files.specs.declared.fault.CommandFault.TheVariants.{HostFault, Memory}
use Rattle.command_files.specs.declared.fault.WriteFault.{WriteFault}
use Rattle.command_files.specs.declared.fault.WriteFault.TheVariants as writing
use Rattle.command_files.specs.Conversions.{result_of_writing}
use Rattle.command_files.specs.Ends.{IsStruckFor, call_of}
use Rattle.command_files.specs.PlanFile.{IsAcceptedFile, IsOfPlan}
use Rattle.command_files.specs.Reading.{IsReadPlan}
use Rattle.command_files.specs.WholeFiles.{WriteAnswer, IsEmptied, HoldsFront, HoldsPart}
use Rattle.command_files.proofs.AcceptSteps.{accepted_isnt_refused, accepted_isnt_missing}
use Rattle.command_files.proofs.EndedPlan.{ended_of}
use Rattle.plan_commands.specs.Migrate.{IsSecondOf, MigrateEnds}

-- OUT is written
pub second_written : (plan out text : List ℕ) (result : Result (Unit {0}) WriteFault) (meaning : Plan) (old read new : HostState) → IsSecondOf plan old.files text → IsReadPlan plan meaning old new → read.files ≡ old.files
    → WriteAnswer out text result read.files new.files → MigrateEnds plan out (result_of_writing result) old new
second_written plan out text (Ok unit) meaning old read new output is_read files answer = record {
  bytes = text;
  output = output;
  ended = ended_of plan meaning output.meaning old new is_read output.accepted.says;
  written = answer ∙ ap (λ (before : Files). insert before out text) files;
}
second_written plan out text (Err (writing.HostFault OpenInput)) meaning old read new output is_read files answer = absurd answer
second_written plan out text (Err (writing.HostFault Next)) meaning old read new output is_read files answer = absurd answer
second_written plan out text (Err (writing.HostFault OpenOutput)) meaning old read new output is_read files answer = (text, output, subst (λ (before : Files). IsEmptied out before new.files) files answer)
second_written plan out text (Err (writing.HostFault Put)) meaning old read new output is_read files answer = (text, output, subst (λ (before : Files). HoldsFront out text before new.files) files answer)
second_written plan out text (Err writing.Memory) meaning old read new output is_read files answer = inr (text, output, subst (λ (before : Files). HoldsPart out text before new.files) files answer)

-- a plan that is there and accepted is migrated, unless a host call or memory fails
pub migrate-complete : (plan out : List ℕ) (result : Result (Unit {0}) CommandFault) (old new : HostState) → IsStruckFor (IsOfPlan plan) (call_of result) old new → MigrateEnds plan out result old new
    → (meaning : Plan) → IsAcceptedFile plan old.files meaning → ¬ IsRisen old.struck new.struck → IsOkUnless result Memory
migrate-complete plan out (Ok unit) old new struck ends meaning accepted unstruck = tt
migrate-complete plan out (Err Memory) old new struck ends meaning accepted unstruck = refl
migrate-complete plan out (Err (HostFault call)) old new (inl risen) ends meaning accepted unstruck = absurd (unstruck risen)
migrate-complete plan out (Err (HostFault call)) old new (inr missing) ends meaning accepted unstruck = absurd (accepted_isnt_missing plan old.files meaning accepted missing.1)
migrate-complete plan out (Err why) old new struck ends meaning accepted unstruck = absurd (accepted_isnt_refused plan old.files meaning why accepted ends.0)
