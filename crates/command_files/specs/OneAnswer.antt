-- A plan file with its tap files has one answer.
use Rattle.std.specs.Prelude.{◌≡◌, ℕ, List}
use Rattle.mr_values.specs.Files.{Files}
use Rattle.mr_values.specs.declared.plan.Plan.{Plan}
use Rattle.command_files.specs.declared.fault.CommandFault.{CommandFault}
use Rattle.command_files.specs.PlanFile.{IsAcceptedFile, IsRefusedPlan}

-- one plan that is accepted, or one refusal, and never both
pub record HasOneAnswer (name : List ℕ) (files : Files) : Type 0 where
  pub accepted : (a b : Plan) → IsAcceptedFile name files a → IsAcceptedFile name files b → a ≡ b
  pub refused : (a b : CommandFault) → IsRefusedPlan name files a → IsRefusedPlan name files b → a ≡ b
  pub apart : (plan : Plan) (why : CommandFault) → IsAcceptedFile name files plan → ¬ IsRefusedPlan name files why

abbrev pub EachHasOneAnswer : Type 0
EachHasOneAnswer = (name : List ℕ) (files : Files) → HasOneAnswer name files
