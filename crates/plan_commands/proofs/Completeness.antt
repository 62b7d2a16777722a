-- A command whose files are there and accepted is done, unless a host call or memory fails.
use Rattle.std.proofs.Common.{◌≡◌, ◌∙◌, ℕ, List, Result, Ok, Err, IsOkUnless, inl, inr, sym, ap, true, refl}
use Rattle.mr_values.specs.Faults.{IsRisen}
use Rattle.mr_values.specs.Files.{Files}
use Rattle.mr_values.specs.Host.{HostState}
use Rattle.mr_values.specs.declared.plan.Plan.{Plan as Plan_}
use Rattle.command_files.specs.declared.fault.CommandFault.{CommandFault}
use Rattle.command_files.specs.declared.fault.CommandFault.TheVariants.{HostFault, Memory, NotBuilt}
use Rattle.chain_build.specs.Built.{are_built}
use Rattle.command_files.specs.Ends.{IsStruckFor, call_of}
use Rattle.command_files.specs.PlanFile.{IsAcceptedFile, IsOfPlan}
use Rattle.plan_commands.specs.Noble.{NobleEnds}
use Rattle.plan_commands.specs.Compile.{IsBuiltFile, IsUnbuiltFile, CompileEnds}
use Rattle.command_files.proofs.AcceptSteps.{same_plan, accepted_isnt_refused, accepted_isnt_missing}

pub is_built : (name : List ℕ) (files : Files) → IsBuiltFile name files → IsUnbuiltFile name files → ⊥
is_built name files built other =
    let one = same_plan name files built.plan other.plan built.accepted.says other.accepted.says in
    let is : are_built other.plan.elements ≡ true = ap (λ (p : Plan_). are_built p.elements) (sym one) ∙ built.built in
    let isnt = other.other in
    absurd (cc)

pub compile-complete : (plan text report : List ℕ) (result : Result (Unit {0}) CommandFault) (old new : HostState) → IsStruckFor (IsOfPlan plan) (call_of result) old new → CompileEnds plan text report result old new
    → IsBuiltFile plan old.files → ¬ IsRisen old.struck new.struck → IsOkUnless result Memory
compile-complete plan text report (Ok unit) old new struck ends built unstruck = tt
compile-complete plan text report (Err Memory) old new struck ends built unstruck = refl
compile-complete plan text report (Err (HostFault call)) old new (inl risen) ends built unstruck = absurd (unstruck risen)
compile-complete plan text report (Err (HostFault call)) old new (inr missing) ends built unstruck = absurd (accepted_isnt_missing plan old.files built.plan built.accepted missing.1)
compile-complete plan text report (Err NotBuilt) old new struck ends built unstruck = absurd (is_built plan old.files built ends.0)
compile-complete plan text report (Err why) old new struck ends built unstruck = absurd (accepted_isnt_refused plan old.files built.plan why built.accepted ends.0)

pub noble-complete : (plan out : List ℕ) (result : Result (Unit {0}) CommandFault) (old new : HostState) → IsStruckFor (IsOfPlan plan) (call_of result) old new → NobleEnds plan out result old new
    → (meaning : Plan_) → IsAcceptedFile plan old.files meaning → ¬ IsRisen old.struck new.struck → IsOkUnless result Memory
noble-complete plan out (Ok unit) old new struck ends meaning accepted unstruck = tt
noble-complete plan out (Err Memory) old new struck ends meaning accepted unstruck = refl
noble-complete plan out (Err (HostFault call)) old new (inl risen) ends meaning accepted unstruck = absurd (unstruck risen)
noble-complete plan out (Err (HostFault call)) old new (inr missing) ends meaning accepted unstruck = absurd (accepted_isnt_missing plan old.files meaning accepted missing.1)
noble-complete plan out (Err why) old new struck ends meaning accepted unstruck = absurd (accepted_isnt_refused plan old.files meaning why accepted ends.0)
