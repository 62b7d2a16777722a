-- Steps of `extreme`.
use Rattle.std.proofs.Common.{◌≡◌, ◌∙◌, ℕ, List, Result, Ok, Err, IsOkUnless, inl, inr, ap, subst, refl}
use Rattle.std.specs.FinMap.{insert}
use Rattle.mr_values.specs.Faults.{IsRisen}
use Rattle.mr_values.specs.Files.{Files}
use Rattle.mr_values.specs.Host.{HostState}
use Rattle.mr_values.specs.Value.{size}
use Rattle.mr_values.specs.declared.host.HostCall.TheVariants.{OpenInput, Next, OpenOutput, Put}
use Rattle.mr_values.specs.declared.plan.Plan.{Plan as Plan_}
use Rattle.chain_build.specs.Told.{HasNoRegister}
use Rattle.command_files.specs.declared.fault.CommandFault.{CommandFault}
use Rattle.command_files.specs.declared.fault.CommandFault.TheVariants.{HostFault, Memory, NotBuilt, NoSuchRegister}
use Rattle.command_files.specs.Ends.{IsStruckFor, call_of}
use Rattle.plan_commands.specs.Extreme.{IsExtremeFile, LacksRegister, ExtremeEnds, IsExtremeReady}
use Rattle.command_files.specs.PlanFile.{IsOfPlan, AreReadToEnd}
use Rattle.command_files.specs.Reading.{PlanAnswer}
use Rattle.command_files.specs.declared.fault.WriteFault.{WriteFault}
use Rattle.command_files.specs.declared.fault.WriteFault.TheVariants as writing
use Rattle.command_files.specs.Conversions.{fault_of_writing, result_of_writing}
use Rattle.command_files.specs.Reading.{IsReadPlan}
use Rattle.command_files.proofs.EndedPlan.{ended_of}
use Rattle.command_files.specs.WholeFiles.{WriteAnswer, IsEmptied, HoldsFront, HoldsPart}
use Rattle.command_files.proofs.AcceptSteps.{same_plan, accepted_isnt_refused, accepted_isnt_missing}
use Rattle.plan_commands.proofs.Completeness.{is_built}

-- OUT is written
pub extreme-written : (plan register out text : List ℕ) (result : Result (Unit {0}) WriteFault) (meaning : Plan_) (old read new : HostState) → IsExtremeFile plan register old.files text → IsReadPlan plan meaning old new → read.files ≡ old.files
    → WriteAnswer out text result read.files new.files → ExtremeEnds plan register out (result_of_writing result) old new
extreme-written plan register out text (Ok unit) meaning old read new output is_read files answer = record {
  text = text;
  output = output;
  ended = ended_of plan meaning output.built.plan old new is_read output.built.accepted.says;
  written = answer ∙ ap (λ (before : Files). insert before out text) files;
}
extreme-written plan register out text (Err (writing.HostFault OpenInput)) meaning old read new output is_read files answer = absurd answer
extreme-written plan register out text (Err (writing.HostFault Next)) meaning old read new output is_read files answer = absurd answer
extreme-written plan register out text (Err (writing.HostFault OpenOutput)) meaning old read new output is_read files answer = (text, output, subst (λ (before : Files). IsEmptied out before new.files) files answer)
extreme-written plan register out text (Err (writing.HostFault Put)) meaning old read new output is_read files answer = (text, output, subst (λ (before : Files). HoldsFront out text before new.files) files answer)
extreme-written plan register out text (Err writing.Memory) meaning old read new output is_read files answer = inr (text, output, subst (λ (before : Files). HoldsPart out text before new.files) files answer)

-- PLAN wasn't read, or is refused
pub extreme-refused : (plan register out : List ℕ) (fault : CommandFault) (old new : HostState) → PlanAnswer plan old.files (Err fault) → new.files ≡ old.files → ExtremeEnds plan register out (Err fault) old new
extreme-refused plan register out (HostFault OpenInput) old new answer same = same
extreme-refused plan register out (HostFault Next) old new answer same = same
extreme-refused plan register out (HostFault OpenOutput) old new answer same = absurd answer
extreme-refused plan register out (HostFault Put) old new answer same = absurd answer
extreme-refused plan register out Memory old new answer same = inl same
extreme-refused plan register out NotBuilt old new answer same = absurd answer
extreme-refused plan register out (NoSuchRegister name) old new answer same = absurd answer
extreme-refused plan register out _ old new answer same = (answer, same)

-- ---- completeness

-- a register that is there isn't lacked
isnt_lacked : (plan register : List ℕ) (files : Files) → IsExtremeReady plan register files → LacksRegister plan register files → ⊥
isnt_lacked plan register files ready lacks =
    let one = same_plan plan files lacks.built.plan ready.built.plan lacks.built.accepted.says ready.built.accepted.says in
    let none = subst (λ (p : Plan_). HasNoRegister (size p.width) (size p.ticks) p.elements register) one lacks.none in
    none.none ready.wide.r ready.wide.sum (record { place = ready.wide.place; there = ready.wide.there; needed = ready.wide.needed }) ready.wide.named

pub extreme-complete : (plan register out : List ℕ) (result : Result (Unit {0}) CommandFault) (old new : HostState) → IsStruckFor (IsOfPlan plan) (call_of result) old new → ExtremeEnds plan register out result old new
    → IsExtremeReady plan register old.files → ¬ IsRisen old.struck new.struck → IsOkUnless result Memory
extreme-complete plan register out (Ok unit) old new struck ends ready unstruck = tt
extreme-complete plan register out (Err Memory) old new struck ends ready unstruck = refl
extreme-complete plan register out (Err (HostFault call)) old new (inl risen) ends ready unstruck = absurd (unstruck risen)
extreme-complete plan register out (Err (HostFault call)) old new (inr missing) ends ready unstruck = absurd (accepted_isnt_missing plan old.files ready.built.plan ready.built.accepted missing.1)
extreme-complete plan register out (Err NotBuilt) old new struck ends ready unstruck = absurd (is_built plan old.files ready.built ends.0)
extreme-complete plan register out (Err (NoSuchRegister name)) old new struck ends ready unstruck = absurd (isnt_lacked plan register old.files ready ends.1)
extreme-complete plan register out (Err why) old new struck ends ready unstruck = absurd (accepted_isnt_refused plan old.files ready.built.plan why ready.built.accepted ends.0)
