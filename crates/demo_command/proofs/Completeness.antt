-- `demo` is done unless a host call or memory fails.
use Rattle.std.proofs.Common.{◌≡◌, ℕ, List, Result, Ok, Err, IsOkUnless, inl, inr, refl, sym, subst}
use Rattle.mr_values.specs.Faults.{IsRisen}
use Rattle.mr_values.specs.Host.{HostState}
use Rattle.command_files.specs.declared.fault.CommandFault.{CommandFault}
use Rattle.command_files.specs.declared.fault.CommandFault.TheVariants.{HostFault, Memory}
use Rattle.command_files.specs.declared.fault.WriteFault.{WriteFault}
use Rattle.command_files.specs.declared.fault.WriteFault.TheVariants as written
use Rattle.command_files.specs.Conversions.{result_of_writing}
use Rattle.command_files.specs.Ends.{IsStruckFor, IsNoFile, call_of}
use Rattle.demo_command.specs.Demo.{DemoEnds}

unless : (answer : Result (Unit {0}) WriteFault) (old new : HostState) → IsStruckFor IsNoFile (call_of (result_of_writing answer)) old new → ¬ IsRisen old.struck new.struck → IsOkUnless (result_of_writing answer) Memory
unless (Ok unit) old new struck unstruck = tt
unless (Err written.Memory) old new struck unstruck = refl
unless (Err (written.HostFault call)) old new (inl risen) unstruck = absurd (unstruck risen)
unless (Err (written.HostFault call)) old new (inr missing) unstruck = absurd missing.1.1

pub demo-complete : (number : ℕ) (out : List ℕ) (result : Result (Unit {0}) CommandFault) (old new : HostState) → IsStruckFor IsNoFile (call_of result) old new → DemoEnds number out result old new → ¬ IsRisen old.struck new.struck
    → IsOkUnless result Memory
demo-complete number out result old new struck ends unstruck =
    subst (λ (r : Result (Unit {0}) CommandFault). IsOkUnless r Memory) (sym ends.1.0)
    (unless ends.0 old new (subst (λ (r : Result (Unit {0}) CommandFault). IsStruckFor IsNoFile (call_of r) old new) ends.1.0 struck) unstruck)
