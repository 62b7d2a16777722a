-- What the program answers, from what a command answers.
use Rattle.std.proofs.Common.{◌≡◌, ◌∙◌, List, ℕ, Option, Some, None, Result, Ok, Err, IsOkUnless, IfErr, IfSome, refl, sym, ap, subst}
use Rattle.mr_values.specs.declared.host.HostCall.{HostCall}
use Rattle.mr_values.specs.Host.{HostState}
use Rattle.command_files.specs.Conversions.{IsPlain}
use Rattle.command_files.specs.Ends.{EndsWith, call_of}
use Rattle.command_files.specs.declared.fault.CommandFault.{CommandFault}
use Rattle.command_files.specs.declared.fault.CommandFault.TheVariants as command
use Rattle.filter_core.specs.declared.fault.Fault.{Fault}
use Rattle.filter_core.specs.declared.fault.Fault.TheVariants.{Usage, Memory}
use Rattle.filter_core.specs.Answers.{fault_of, answer_of, Answers, blamed, IsPlainFault}
use Rattle.filter_core.specs.CommandWords.{CommandWords}
use Rattle.filter_core.specs.Tool.{CommandEnds, ToolEnds, IsReadFor, IsReadBy, result_of}

blamed_is : (result : Result (Unit {0}) CommandFault) → call_of result ≡ blamed (answer_of result)
blamed_is (Ok done) = refl
blamed_is (Err (command.HostFault call)) = refl
blamed_is (Err command.Memory) = refl
blamed_is (Err (command.FileTooLong file)) = refl
blamed_is (Err (command.PlanRead fault)) = refl
blamed_is (Err (command.Tap element row why)) = refl
blamed_is (Err (command.Plan fault)) = refl
blamed_is (Err (command.Line fault)) = refl
blamed_is (Err (command.Read fault)) = refl
blamed_is (Err (command.Module fault)) = refl
blamed_is (Err (command.NoSuchRegister name)) = refl
blamed_is (Err command.NotBuilt) = refl

plain_is : (result : Result (Unit {0}) CommandFault) → IfErr result IsPlain → IfSome (answer_of result) IsPlainFault
plain_is (Ok done) h = tt
plain_is (Err (command.HostFault call)) h = tt
plain_is (Err command.Memory) h = tt
plain_is (Err (command.FileTooLong file)) h = tt
plain_is (Err (command.PlanRead fault)) h = h
plain_is (Err (command.Tap element row why)) h = tt
plain_is (Err (command.Plan fault)) h = h
plain_is (Err (command.Line fault)) h = tt
plain_is (Err (command.Read fault)) h = h
plain_is (Err (command.Module fault)) h = h
plain_is (Err (command.NoSuchRegister name)) h = tt
plain_is (Err command.NotBuilt) h = tt

no_usage : (result : Result (Unit {0}) CommandFault) → answer_of result ≡ Some Usage → ⊥
no_usage (Ok done) e = absurd (cc)
no_usage (Err (command.HostFault call)) e = absurd (cc)
no_usage (Err command.Memory) e = absurd (cc)
no_usage (Err (command.FileTooLong file)) e = absurd (cc)
no_usage (Err (command.PlanRead fault)) e = absurd (cc)
no_usage (Err (command.Tap element row why)) e = absurd (cc)
no_usage (Err (command.Plan fault)) e = absurd (cc)
no_usage (Err (command.Line fault)) e = absurd (cc)
no_usage (Err (command.Read fault)) e = absurd (cc)
no_usage (Err (command.Module fault)) e = absurd (cc)
no_usage (Err (command.NoSuchRegister name)) e = absurd (cc)
no_usage (Err command.NotBuilt) e = absurd (cc)

pub all_well : (result : Result (Unit {0}) CommandFault) → answer_of result ≡ None → result ≡ Ok tt
all_well (Ok done) e = refl
all_well (Err why) e = absurd (cc)

unless_is : (result : Result (Unit {0}) CommandFault) → IsOkUnless result command.Memory → IsOkUnless (result_of (answer_of result)) Memory
unless_is (Ok done) h = tt
unless_is (Err why) h = ap fault_of h

module _ (asked : Option CommandWords) (own : CommandWords) (result : Result (Unit {0}) CommandFault) (fault : Option Fault) (is : asked ≡ Some own) (answered : fault ≡ answer_of result) where
  pub usage_never : fault ≡ Some Usage → ⊥
  usage_never e = no_usage result (sym answered ∙ e)

  pub asked_some : asked ≡ None → ⊥
  asked_some e = absurd (cc)

  pub cause_of : (old new : HostState) → EndsWith (IsReadFor own) (call_of result) old new → EndsWith (IsReadBy asked) (blamed fault) old new
  cause_of old new ends =
      subst (λ (c : Option CommandWords). EndsWith (IsReadBy c) (blamed fault) old new) (sym is)
      (subst (λ (c : Option HostCall). EndsWith (IsReadFor own) c old new) (blamed_is result ∙ ap blamed (sym answered)) ends)

  pub plain_of : IfErr result IsPlain → IfSome fault IsPlainFault
  plain_of h = subst (λ (f : Option Fault). IfSome f IsPlainFault) (sym answered) (plain_is result h)

  pub told_of : (old new : HostState) → CommandEnds own result old new → ToolEnds asked fault old new
  told_of old new ends =
      subst (λ (c : Option CommandWords). ToolEnds c fault old new) (sym is) (record { result = result; answered = answered; ends = ends })

  pub well_of : fault ≡ None → result ≡ Ok tt
  well_of e = all_well result (sym answered ∙ e)

  pub unless_of : IsOkUnless result command.Memory → IsOkUnless (result_of fault) Memory
  unless_of h = subst (λ (f : Option Fault). IsOkUnless (result_of f) Memory) (sym answered) (unless_is result h)

  pub same_words : (other : CommandWords) → asked ≡ Some other → own ≡ other
  same_words other e = cc
