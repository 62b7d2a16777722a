-- A command whose files are there and accepted is done, unless a host call or memory fails.
use Rattle.std.proofs.Common.{◌≡◌, ℕ, List, Result, Ok, subst}
use Rattle.mr_values.specs.Host.{HostState}
use Rattle.command_files.specs.declared.fault.CommandFault.{CommandFault}
use Rattle.filter_core.specs.CommandWords.{CommandWords, compile_words}
use Rattle.filter_core.specs.Tool.{CommandEnds}
use Rattle.plan_commands.specs.Compile.{IsCompiled, CompileEnds}

-- what `compile` is at its end, where its words are these
pub compiled : (command : CommandWords) (plan text report : List ℕ) (result : Result (Unit {0}) CommandFault) (old new : HostState) → command ≡ compile_words plan text report → result ≡ Ok tt → CommandEnds command result old new → IsCompiled plan text report old new
compiled command plan text report result old new is done ends = subst (λ (r : Result (Unit {0}) CommandFault). CompileEnds plan text report r old new) done (subst (λ (c : CommandWords). CommandEnds c result old new) is ends)
