-- PLAN was read, then its tap files, and then the plan was tested.
use Rattle.std.proofs.Common.{◌≡◌, ◌∙◌, ℕ, ◌^◌, List, [], drop, Result, Ok, Err, sym, ap, subst}
use Rattle.std.specs.Prelude.{Vec, slice_index_or}
use Rattle.std.specs.declared.alloc.Global.{Global}
use Rattle.mr_values.specs.Files.{Files, bytes_of}
use Rattle.mr_values.specs.Host.{HostState}
use Rattle.mr_values.specs.declared.plan.Plan.{Plan}
use Rattle.plan_reader.specs.declared.plan_texts.PlanText.{PlanText}
use Rattle.plan_reader.specs.Documents.{Says}
use Rattle.plan_check.specs.Accepted.{IsAccepted}
use Rattle.command_files.specs.declared.accept.AcceptedPlan.{AcceptedPlan}
use Rattle.command_files.specs.declared.fault.CommandFault.{CommandFault}
use Rattle.command_files.specs.declared.fault.CommandFault.TheVariants as fault
use Rattle.command_files.specs.declared.fault.FileKind.TheVariants as file
use Rattle.command_files.specs.Ends.{AreNoFewer}
use Rattle.command_files.specs.PlanFile.{SaysPlan, AreReadToEnd, Fills, last_name}
use Rattle.command_files.specs.Reading.{CheckAnswer, IsReadPlan, IsVersionedFile, ReadsPlan, ReadsTapFiles}
use Rattle.command_files.specs.WholeFiles.{ReadsFile}
use Rattle.command_files.proofs.EndsKept.{ended_before, ended_after}

module _ (name : List ℕ) (bytes : Vec ℕ Global) (text : PlanText) (plan : Plan) (old one two : HostState) (first : ReadsFile name file.Plan (2 ^ 20) (Ok bytes) old one) (said : Says bytes.items (Ok text)) (taps : ReadsTapFiles text (Ok plan) one two)
    (kept_first : AreNoFewer old.ends one.ends) (kept_taps : AreNoFewer one.ends two.ends) where
  says : SaysPlan name old.files plan
  says = record {
    text = text;
    says = record { bytes = bytes.items; has = record { there = first.answer.0; short = first.answer.1 }; says = said };
    filled = subst (λ (files : Files). Fills files text.files text.plan plan) first.files taps.answer;
  }

  ended : AreReadToEnd name text old two
  ended = record {
    each = record {
      plan_ended = ended_before name old one two first.ended kept_taps;
      taps_ended = λ k d below. ended_after (slice_index_or text.files k d).name old one two kept_first (taps.ended k d below);
    };
    input = taps.input ∙ ap (λ (n : List ℕ). last_name n text.files) first.input;
    end = subst (λ (files : Files). drop two.place (bytes_of files two.input) ≡ []) (taps.files ∙ first.files) (taps.end first.end);
  }

  accepted_file : (accepted : AcceptedPlan) → CheckAnswer text.version plan (Ok accepted) → IsReadPlan name accepted.plan old two
  unfolding says
  accepted_file accepted (same, version, is) = subst (λ (p : Plan). IsReadPlan name p old two) (sym same)
      (record { file = record { says = says; accepted = subst (λ (p : Plan). IsAccepted p) same is.passes }; ended = ended })

  versioned_file : (accepted : AcceptedPlan) → CheckAnswer text.version plan (Ok accepted) → IsVersionedFile name old.files accepted.version accepted.plan
  unfolding says
  versioned_file accepted (same, version, is) = subst (λ (p : Plan). IsVersionedFile name old.files accepted.version p) (sym same)
      (record { file = record { says = says; accepted = subst (λ (p : Plan). IsAccepted p) same is.passes }; version_is = sym version })

  pub plan_read : (result : Result AcceptedPlan CommandFault) → CheckAnswer text.version plan result → ReadsPlan name result old two
  plan_read (Ok accepted) answer = let read = accepted_file accepted answer in record { answer = read.file; ended = read; versioned = versioned_file accepted answer; files = taps.files ∙ first.files }
  plan_read (Err (fault.Plan why)) answer = record { answer = record { plan = plan; says = says; first = answer }; ended = tt; versioned = tt; files = taps.files ∙ first.files }
  plan_read (Err fault.Memory) answer = record { answer = tt; ended = tt; versioned = tt; files = taps.files ∙ first.files }
  plan_read (Err _) answer = absurd answer
