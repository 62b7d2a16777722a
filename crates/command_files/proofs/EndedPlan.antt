-- PLAN and its tap files stay read to their ends.
use Rattle.std.proofs.Common.{◌≡◌, ◌∙◌, ℕ, List, subst}
use Rattle.std.specs.Prelude.{slice_index_or}
use Rattle.mr_values.specs.Host.{HostState}
use Rattle.mr_values.specs.declared.plan.Plan.{Plan}
use Rattle.plan_reader.specs.declared.plan_texts.PlanText.{PlanText}
use Rattle.command_files.specs.Ends.{AreNoFewer}
use Rattle.command_files.specs.PlanFile.{AreEnded, AreReadToEnd, SaysPlan}
use Rattle.command_files.specs.Reading.{IsReadPlan}
use Rattle.command_files.proofs.AcceptSteps.{same_text}
use Rattle.command_files.proofs.EndsKept.{ended_before}

pub each_on : (plan : List ℕ) (text : PlanText) (old read now : HostState) → AreEnded plan text old read → AreNoFewer read.ends now.ends → AreEnded plan text old now
each_on plan text old read now each kept = record {
  plan_ended = ended_before plan old read now each.plan_ended kept;
  taps_ended = λ k d below. ended_before (slice_index_or text.files k d).name old read now (each.taps_ended k d below) kept;
}

-- nothing was read after PLAN and its tap files
pub read_on : (name : List ℕ) (plan : Plan) (old read now : HostState) → IsReadPlan name plan old read → now.input ≡ read.input → now.place ≡ read.place → AreNoFewer read.ends now.ends → IsReadPlan name plan old now
read_on name plan old read now is same_input same_place kept = record {
  file = is.file;
  ended = record {
    each = each_on name is.file.says.text old read now is.ended.each kept;
    input = same_input ∙ is.ended.input;
    end = rw (same_input, same_place) is.ended.end;
  };
}

-- PLAN says one text
pub ended_of : (name : List ℕ) (plan other : Plan) (old new : HostState) → IsReadPlan name plan old new → (says : SaysPlan name old.files other) → AreReadToEnd name says.text old new
ended_of name plan other old new is says =
    subst (λ (text : PlanText). AreReadToEnd name text old new) (same_text name old.files is.file.says.text says.text is.file.says.says says.says) is.ended

pub each_of : (name : List ℕ) (plan other : Plan) (old read new : HostState) → IsReadPlan name plan old read → AreNoFewer read.ends new.ends → (says : SaysPlan name old.files other) → AreEnded name says.text old new
each_of name plan other old read new is kept says =
    subst (λ (text : PlanText). AreEnded name text old new) (same_text name old.files is.file.says.text says.text is.file.says.says says.says)
    (each_on name is.file.says.text old read new is.ended.each kept)
