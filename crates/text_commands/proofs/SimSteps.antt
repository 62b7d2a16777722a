-- The steps of `sim`.
use Rattle.std.proofs.Common.{◌≡◌, ◌∙◌, ℕ, List, length, Option, Some, None, Result, Ok, Err, IsOkUnless, inl, inr, refl, sym, ap, subst, arith}
use Rattle.std.specs.FinMap.{get}
use Rattle.mr_values.specs.Faults.{IsRisen}
use Rattle.mr_values.specs.Files.{Files}
use Rattle.mr_values.specs.Host.{HostState}
use Rattle.mr_values.specs.declared.host.HostCall.TheVariants.{OpenInput, Next, OpenOutput, Put}
use Rattle.verilog_tree.specs.declared.tree.Module.{Module}
use Rattle.verilog_tree.specs.Tree.{Design}
use Rattle.verilog_tree.specs.View.{design_view}
use Rattle.sample_file.specs.declared.fault.LineFault.{LineFault}
use Rattle.sample_file.specs.declared.ranges.Stimulus.{Stimulus}
use Rattle.sample_file.specs.Ranges.{Checked}
use Rattle.sample_file.specs.Reading.{file_rows}
use Rattle.sim_stream.specs.Given.{cycles_for}
use Rattle.sim_stream.specs.Stream.{Midst, GivesFrom, IsStart}
use Rattle.sim_stream.proofs.Whole.{printed-whole, from-start}
use Rattle.command_files.specs.declared.fault.CommandFault.{CommandFault}
use Rattle.command_files.specs.declared.fault.CommandFault.TheVariants as fault
use Rattle.command_files.specs.declared.fault.CommandFault.TheVariants.{HostFault, Memory}
use Rattle.command_files.specs.declared.fault.FileKind.TheVariants as file
use Rattle.command_files.specs.Ends.{IsMissing, IsStruckFor, IsReadToEnd, call_of}
use Rattle.command_files.specs.declared.fault.RowsFault.{RowsFault}
use Rattle.command_files.specs.declared.fault.RowsFault.TheVariants as rows
use Rattle.command_files.specs.Conversions.{result_of_rows}
use Rattle.command_files.specs.WholeFiles.{IsEmptied}
use Rattle.command_files.specs.RowFiles.{IsGiven, HoldsGiven, HoldsGivenFront, RowsEnd}
use Rattle.command_files.specs.TextFile.{IsTextFile, IsRefusedText, DesignAnswer}
use Rattle.text_commands.specs.Sim.{IsSimOutput, HoldsShown, HoldsShownFront, SimEnds, IsTextOrStimulus, AreSimFiles}
use Rattle.command_files.proofs.TextSteps.{same_bytes, isnt_missing, one_text, isnt_other}

-- TEXT couldn't be read, or is refused
pub sim_unread : (text stimulus out : List ℕ) (why : CommandFault) (old new : HostState) → DesignAnswer text old.files (Err why) → new.files ≡ old.files → SimEnds text stimulus out (Err why) old new
sim_unread text stimulus out (HostFault OpenInput) old new answer files = files
sim_unread text stimulus out (HostFault Next) old new answer files = inl files
sim_unread text stimulus out (HostFault OpenOutput) old new answer files = absurd answer
sim_unread text stimulus out (HostFault Put) old new answer files = absurd answer
sim_unread text stimulus out (fault.Line why) old new answer files = absurd answer
sim_unread text stimulus out Memory old new answer files = inl files
sim_unread text stimulus out why old new answer files = (answer, files)

-- ---- the rows of STIMULUS

module _ (text stimulus out : List ℕ) (files : Files) (design : Module) (m : Midst) (read : IsTextFile text files (design_view design)) (is : IsStart m design) where
  output : (bytes : List ℕ) (last : Option LineFault) → IsGiven (GivesFrom m) stimulus files bytes last → IsSimOutput text stimulus files bytes last
  output bytes last given =
      let d = design_view design in
      let cycles = cycles_for d (file_rows 3 given.bytes) in
      let printed = printed-whole d (λ n. 0) cycles bytes last (from-start m design given.bytes bytes last is given.given) in
      record {
        design = d;
        read = read;
        cycles = cycles;
        said = record { bytes = given.bytes; there = given.there; says = refl };
        refused = printed.refused;
        shown = record { events = printed.events; shows = printed.shows; printed = printed.text_is };
      }

  holds : (last : Option LineFault) (new : Files) → HoldsGiven (GivesFrom m) stimulus out last files new → HoldsShown text stimulus out last files new
  holds last new given = record { bytes = given.text; output = output given.text last given.given; written = given.written }

  holds_front : (new : Files) → HoldsGivenFront (GivesFrom m) stimulus out files new → HoldsShownFront text stimulus out files new
  holds_front new given = record { bytes = given.text; last = given.last; output = output given.text given.last given.given; written = given.written }

  pub sim_ends : (result : Result (Unit {0}) RowsFault) (old middle new : HostState) → old.files ≡ files → middle.files ≡ files → IsReadToEnd text old new → RowsEnd (GivesFrom m) stimulus out result middle new → (IsReadToEnd stimulus middle new → IsReadToEnd stimulus old new) → SimEnds text stimulus out (result_of_rows result) old new
  sim_ends (Ok done) old middle new same_old same text_ended ends later = rw (same_old) (record {
    holds = holds None new.files (subst (λ (f : Files). HoldsGiven (GivesFrom m) stimulus out None f new.files) same ends.holds);
    text_ended = text_ended;
    ended = later ends.ended;
    input = ends.read;
    end = ends.end;
  })
  sim_ends (Err (rows.Line why)) old middle new same_old same text_ended ends later = rw (same_old) (holds (Some why) new.files (subst (λ (f : Files). HoldsGiven (GivesFrom m) stimulus out (Some why) f new.files) same ends))
  sim_ends (Err (rows.HostFault OpenInput)) old middle new same_old same text_ended ends later = ends ∙ same ∙ sym same_old
  sim_ends (Err (rows.HostFault OpenOutput)) old middle new same_old same text_ended ends later = ((design_view design, rw (same_old) read), (ends.0.0, rw (same_old) (sym (ap (λ (f : Files). get f stimulus) same) ∙ ends.0.1)), subst (λ (f : Files). IsEmptied out f new.files) (same ∙ sym same_old) ends.1)
  sim_ends (Err (rows.HostFault Next)) old middle new same_old same text_ended ends later = inr (rw (same_old) (holds_front new.files (subst (λ (f : Files). HoldsGivenFront (GivesFrom m) stimulus out f new.files) same ends)))
  sim_ends (Err (rows.HostFault Put)) old middle new same_old same text_ended ends later = rw (same_old) (holds_front new.files (subst (λ (f : Files). HoldsGivenFront (GivesFrom m) stimulus out f new.files) same ends))
  sim_ends (Err rows.Memory) old middle new same_old same text_ended (inl unchanged) later = inl (unchanged ∙ same ∙ sym same_old)
  sim_ends (Err rows.Memory) old middle new same_old same text_ended (inr ends) later = inr (rw (same_old) (holds_front new.files (subst (λ (f : Files). HoldsGivenFront (GivesFrom m) stimulus out f new.files) same ends)))

-- ---- completeness

pub none_missing : (text stimulus : List ℕ) (files : Files) → AreSimFiles text stimulus files → IsMissing (IsTextOrStimulus text stimulus) files → ⊥
none_missing text stimulus files ready (name, inl is, none) = isnt_missing files text ready.read.bytes ready.read.has.there (ap (λ (n : List ℕ). get files n) (sym is) ∙ none)
none_missing text stimulus files ready (name, inr (read, is), none) = isnt_missing files stimulus ready.said.bytes ready.said.there (ap (λ (n : List ℕ). get files n) (sym is) ∙ none)

none_refused : (text stimulus : List ℕ) (files : Files) (bytes : List ℕ) (why : LineFault) → AreSimFiles text stimulus files → IsSimOutput text stimulus files bytes (Some why) → ⊥
none_refused text stimulus files bytes why ready o =
    let design : ready.design ≡ o.design = one_text text files ready.design o.design ready.read o.read in
    let same : ready.said.bytes ≡ o.said.bytes = same_bytes files stimulus ready.said.bytes o.said.bytes ready.said.there o.said.there in
    let cycles : ready.cycles ≡ o.cycles =
    ready.said.says ∙ ap (λ (d : Design). cycles_for d (file_rows 3 ready.said.bytes)) design ∙ ap (λ (bs : List ℕ). cycles_for o.design (file_rows 3 bs)) same ∙ sym o.said.says in
    let e : None ≡ Some why = sym ready.accepted ∙ ap (λ (c : Checked Stimulus). c.fault) cycles ∙ sym o.refused in
    absurd (cc)

pub not_refused : (text stimulus : List ℕ) (files : Files) (why : CommandFault) → AreSimFiles text stimulus files → IsRefusedText text files why → ⊥
not_refused text stimulus files (fault.FileTooLong file.Text) ready long =
    let same : length long.bytes ≡ length ready.read.bytes = ap (λ (bytes : List ℕ). length bytes) (same_bytes files text long.bytes ready.read.bytes long.there ready.read.has.there) in
    absurd (omega (arith, same, long.long, ready.read.has.short))
not_refused text stimulus files (fault.Read why) ready (bytes, other, refused) = isnt_other text files bytes ready.design ready.read other
not_refused text stimulus files (fault.Module why) ready (bytes, other, refused) = isnt_other text files bytes ready.design ready.read other
not_refused text stimulus files _ ready refused = refused

pub sim-complete : (text stimulus out : List ℕ) (result : Result (Unit {0}) CommandFault) (old new : HostState) → IsStruckFor (IsTextOrStimulus text stimulus) (call_of result) old new → SimEnds text stimulus out result old new
    → AreSimFiles text stimulus old.files → ¬ IsRisen old.struck new.struck → IsOkUnless result Memory
sim-complete text stimulus out (Ok done) old new struck ends ready unstruck = tt
sim-complete text stimulus out (Err Memory) old new struck ends ready unstruck = refl
sim-complete text stimulus out (Err (HostFault call)) old new (inl risen) ends ready unstruck = absurd (unstruck risen)
sim-complete text stimulus out (Err (HostFault call)) old new (inr missing) ends ready unstruck = absurd (none_missing text stimulus old.files ready missing.1)
sim-complete text stimulus out (Err (fault.Line why)) old new struck ends ready unstruck = absurd (none_refused text stimulus old.files ends.bytes why ready ends.output)
sim-complete text stimulus out (Err why) old new struck ends ready unstruck = absurd (not_refused text stimulus old.files why ready ends.0)
