-- The steps of `order`.
use Rattle.std.proofs.Common.{◌≡◌, ◌∙◌, ℕ, List, [], map, Option, Some, None, Result, Ok, Err, IsOkUnless, inl, inr, refl, sym, ap, subst}
use Rattle.std.specs.FinMap.{get}
use Rattle.mr_values.specs.Faults.{IsRisen}
use Rattle.mr_values.specs.Files.{Files}
use Rattle.mr_values.specs.Host.{HostState}
use Rattle.mr_values.specs.declared.host.HostCall.TheVariants.{OpenInput, Next, OpenOutput, Put}
use Rattle.verilog_tree.specs.declared.tree.Module.{Module}
use Rattle.verilog_tree.specs.Tree.{Design}
use Rattle.verilog_tree.specs.View.{design_view}
use Rattle.sample_file.specs.declared.fault.LineFault.{LineFault}
use Rattle.sample_file.specs.declared.ranges.Stimulus.{Stimulus}
use Rattle.sample_file.specs.Ranges.{Checked}
use Rattle.sample_file.specs.Reading.{file_rows}
use Rattle.sim_stream.specs.Given.{cycle_at, cycles_for}
use Rattle.order_stream.specs.Laws.{EveryOrderShows}
use Rattle.order_stream.specs.Stream.{Midst, GivesFrom, IsStart}
use Rattle.order_stream.proofs.Whole.{from-start}
use Rattle.command_files.specs.declared.fault.CommandFault.{CommandFault}
use Rattle.command_files.specs.declared.fault.CommandFault.TheVariants as fault
use Rattle.command_files.specs.declared.fault.CommandFault.TheVariants.{HostFault, Memory}
use Rattle.command_files.specs.Ends.{IsStruckFor, IsReadToEnd, call_of}
use Rattle.command_files.specs.declared.fault.RowsFault.{RowsFault}
use Rattle.command_files.specs.declared.fault.RowsFault.TheVariants as rows
use Rattle.command_files.specs.Conversions.{result_of_rows}
use Rattle.command_files.specs.WholeFiles.{IsEmptied}
use Rattle.command_files.specs.RowFiles.{IsGiven, HoldsGiven, HoldsGivenFront, RowsEnd}
use Rattle.command_files.specs.TextFile.{IsTextFile, DesignAnswer}
use Rattle.text_commands.specs.Sim.{IsTextOrStimulus, AreSimFiles}
use Rattle.text_commands.specs.Order.{IsOrderOutput, HoldsDrawn, HoldsDrawnFront, OrderEnds}
use Rattle.command_files.proofs.TextSteps.{same_bytes, one_text}
use Rattle.text_commands.proofs.SimSteps.{none_missing, not_refused}

-- TEXT couldn't be read, or is refused
pub order_unread : (text stimulus out : List ℕ) (number : ℕ) (why : CommandFault) (old new : HostState) → DesignAnswer text old.files (Err why) → new.files ≡ old.files → OrderEnds text stimulus out number (Err why) old new
order_unread text stimulus out number (HostFault OpenInput) old new answer files = files
order_unread text stimulus out number (HostFault Next) old new answer files = inl files
order_unread text stimulus out number (HostFault OpenOutput) old new answer files = absurd answer
order_unread text stimulus out number (HostFault Put) old new answer files = absurd answer
order_unread text stimulus out number (fault.Line why) old new answer files = absurd answer
order_unread text stimulus out number Memory old new answer files = inl files
order_unread text stimulus out number why old new answer files = (answer, files)

-- ---- the rows of STIMULUS

module _ (text stimulus out : List ℕ) (number : ℕ) (files : Files) (design : Module) (m : Midst) (read : IsTextFile text files (design_view design)) (is : IsStart m design number) (every : EveryOrderShows (design_view design)) where
  output : (bytes : List ℕ) (last : Option LineFault) → IsGiven (GivesFrom m) stimulus files bytes last → IsOrderOutput text stimulus number files bytes last
  output bytes last given =
      let d = design_view design in
      let cycles = cycles_for d (file_rows 3 given.bytes) in
      let g = from-start m design number given.bytes bytes last is given.given in
      record {
        design = d;
        read = read;
        cycles = cycles;
        said = record { bytes = given.bytes; there = given.there; says = refl };
        refused = g.refused;
        shown = record {
          settled = g.settled;
          run = g.run;
          printed = g.shown;
          every = λ begun reads ends zero orders. every (λ name. 0) begun (map cycle_at cycles.items) g.settled reads ends 0 0 number zero g.run orders;
        };
      }

  holds : (last : Option LineFault) (new : Files) → HoldsGiven (GivesFrom m) stimulus out last files new → HoldsDrawn text stimulus out number last files new
  holds last new given = record { bytes = given.text; output = output given.text last given.given; written = given.written }

  holds_front : (new : Files) → HoldsGivenFront (GivesFrom m) stimulus out files new → HoldsDrawnFront text stimulus out number files new
  holds_front new given = record { bytes = given.text; last = given.last; output = output given.text given.last given.given; written = given.written }

  pub order_ends : (result : Result (Unit {0}) RowsFault) (old middle new : HostState) → old.files ≡ files → middle.files ≡ files → IsReadToEnd text old new → RowsEnd (GivesFrom m) stimulus out result middle new → (IsReadToEnd stimulus middle new → IsReadToEnd stimulus old new) → OrderEnds text stimulus out number (result_of_rows result) old new
  order_ends (Ok done) old middle new same_old same text_ended ends later = rw (same_old) (record {
    holds = holds None new.files (subst (λ (f : Files). HoldsGiven (GivesFrom m) stimulus out None f new.files) same ends.holds);
    text_ended = text_ended;
    ended = later ends.ended;
    input = ends.read;
    end = ends.end;
  })
  order_ends (Err (rows.Line why)) old middle new same_old same text_ended ends later = rw (same_old) (holds (Some why) new.files (subst (λ (f : Files). HoldsGiven (GivesFrom m) stimulus out (Some why) f new.files) same ends))
  order_ends (Err (rows.HostFault OpenInput)) old middle new same_old same text_ended ends later = ends ∙ same ∙ sym same_old
  order_ends (Err (rows.HostFault OpenOutput)) old middle new same_old same text_ended ends later = ((design_view design, rw (same_old) read), (ends.0.0, rw (same_old) (sym (ap (λ (f : Files). get f stimulus) same) ∙ ends.0.1)), subst (λ (f : Files). IsEmptied out f new.files) (same ∙ sym same_old) ends.1)
  order_ends (Err (rows.HostFault Next)) old middle new same_old same text_ended ends later = inr (rw (same_old) (holds_front new.files (subst (λ (f : Files). HoldsGivenFront (GivesFrom m) stimulus out f new.files) same ends)))
  order_ends (Err (rows.HostFault Put)) old middle new same_old same text_ended ends later = rw (same_old) (holds_front new.files (subst (λ (f : Files). HoldsGivenFront (GivesFrom m) stimulus out f new.files) same ends))
  order_ends (Err rows.Memory) old middle new same_old same text_ended (inl unchanged) later = inl (unchanged ∙ same ∙ sym same_old)
  order_ends (Err rows.Memory) old middle new same_old same text_ended (inr ends) later = inr (rw (same_old) (holds_front new.files (subst (λ (f : Files). HoldsGivenFront (GivesFrom m) stimulus out f new.files) same ends)))

-- ---- completeness

none_refused : (text stimulus : List ℕ) (number : ℕ) (files : Files) (bytes : List ℕ) (why : LineFault) → AreSimFiles text stimulus files → IsOrderOutput text stimulus number files bytes (Some why) → ⊥
none_refused text stimulus number files bytes why ready o =
    let design : ready.design ≡ o.design = one_text text files ready.design o.design ready.read o.read in
    let same : ready.said.bytes ≡ o.said.bytes = same_bytes files stimulus ready.said.bytes o.said.bytes ready.said.there o.said.there in
    let cycles : ready.cycles ≡ o.cycles =
    ready.said.says ∙ ap (λ (d : Design). cycles_for d (file_rows 3 ready.said.bytes)) design ∙ ap (λ (bs : List ℕ). cycles_for o.design (file_rows 3 bs)) same ∙ sym o.said.says in
    let e : None ≡ Some why = sym ready.accepted ∙ ap (λ (c : Checked Stimulus). c.fault) cycles ∙ sym o.refused in
    absurd (cc)

pub order-complete : (text stimulus out : List ℕ) (number : ℕ) (result : Result (Unit {0}) CommandFault) (old new : HostState) → IsStruckFor (IsTextOrStimulus text stimulus) (call_of result) old new
    → OrderEnds text stimulus out number result old new → AreSimFiles text stimulus old.files → ¬ IsRisen old.struck new.struck → IsOkUnless result Memory
order-complete text stimulus out number (Ok done) old new struck ends ready unstruck = tt
order-complete text stimulus out number (Err Memory) old new struck ends ready unstruck = refl
order-complete text stimulus out number (Err (HostFault call)) old new (inl risen) ends ready unstruck = absurd (unstruck risen)
order-complete text stimulus out number (Err (HostFault call)) old new (inr missing) ends ready unstruck = absurd (none_missing text stimulus old.files ready missing.1)
order-complete text stimulus out number (Err (fault.Line why)) old new struck ends ready unstruck = absurd (none_refused text stimulus number old.files ends.bytes why ready ends.output)
order-complete text stimulus out number (Err why) old new struck ends ready unstruck = absurd (not_refused text stimulus old.files why ready ends.0)
