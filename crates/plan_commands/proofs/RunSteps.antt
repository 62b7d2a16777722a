-- Steps of `run`.
use Rattle.std.proofs.Common.{◌≡◌, ◌∙◌, ℕ, List, Option, Some, None, Result, Ok, Err, IsOkUnless, inl, inr, sym, ap, subst, refl}
use Rattle.std.specs.FinMap.{get, insert}
use Rattle.mr_values.specs.Faults.{IsRisen}
use Rattle.mr_values.specs.Files.{Files}
use Rattle.mr_values.specs.Host.{HostState}
use Rattle.mr_values.specs.Timing.{latency}
use Rattle.mr_values.specs.Value.{size}
use Rattle.plan_check.specs.Accepted.{AreFacts}
use Rattle.plan_check.specs.declared.facts.Facts.{Facts}
use Rattle.verilog_tree.specs.Tree.{Design}
use Rattle.verilog_text.specs.Order.{IsSameButPlaces}
use Rattle.filter_text.specs.Headline.{ShowsChain}
use Rattle.mr_values.specs.declared.host.HostCall.TheVariants.{OpenInput, Next, OpenOutput, Put}
use Rattle.mr_values.specs.declared.plan.Plan.{Plan as Plan_}
use Rattle.sample_file.specs.declared.fault.LineFault.{LineFault}
use Rattle.row_stream.specs.Giving.{Giving}
use Rattle.chain_run.specs.declared.timing.ChainTiming.{ChainTiming}
use Rattle.chain_run.specs.Outputs.{IsRunText, GivesRun, file_samples}
use Rattle.command_files.specs.declared.fault.CommandFault.{CommandFault}
use Rattle.command_files.specs.declared.fault.CommandFault.TheVariants.{HostFault, Memory, NotBuilt, Line}
use Rattle.plan_commands.specs.Compile.{IsBuiltFile}
use Rattle.command_files.specs.Ends.{IsMissing, IsStruckFor, IsThisFile, AreNoFewer, call_of}
use Rattle.command_files.specs.Reading.{PlanAnswer}
use Rattle.command_files.specs.RowFiles.{IsGiven, RowsEnd}
use Rattle.plan_commands.specs.Run.{IsRunOf, RunEnds, IsReadForRun, IsRunReady, plan_timing}
use Rattle.command_files.specs.declared.fault.RowsFault.{RowsFault}
use Rattle.command_files.specs.declared.fault.RowsFault.TheVariants as rows
use Rattle.command_files.specs.Conversions.{result_of_rows}
use Rattle.command_files.specs.PlanFile.{AreEnded}
use Rattle.command_files.proofs.EndsKept.{ended_after}
use Rattle.command_files.specs.WholeFiles.{IsEmptied, HoldsFront}
use Rattle.command_files.proofs.AcceptSteps.{same_plan, accepted_isnt_refused, accepted_isnt_missing}
use Rattle.plan_commands.proofs.Completeness.{is_built}

-- ---- the module

-- a module is the same as itself
pub itself : (d : Design) → IsSameButPlaces d d
itself d = record { same_name = refl; same_names = refl; same_signals = refl; same_assigns = refl; same_blocks = refl }

-- a module shows its chain at the ticks of its plan
pub shows-at : (plan : Plan_) (facts : Facts) (t : ChainTiming) (d : Design) → AreFacts (size plan.width) (size plan.ticks) plan.elements facts → t ≡ plan_timing plan
    → ShowsChain plan.elements (size plan.width) (size plan.ticks) facts.latency facts.period d → ShowsChain plan.elements t.width t.ticks t.latency t.period d
shows-at plan facts t d are is shows =
    subst (λ (timing : ChainTiming). ShowsChain plan.elements timing.width timing.ticks timing.latency timing.period d) (sym is)
    (subst (λ (p : ℕ). ShowsChain plan.elements (size plan.width) (size plan.ticks) (latency (size plan.width) (size plan.ticks) plan.elements) p d) are.period_is
    (subst (λ (l : ℕ). ShowsChain plan.elements (size plan.width) (size plan.ticks) l facts.period d) are.latency_is shows))

-- ---- what the rows give

module _ (plan samples out : List ℕ) (old read new : HostState) (built : IsBuiltFile plan old.files) (t : ChainTiming) (is_timing : t ≡ plan_timing built.plan) (gives : Giving) (values : GivesRun built.plan.elements t gives)
    (same : read.files ≡ old.files) where
  run-of : (text : List ℕ) (last : Option LineFault) → IsGiven gives samples read.files text last → IsRunOf plan samples old.files text last
  run-of text last given = record {
    built = built;
    bytes = given.bytes;
    there = ap (λ (files : Files). get files samples) (sym same) ∙ given.there;
    values = subst (λ (timing : ChainTiming). IsRunText built.plan.elements timing given.bytes text last) is_timing (values given.bytes text last given.given);
  }

  pub rows-end : (result : Result (Unit {0}) RowsFault) → RowsEnd gives samples out result read new → AreEnded plan built.accepted.says.text old new → AreNoFewer old.ends read.ends → RunEnds plan samples out (result_of_rows result) old new
  unfolding run-of
  rows-end (Ok done) ends each kept = record {
    holds = record { text = ends.holds.text; is_run = run-of ends.holds.text None ends.holds.given; written = ends.holds.written ∙ ap (λ (files : Files). insert files out ends.holds.text) same };
    plan_ended = each;
    ended = ended_after samples old read new kept ends.ended;
    read = ends.read;
    end = ends.end;
  }
  rows-end (Err (rows.Line fault)) ends each kept = record { text = ends.text; is_run = run-of ends.text (Some fault) ends.given; written = ends.written ∙ ap (λ (files : Files). insert files out ends.text) same }
  rows-end (Err (rows.HostFault OpenInput)) ends each kept = ends ∙ same
  rows-end (Err (rows.HostFault OpenOutput)) ends each kept = (built, (ends.0.0, ap (λ (files : Files). get files samples) (sym same) ∙ ends.0.1), subst (λ (files : Files). IsEmptied out files new.files) same ends.1)
  rows-end (Err (rows.HostFault Next)) ends each kept = inr (record { text = ends.text; last = ends.last; is_run = run-of ends.text ends.last ends.given; written = subst (λ (files : Files). HoldsFront out ends.text files new.files) same ends.written })
  rows-end (Err (rows.HostFault Put)) ends each kept = record { text = ends.text; last = ends.last; is_run = run-of ends.text ends.last ends.given; written = subst (λ (files : Files). HoldsFront out ends.text files new.files) same ends.written }
  rows-end (Err rows.Memory) (inl before) each kept = inl (before ∙ same)
  rows-end (Err rows.Memory) (inr ends) each kept = inr (record { text = ends.text; last = ends.last; is_run = run-of ends.text ends.last ends.given; written = subst (λ (files : Files). HoldsFront out ends.text files new.files) same ends.written })

-- PLAN wasn't read, or is refused
pub plan-ends : (plan samples out : List ℕ) (fault : CommandFault) (old new : HostState) → PlanAnswer plan old.files (Err fault) → new.files ≡ old.files → RunEnds plan samples out (Err fault) old new
plan-ends plan samples out (HostFault OpenInput) old new answer same = same
plan-ends plan samples out (HostFault Next) old new answer same = inl same
plan-ends plan samples out (HostFault OpenOutput) old new answer same = absurd answer
plan-ends plan samples out (HostFault Put) old new answer same = absurd answer
plan-ends plan samples out Memory old new answer same = inl same
plan-ends plan samples out NotBuilt old new answer same = absurd answer
plan-ends plan samples out (Line fault) old new answer same = absurd answer
plan-ends plan samples out _ old new answer same = (answer, same)

-- ---- what is read

-- SAMPLES isn't there
pub samples-missing : (plan samples : List ℕ) (read files : Files) → IsBuiltFile plan files → read ≡ files → IsMissing (IsThisFile samples) read → IsMissing (IsReadForRun plan samples) files
samples-missing plan samples read files built same (name, is, gone) = (name, inr (built, is), ap (λ (f : Files). get f name) (sym same) ∙ gone)

-- ---- completeness

ready_isnt_missing : (plan samples : List ℕ) (files : Files) → IsRunReady plan samples files → IsMissing (IsReadForRun plan samples) files → ⊥
ready_isnt_missing plan samples files ready (name, inl of_plan, gone) = accepted_isnt_missing plan files ready.built.plan ready.built.accepted (name, of_plan, gone)
ready_isnt_missing plan samples files ready (name, inr (built, is), gone) = let there = ap (λ (n : List ℕ). get files n) is ∙ ready.there in absurd (cc)

-- no line of a file without a refused line is refused
isnt_refused : (plan samples : List ℕ) (files : Files) (text : List ℕ) (fault : LineFault) → IsRunReady plan samples files → IsRunOf plan samples files text (Some fault) → ⊥
isnt_refused plan samples files text fault ready run =
    let one = same_plan plan files run.built.plan ready.built.plan run.built.accepted.says ready.built.accepted.says in
    let found : Some run.bytes ≡ Some ready.bytes = sym run.there ∙ ready.there in
    let bytes : run.bytes ≡ ready.bytes = cc in
    let none : Some fault ≡ None =
    run.values.is_last ∙ ap (λ (p : Plan_). (file_samples (size p.width) run.bytes).fault) one ∙ ap (λ (b : List ℕ). (file_samples (size ready.built.plan.width) b).fault) bytes ∙ ready.accepted in
    absurd (cc)

pub run-complete : (plan samples out : List ℕ) (result : Result (Unit {0}) CommandFault) (old new : HostState) → IsStruckFor (IsReadForRun plan samples) (call_of result) old new → RunEnds plan samples out result old new
    → IsRunReady plan samples old.files → ¬ IsRisen old.struck new.struck → IsOkUnless result Memory
run-complete plan samples out (Ok unit) old new struck ends ready unstruck = tt
run-complete plan samples out (Err Memory) old new struck ends ready unstruck = refl
run-complete plan samples out (Err (HostFault call)) old new (inl risen) ends ready unstruck = absurd (unstruck risen)
run-complete plan samples out (Err (HostFault call)) old new (inr missing) ends ready unstruck = absurd (ready_isnt_missing plan samples old.files ready missing.1)
run-complete plan samples out (Err NotBuilt) old new struck ends ready unstruck = absurd (is_built plan old.files ready.built ends.0)
run-complete plan samples out (Err (Line fault)) old new struck ends ready unstruck = absurd (isnt_refused plan samples old.files ends.text fault ready ends.is_run)
run-complete plan samples out (Err why) old new struck ends ready unstruck = absurd (accepted_isnt_refused plan old.files ready.built.plan why ready.built.accepted ends.0)
