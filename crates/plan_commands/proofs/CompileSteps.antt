-- The writes of `compile`.
use Rattle.std.proofs.Common.{◌≡◌, ℕ, ◌+◌, ◌^◌, ◌≤◌, ℤ, pos, ◌*ℤ◌, ◌-ℤ◌, List, [], ◌∷◌, ◌++◌, map, Option, None, Some, Bool, true, false, if◌then◌else◌, Result, Ok, Err, inl, inr, refl, sym, ap, ◌∙◌, subst}
use Rattle.std.specs.FinMap.{insert}
use Rattle.filter_text.specs.Written.{TellCosts, IsChainModule, IsTextWritten}
use Rattle.filter_text.specs.declared.chain.ChainModule.{ChainModule}
use Rattle.filter_text.specs.Extremes.{told_at}
use Rattle.filter_report.specs.Report.{plan_lines, group_line, group_lines, register_line, register_lines, report_text, TellsOutput}
use Rattle.filter_text.proofs.CountedText.{same_counts}
use Rattle.filter_text.proofs.ReadModules.{same_output}
use Rattle.verilog_tree.specs.Names.{shapes_of}
use Rattle.verilog_tree.specs.Shown.{ports_of}
use Rattle.chain_build.specs.Built.{kind_of}
use Rattle.mr_values.specs.Timing.{Group, groups}
use Rattle.verilog_tree.specs.declared.tree.Signal.{Signal}
use Rattle.verilog_tree.specs.Tree.{Design}
use Rattle.verilog_tree.specs.View.{design_view}
use Rattle.verilog_text.specs.Order.{unplaced, IsSameButPlaces}
use Rattle.mr_values.specs.Files.{Files}
use Rattle.mr_values.specs.Host.{HostState}
use Rattle.mr_values.specs.declared.host.HostCall.TheVariants.{OpenInput, Next, OpenOutput, Put}
use Rattle.command_files.specs.declared.fault.CommandFault.{CommandFault}
use Rattle.command_files.specs.declared.fault.CommandFault.TheVariants.{HostFault, Memory}
use Rattle.command_files.specs.declared.fault.WriteFault.{WriteFault}
use Rattle.command_files.specs.declared.fault.WriteFault.TheVariants as writing
use Rattle.command_files.specs.Conversions.{fault_of_writing, result_of_writing}
use Rattle.command_files.specs.Reading.{IsReadPlan}
use Rattle.command_files.proofs.EndedPlan.{ended_of}
use Rattle.mr_values.specs.declared.plan.Plan.{Plan}
use Rattle.command_files.specs.WholeFiles.{WriteAnswer, IsEmptied, HoldsFront, HoldsPart}
use Rattle.std.specs.Prelude.{All, unsigned_abs}
use Rattle.mr_values.specs.declared.plan.Element.{Element}
use Rattle.mr_values.specs.Value.{size, val, has_clip, IsWithinLimits}
use Rattle.plan_check.specs.declared.facts.Facts.{Facts}
use Rattle.plan_check.specs.Accepted.{AreFacts}
use Rattle.plan_check.specs.Amounts.{RoundingError, error_after_all, no_error}
use Rattle.plan_laws.specs.Laws.{plain}
use Rattle.plan_laws.proofs.Errors.{bound_holds}
use Rattle.plan_laws.proofs.Passes.{passes_of}
use Rattle.chain_build.specs.Built.{are_built}
use Rattle.command_files.specs.declared.accept.AcceptedPlan.{AcceptedPlan}
use Rattle.command_files.specs.PlanFile.{IsAcceptedFile, AreReadToEnd}
use Rattle.command_files.specs.Reading.{IsAcceptedPlan}
use Rattle.plan_commands.specs.Compile.{IsBounded, AreOutputs, CompileEnds}

-- the reported bound holds
bounded_by : (w t : ℕ) (elements : List Element) (facts : Facts) → All IsWithinLimits elements → AreFacts w t elements facts → IsBounded elements facts
bounded_by w t elements facts limits are bound some xs n = by (has_clip elements) refl (sym some ∙ are.bound_is)
  where
    error : RoundingError
    error = error_after_all (groups elements) no_error

    by : (clips : Bool) → has_clip elements ≡ clips → Some bound ≡ (if clips then None else Some error.bound) → unsigned_abs (pos (2 ^ facts.shift) *ℤ val elements xs n -ℤ val (plain elements) xs n) ≤ bound
    by true is none = absurd (cc)
    by false is at =
        let same : error.bound ≡ bound = cc in
        rw are.shift_is (subst (λ (most : ℕ). unsigned_abs (pos (2 ^ error.shift) *ℤ val elements xs n -ℤ val (plain elements) xs n) ≤ most) same (bound_holds elements limits is xs n))

-- ---- the report is that of the module that is read

same_registers : (d e : Design) → IsSameButPlaces d e → (extremes : ℕ → Option (ℕ × ℤ)) (ss : List Signal) → register_lines d extremes (map unplaced ss) ≡ register_lines e extremes ss
same_registers d e same extremes [] = refl
same_registers d e same extremes (s ∷ ss) = rw (same.same_names, same_registers d e same extremes ss) refl

unplaced_registers : (d : Design) (extremes : ℕ → Option (ℕ × ℤ)) (ss : List Signal) → register_lines d extremes (map unplaced ss) ≡ register_lines d extremes ss
unplaced_registers d extremes [] = refl
unplaced_registers d extremes (s ∷ ss) = ap (λ (rest : List ℕ). register_line d extremes s ++ rest) (unplaced_registers d extremes ss)

same_groups : (d e : Design) → IsSameButPlaces d e → (number : ℕ) (gs : List Group) → group_lines number gs d ≡ group_lines number gs e
same_groups d e same number [] = refl
same_groups d e same number (g ∷ gs) = λ i. group_line number (kind_of g) (same_counts d e same number i) ++ same_groups d e same (number + 1) gs i

same_report : (facts : Facts) (gs : List Group) (d e : Design) → IsSameButPlaces d e → (extremes : ℕ → Option (ℕ × ℤ)) → report_text facts gs d extremes ≡ report_text facts gs e extremes
same_report facts gs d e same extremes =
    ap (λ (bits : ℕ). plan_lines facts bits ++ group_lines 1 gs d ++ register_lines d extremes d.signals) (same_output d e same)
    ∙ ap (λ (lines : List ℕ). plan_lines facts ((shapes_of e).width (ports_of e).out_data) ++ lines ++ register_lines d extremes d.signals) (same_groups d e same 1 gs)
    ∙ ap (λ (lines : List ℕ). plan_lines facts ((shapes_of e).width (ports_of e).out_data) ++ group_lines 1 gs e ++ lines)
    (sym (unplaced_registers d extremes d.signals) ∙ ap (register_lines d extremes) same.same_signals ∙ same_registers d e same extremes e.signals)

-- these lines are the report, whatever the groups are of which the costs are told
pub record IsReportOf (facts : Facts) (chain : ChainModule) (lines : List ℕ) : Type 0 where
  pub told : (gs : List Group) → TellCosts 1 gs chain.costs.items (design_view chain.design) → TellsOutput chain.output (design_view chain.design) → lines ≡ report_text facts gs (design_view chain.design) (told_at chain.extremes.items)

-- a text and a report of a plan that is built
pub outputs_of : (plan : List ℕ) (files : Files) (text lines : List ℕ) (accepted : AcceptedPlan) → IsAcceptedFile plan files accepted.plan → IsAcceptedPlan accepted → are_built accepted.plan.elements ≡ true
    → (chain : ChainModule) → IsChainModule accepted.plan.elements (size accepted.plan.width) (size accepted.plan.ticks) accepted.facts.latency accepted.facts.period chain
    → IsTextWritten text (design_view chain.design) → IsReportOf accepted.facts chain lines → AreOutputs plan files text lines
outputs_of plan files text lines accepted file_is is_plan built chain is_chain written reported = record {
  built = record { plan = accepted.plan; accepted = file_is; built = built };
  facts = accepted.facts;
  are_facts = is_plan.are_facts;
  shows = record { design = written.design; reads = written.reads; only = written.only; is_module = is_chain.is_module written.design written.same };
  extremes = told_at chain.extremes.items;
  tells = is_chain.extremes written.design written.same;
  lines = reported.told (groups accepted.plan.elements) is_chain.costs (is_chain.output written.design written.same ∙ same_output written.design (design_view chain.design) written.same)
      ∙ sym (same_report accepted.facts (groups accepted.plan.elements) written.design (design_view chain.design) written.same (told_at chain.extremes.items));
  bounded = bounded_by (size accepted.plan.width) (size accepted.plan.ticks) accepted.plan.elements accepted.facts ((passes_of accepted.plan is_plan.passes).limits.elements) is_plan.are_facts;
}

-- the write of TEXT failed
pub first_write : (plan text report : List ℕ) (text_bytes report_bytes : List ℕ) (fault : WriteFault) (old read new : HostState) → AreOutputs plan old.files text_bytes report_bytes → read.files ≡ old.files
    → WriteAnswer text text_bytes (Err fault) read.files new.files → CompileEnds plan text report (Err (fault_of_writing fault)) old new
first_write plan text report text_bytes report_bytes (writing.HostFault OpenInput) old read new outputs files answer = absurd answer
first_write plan text report text_bytes report_bytes (writing.HostFault Next) old read new outputs files answer = absurd answer
first_write plan text report text_bytes report_bytes (writing.HostFault OpenOutput) old read new outputs files answer = (text_bytes, report_bytes, outputs, inl (subst (λ before. IsEmptied text before new.files) files answer))
first_write plan text report text_bytes report_bytes (writing.HostFault Put) old read new outputs files answer = (text_bytes, report_bytes, outputs, inl (subst (λ before. HoldsFront text text_bytes before new.files) files answer))
first_write plan text report text_bytes report_bytes writing.Memory old read new outputs files answer = inr (text_bytes, report_bytes, outputs, inl (subst (λ before. HoldsPart text text_bytes before new.files) files answer))

-- REPORT is written after TEXT
pub last_write : (plan text report : List ℕ) (text_bytes report_bytes : List ℕ) (result : Result (Unit {0}) WriteFault) (meaning : Plan) (old middle new : HostState) → AreOutputs plan old.files text_bytes report_bytes → IsReadPlan plan meaning old new
    → middle.files ≡ insert old.files text text_bytes → WriteAnswer report report_bytes result middle.files new.files → CompileEnds plan text report (result_of_writing result) old new
last_write plan text report text_bytes report_bytes (Ok done) meaning old middle new outputs read is_written answer = record {
  text_bytes = text_bytes;
  report_bytes = report_bytes;
  outputs = outputs;
  ended = ended_of plan meaning outputs.built.plan old new read outputs.built.accepted.says;
  written = answer ∙ ap (λ files. insert files report report_bytes) is_written;
}
last_write plan text report text_bytes report_bytes (Err (writing.HostFault OpenInput)) meaning old middle new outputs read is_written answer = absurd answer
last_write plan text report text_bytes report_bytes (Err (writing.HostFault Next)) meaning old middle new outputs read is_written answer = absurd answer
last_write plan text report text_bytes report_bytes (Err (writing.HostFault OpenOutput)) meaning old middle new outputs read is_written answer = (text_bytes, report_bytes, outputs, inr (subst (λ before. IsEmptied report before new.files) is_written answer))
last_write plan text report text_bytes report_bytes (Err (writing.HostFault Put)) meaning old middle new outputs read is_written answer = (text_bytes, report_bytes, outputs, inr (subst (λ before. HoldsFront report report_bytes before new.files) is_written answer))
last_write plan text report text_bytes report_bytes (Err writing.Memory) meaning old middle new outputs read is_written answer = inr (text_bytes, report_bytes, outputs, inr (subst (λ before. HoldsPart report report_bytes before new.files) is_written answer))
