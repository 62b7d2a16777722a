use Rattle.std.proofs.Common.{refl, ◌∙◌, subst}
use Rattle.verilog_tree.specs.Checks.{Passes, filter_face}
use Rattle.verilog_tree.specs.View.{design_view}
use Rattle.verilog_text.proofs.OneReading.{one_design}
use Rattle.reading_laws.proofs.Forming.{writable}
use Rattle.module_reader.proofs.Refusing.{only_memory}
use Rattle.module_reader.proofs.reader.read_text.Goals as goal

pub returns-in-Err-clause-only : goal.returns-in-Err-clause-only
returns-in-Err-clause-only c = λ d reads passes. c.in-Err.ensures.only d reads

pub new-requires : goal.new-requires
new-requires c = writable {face = filter_face} (record { place = 0; there = refl }) c.args.bytes.now (design_view c.in-Ok.read) c.in-Ok.ensures.found c.in-Ok-check.ensures.passes

pub returns-in-Err-check-clause-only : goal.returns-in-Err-check-clause-only
returns-in-Err-check-clause-only c = λ d reads passes.
    c.refusal_of.ensures
    ∙ only_memory filter_face (design_view c.in-Ok.read) c.in-Err-check.fault c.in-Err-check.ensures.fails (subst Passes (one_design c.args.bytes.now d (design_view c.in-Ok.read) reads c.in-Ok.ensures.found) passes)
