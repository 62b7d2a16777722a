use Rattle.std.proofs.Common.{refl, ◌∙◌, subst}
use Rattle.verilog_tree.specs.Checks.{PassesAs}
use Rattle.verilog_tree.specs.Streamed.{stream_face}
use Rattle.verilog_tree.specs.View.{design_view}
use Rattle.verilog_text.proofs.OneReading.{one_design}
use Rattle.reading_laws.proofs.Forming.{writable}
use Rattle.module_reader.proofs.Refusing.{only_memory}
use Rattle.module_reader.proofs.reader.read_stream.Goals as goal

pub returns-in-Err-clause-only : goal.returns-in-Err-clause-only
returns-in-Err-clause-only c = λ d reads passes. c.in-Err.ensures.only d reads

pub new-requires : goal.new-requires
new-requires c = writable {face = stream_face} (record { place = 0; there = refl }) c.args.bytes.now (design_view c.in-Ok.read) c.in-Ok.ensures.found c.in-Ok-check_stream.ensures.passes

pub returns-in-Err-check_stream-clause-only : goal.returns-in-Err-check_stream-clause-only
returns-in-Err-check_stream-clause-only c = λ d reads passes.
    c.refusal_of.ensures
    ∙ only_memory stream_face (design_view c.in-Ok.read) c.in-Err-check_stream.fault c.in-Err-check_stream.ensures.fails (subst (PassesAs stream_face) (one_design c.args.bytes.now d (design_view c.in-Ok.read) reads c.in-Ok.ensures.found) passes)
