use Rattle.std.proofs.Common.{sym, ◌∙◌}
use Rattle.verilog_tree.specs.View.{design_view}
use Rattle.verilog_check.specs.Faces.{face_of}
use Rattle.verilog_check.proofs.Passing.{driven_of, declared_of}
use Rattle.verilog_check.proofs.whole.first_fault.Goals as goal

pub first_loop-requires-clause-driven : goal.first_loop-requires-clause-driven
first_loop-requires-clause-driven c = driven_of (face_of c.args.face) (design_view c.args.design.now) (sym c.in_ok-fault.ensures ∙ c.in_default.is)

pub first_loop-requires-clause-declared : goal.first_loop-requires-clause-declared
first_loop-requires-clause-declared c = declared_of (face_of c.args.face) (design_view c.args.design.now) (sym c.in_ok-fault.ensures ∙ c.in_default.is)
