use Rattle.folded_fir.specs.Operands.{AddsOperand}
use Rattle.folded_fir.proofs.operands.add_operand.Given as goal

abbrev pub invariant-loop-k : goal.invariant-loop-k
invariant-loop-k l = AddsOperand l.fn.net l.net l.fn.bits l.fn.copies l.fn.up l.fn.terms l.k l.width l.operand
