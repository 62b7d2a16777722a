use Rattle.std.proofs.Common.{◌≡◌, refl, ℕ, suc, length, length-append, get_or, sym, ◌∙◌, ap, arith, subst, List, Option}
use Rattle.net_graph.proofs.NetLemmas.{Extends-trans}
use Rattle.signed_digit.specs.declared.term_list.Term.{Term}
use Rattle.folded_fir.specs.Operands.{HaveRoom}
use Rattle.folded_fir.proofs.SumLemmas.{AddsOperand-as, AddsSums-push, AreCellsAt-as, AreCopies-later, terms_room}
use Rattle.folded_fir.proofs.sums.add_sums.Goals as goal

pub add_operand-requires-clause-copies : goal.add_operand-requires-clause-copies
add_operand-requires-clause-copies c = AreCopies-later c.loop-adder.invariant.extends c.requires.copies

pub add_operand-requires-clause-room : goal.add_operand-requires-clause-room
add_operand-requires-clause-room c =
    subst (λ (ts : List (Option Term)). HaveRoom c.loop-adder.net.cells c.args.copies.now c.args.plan.now.rates.up ts) (sym c.as_slice-in-loop-adder-2.ensures.value)
    (terms_room (record { fold = c.args.plan.now.schedule; up = c.args.plan.now.rates.up; down = c.args.plan.now.rates.down; slots = c.args.plan.now.slots.items }) c.loop-adder.invariant.extends c.requires.copies c.requires.room
    (AreCellsAt-as c.as_slice.ensures.value refl c.in_ok-cells.ensures))

pub returns-in_err-operand-clause-extends : goal.returns-in_err-operand-clause-extends
returns-in_err-operand-clause-extends c = Extends-trans _ _ _ c.loop-adder.invariant.extends c.in_err-operand.ensures.extends

pub returns-in_err-sum-clause-extends : goal.returns-in_err-sum-clause-extends
returns-in_err-sum-clause-extends c = Extends-trans _ _ _ c.loop-adder.invariant.extends (Extends-trans _ _ _ c.in_ok-operand.ensures.extends c.in_err-sum.ensures.extends)

pub returns-in_err-push-clause-extends : goal.returns-in_err-push-clause-extends
returns-in_err-push-clause-extends c = Extends-trans _ _ _ c.loop-adder.invariant.extends (Extends-trans _ _ _ c.in_ok-operand.ensures.extends c.in_ok-sum.ensures.extends)

pub loop-adder-preserved : goal.loop-adder-preserved
loop-adder-preserved c =
    let i = c.loop-adder.invariant in
    let count : length c.push.new.self.items ≡ suc (length c.loop-adder.sums.items) = rw (c.in_ok-push.ensures.items, length-append) (omega arith) in
    let cells = AreCellsAt-as c.as_slice.ensures.value (sym i.many) c.in_ok-cells.ensures in
    let operand = AddsOperand-as c.as_slice-in-loop-adder.ensures.value c.as_slice-in-loop-adder-2.ensures.value c.in_ok-operand.ensures.ok.1 in
    record {
      many = let m = i.many in omega (arith, count, m);
      extends = Extends-trans _ _ _ i.extends (Extends-trans _ _ _ c.in_ok-operand.ensures.extends c.in_ok-sum.ensures.extends);
      group = c.in_ok-sum.ensures.group ∙ c.in_ok-operand.ensures.group ∙ i.group;
      sums = rw c.in_ok-push.ensures.items (AddsSums-push c.requires.data_group (ap (λ (k : ℕ). get_or c.args.widths.now k 0) i.many) i.sums cells operand c.in_ok-sum.ensures.ok);
    }
