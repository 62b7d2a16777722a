use Rattle.std.proofs.Common.{◌≡◌, List, ℕ, ◌+◌, ◌<◌, suc, length, slice_get, get_or, Some, None, Option, arith, ap, sym, subst, ◌∙◌}
use Rattle.std.proofs.lemmas.Option.{slice_get-get_or}
use Rattle.signed_digit.specs.declared.term_list.Term.{Term}
use Rattle.net_graph.specs.declared.cell.Node.{Node}
use Rattle.net_graph.specs.Cells.{NetView}
use Rattle.net_graph.proofs.NetLemmas.{Extends-trans}
use Rattle.folded_fir.specs.Operands.{AddsOperand}
use Rattle.folded_fir.proofs.OperandLemmas.{AddsOperand-none, AddsOperand-skip, AddsOperand-more, copy_room, shifted_narrow}
use Rattle.folded_fir.proofs.operands.add_operand.Goals as goal
use Rattle.folded_fir.proofs.operands.add_operand.Goals.{in-None, in-Some+in_ok-shifted-in-Some+in_ok-operand-in-Some}

found : (terms : List (Option Term)) (k : ℕ) (t : Term) → k < length terms → get_or terms k None ≡ Some t → slice_get terms k ≡ Some (Some t)
found terms k t inside is = slice_get-get_or terms k None inside ∙ ap (λ (o : Option Term). Some o) is

pub loop-k-init : goal.loop-k-init
loop-k-init c = AddsOperand-none c.args.bits.now c.args.copies.now c.args.up c.args.terms.now c.requires.data_group c.widest-width.ensures.wide.0 c.in_ok-operand.ensures.ok

pub bounds-copies-term : goal.bounds-copies-term
bounds-copies-term c = c.requires.room.reads c.loop-k.k c.in-Some.term (found c.args.terms.now c.loop-k.k c.in-Some.term c.loop-k-test.true c.in-Some.is)

pub scaled-requires-clause-room : goal.scaled-requires-clause-room
scaled-requires-clause-room c = copy_room c.loop-k.k c.in-Some.term c.loop-k.invariant.grows.extends c.requires.copies c.requires.room (found c.args.terms.now c.loop-k.k c.in-Some.term c.loop-k-test.true c.in-Some.is)

pub mux-requires-clause-has_on : goal.mux-requires-clause-has_on
mux-requires-clause-has_on c =
    let here = slice_get-get_or c.args.bits.now c.loop-k.k (record { place = 0 }) (let test = c.loop-k-test.true in let many = c.requires.as_many in omega (arith, test, many)) in
    let within = c.requires.has_bits _ _ here in
    let longer = c.loop-k.invariant.grows.extends.longer in
    let more = c.in_ok-shifted-in-Some.ensures.extends.longer in
    omega (arith, within, longer, more)

pub returns-in_err-operand-in-Some-clause-extends : goal.returns-in_err-operand-in-Some-clause-extends
returns-in_err-operand-in-Some-clause-extends c = rw c.in_err-operand-in-Some.ensures.err (Extends-trans _ _ _ c.loop-k.invariant.grows.extends c.in_ok-shifted-in-Some.ensures.extends)

pub loop-k-preserved : goal.loop-k-preserved
loop-k-preserved c =
    let next : suc c.loop-k.k ≡ c.loop-k.k + 1 = omega arith in
    let inside = c.loop-k-test.true in
    subst (λ (n : ℕ). AddsOperand c.args.net.now c.match-terms-k.net c.args.bits.now c.args.copies.now c.args.up c.args.terms.now n c.widest-width.result c.match-terms-k.operand) next
    (elim c.match-terms-k.branch [
      | in-Some+in_ok-shifted-in-Some+in_ok-operand-in-Some w ↦
          let t = w.in-Some.term in
          let at = found c.args.terms.now c.loop-k.k w.in-Some.term inside w.in-Some.is in
          let bit = slice_get-get_or c.args.bits.now c.loop-k.k (record { place = 0 }) (let many = c.requires.as_many in omega (arith, inside, many)) in
          let narrow = shifted_narrow c.loop-k.k w.in-Some.term c.loop-k.invariant.grows.extends c.requires.copies c.requires.room c.widest-width.ensures.below at w.in_ok-shifted-in-Some.ensures.ok in
          subst (λ (n : NetView). AddsOperand c.args.net.now n c.args.bits.now c.args.copies.now c.args.up c.args.terms.now (suc c.loop-k.k) c.widest-width.result c.match-terms-k.operand) (sym w.net-is)
          (subst (λ (n : Node). AddsOperand c.args.net.now w.mux.new.self c.args.bits.now c.args.copies.now c.args.up c.args.terms.now (suc c.loop-k.k) c.widest-width.result n) (sym w.operand-is)
          (AddsOperand-more c.requires.data_group c.widest-width.ensures.wide.0 bit w.in-Some.is c.loop-k.invariant w.in_ok-shifted-in-Some.ensures.ok narrow w.in_ok-operand-in-Some.ensures.ok (c.requires.room.reads c.loop-k.k w.in-Some.term at)))
      | in-None w ↦
          subst (λ (n : NetView). AddsOperand c.args.net.now n c.args.bits.now c.args.copies.now c.args.up c.args.terms.now (suc c.loop-k.k) c.widest-width.result c.match-terms-k.operand) (sym w.net-is)
          (subst (λ (n : Node). AddsOperand c.args.net.now c.loop-k.net c.args.bits.now c.args.copies.now c.args.up c.args.terms.now (suc c.loop-k.k) c.widest-width.result n) (sym w.operand-is)
          (AddsOperand-skip w.in-None.is c.loop-k.invariant))
    ])
