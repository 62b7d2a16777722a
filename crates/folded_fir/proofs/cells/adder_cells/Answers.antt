use Rattle.std.proofs.Common.{◌≡◌, ℕ, suc, length, length-append, arith, subst, sym, Some, slice_get, get_or}
use Rattle.std.proofs.lemmas.Option.{slice_get-get_or, slice_get_within}
use Rattle.folded_fir.specs.declared.cells.Slot.{Slot}
use Rattle.folded_fir.proofs.CellLemmas.{cell_is, AreCellsAt-push}
use Rattle.folded_fir.proofs.cells.adder_cells.Goals as goal

pub loop-slot-preserved : goal.loop-slot-preserved
loop-slot-preserved c =
    let i = c.loop-slot.invariant in
    let x : Slot = get_or c.args.slots.now c.loop-slot.slot-index (record { output = 0; slot = 0 }) in
    let at = slice_get-get_or c.args.slots.now c.loop-slot.slot-index (record { output = 0; slot = 0 }) c.loop-slot-test.true in
    let count : length c.push.new.self.items ≡ suc (length c.loop-slot.cells.items) = rw (c.in_ok-push.ensures.items, length-append) (omega arith) in
    record {
      many = let m = i.many in omega (arith, count, m);
      each = rw c.in_ok-push.ensures.items (AreCellsAt-push c.args.schedule.now c.args.rates.up c.args.rates.down c.args.adder c.args.slots.now c.loop-slot.cells.items c.cell.result x
          (subst (λ (k : ℕ). slice_get c.args.slots.now k ≡ Some x) (sym i.many) at) (cell_is c.args.schedule.now _ c.args.adder _ c.requires.some c.cell.result c.cell.ensures.exact) i.each);
    }

pub returns : goal.returns
returns c =
    let i = c.loop-slot.invariant in
    let end : length c.loop-slot.cells.items ≡ length c.args.slots.now = let test = c.loop-slot-test.false in let auto = c.loop-slot.auto in let m = i.many in omega (arith, test, auto.slot-index-end, m) in
    record { many = end; each = λ k x at. i.each k x (let inside = slice_get_within c.args.slots.now k x at in omega (arith, inside, end)) at }
