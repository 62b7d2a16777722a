use Rattle.std.proofs.Common.{◌≡◌, ℕ, ◌+◌, ◌<◌, suc, arith, subst, sym, List}
use Rattle.folded_fir.specs.declared.cells.Slot.{Slot}
use Rattle.folded_fir.specs.Slots.{ListsSlots}
use Rattle.folded_fir.proofs.CellLemmas.{ListsSlots-push, ListsSlots-next}
use Rattle.folded_fir.proofs.cells.push_slots.Goals as goal

pub loop-slot-preserved : goal.loop-slot-preserved
loop-slot-preserved c used is before =
    let less : c.loop-slot.slot < used c.args.output = let test = c.loop-slot-test.true in omega (arith, is, test) in
    let next : suc c.loop-slot.slot ≡ c.loop-slot.slot + 1 = omega arith in
    subst (λ (n : ℕ). ListsSlots used c.args.output n c.push.new.self.items) next
    (subst (λ (xs : List Slot). ListsSlots used c.args.output (suc c.loop-slot.slot) xs) (sym c.in_ok-push.ensures.items) (ListsSlots-push used c.args.output c.loop-slot.slot c.loop-slot.slots.items less (c.loop-slot.invariant used is before)))

pub returns : goal.returns
returns c used is before =
    let end : c.loop-slot.slot ≡ used c.args.output = let test = c.loop-slot-test.false in let auto = c.loop-slot.auto in omega (arith, is, test, auto.slot-end) in
    ListsSlots-next used c.args.output c.loop-slot.slots.items (subst (λ (n : ℕ). ListsSlots used c.args.output n c.loop-slot.slots.items) end (c.loop-slot.invariant used is before))
