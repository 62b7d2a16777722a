use Rattle.std.proofs.Common.{◌≡◌, ℕ}
use Rattle.folded_fir.specs.Slots.{ListsSlots}
use Rattle.folded_fir.proofs.cells.push_slots.Given as goal

abbrev pub invariant-loop-slot : goal.invariant-loop-slot
invariant-loop-slot l = (used : ℕ → ℕ) → used l.fn.output ≡ l.fn.count → ListsSlots used l.fn.output 0 l.fn.slots.items → ListsSlots used l.fn.output l.slot l.slots.items
