use Rattle.std.proofs.Common.{◌*◌, ◌%◌}
use Rattle.folded_fir.specs.Slots.{ListsSlots, used_in}
use Rattle.folded_fir.proofs.cells.used_slots.Given as goal

abbrev pub invariant-loop-output : goal.invariant-loop-output
invariant-loop-output l = ListsSlots (λ output. used_in l.fn.schedule (output * l.fn.rates.down % l.fn.rates.up)) l.output 0 l.found.items
