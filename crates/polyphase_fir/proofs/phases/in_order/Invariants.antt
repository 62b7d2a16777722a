use Rattle.polyphase_fir.specs.Order.{IsOrder}
use Rattle.polyphase_fir.proofs.phases.in_order.Given as goal

abbrev pub invariant-loop-j : goal.invariant-loop-j
invariant-loop-j l = IsOrder l.roots l.rates.up l.rates.down l.j l.shown.items
