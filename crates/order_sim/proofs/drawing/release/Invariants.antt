use Rattle.std.proofs.Common.{◌≡◌, ◌+◌, ◌≤◌, ℕ, Bool, length, get_or, drop}
use Rattle.order_sim.specs.Drawing.{times, AreFlagged, AreUndone}
use Rattle.order_sim.proofs.drawing.release.Given as goal

abbrev pub invariant-loop-place : goal.invariant-loop-place
invariant-loop-place l = record {
  sizes : length l.flags ≡ length l.waiting;
  many : length l.waiting ≡ length l.initial.waiting;
  enough : (k : ℕ) → times (drop l.place-index l.places) k ≤ get_or l.waiting k 0;
  room : l.set ≤ l.count + l.place-index;
  down : (k : ℕ) → get_or l.waiting k 0 + times l.places k ≡ get_or l.initial.waiting k 0 + times (drop l.place-index l.places) k;
  flagged : (done : ℕ → Bool) → AreFlagged done l.initial.waiting l.initial.flags l.count → AreUndone done l.places → AreFlagged done l.waiting l.flags l.set;
}
