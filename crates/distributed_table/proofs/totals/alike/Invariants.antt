use Rattle.std.proofs.Common.{◌≡◌, ℕ, ◌<◌, length, get_or}
use Rattle.distributed_table.proofs.totals.alike.Given as goal

abbrev pub invariant-loop-place : goal.invariant-loop-place
invariant-loop-place l = record {
  many : length l.widths.items ≡ l._place;
  each : (k : ℕ) → k < length l.widths.items → get_or l.widths.items k 0 ≡ l.fn.width;
}
