use Rattle.std.proofs.Common.{◌≡◌, ◌+◌, ◌*◌, ◌^◌, ◌≤◌, drop}
use Rattle.plan_check.specs.Amounts.{rises, falls}
use Rattle.plan_check.proofs.amounts.sums_of.Given as goal

abbrev pub invariant-loop-tap : goal.invariant-loop-tap
invariant-loop-tap l = record {
  above : l.rises + rises (drop l.tap-index l.taps) ≡ rises l.taps;
  below : l.falls + falls (drop l.tap-index l.taps) ≡ falls l.taps;
  few_above : l.rises ≤ 2 ^ 63 * l.tap-index;
  few_below : l.falls ≤ 2 ^ 63 * l.tap-index;
}
