use Rattle.std.proofs.Common.{◌≡◌, drop}
use Rattle.noble_rewrite.specs.Rules.{is_zero_off}
use Rattle.noble_rewrite.proofs.rules.is_zero_off.Given as goal

-- the taps pass exactly where those that are left do
abbrev pub invariant-loop-index : goal.invariant-loop-index
invariant-loop-index l = is_zero_off l.factor l.index (drop l.index l.taps) ≡ is_zero_off l.factor 0 l.taps
