use Rattle.std.proofs.Common.{◌≡◌, ◌++◌, drop}
use Rattle.mr_values.specs.Sequence.{phase}
use Rattle.noble_rewrite.proofs.rules.thinned.Given as goal

-- what is kept so far, before what is kept of the taps that are left, is all that is kept
abbrev pub invariant-loop-tap : goal.invariant-loop-tap
invariant-loop-tap l = l.kept.items ++ phase l.factor l.wait (drop l.tap-index l.taps) ≡ phase l.factor 0 l.taps
