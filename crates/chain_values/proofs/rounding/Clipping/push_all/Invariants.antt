use Rattle.std.proofs.Common.{◌≡◌, ◌++◌, map, take}
use Rattle.mr_values.specs.Rounding.{clip_value}
use Rattle.chain_values.proofs.rounding.Clipping.push_all.Given as goal

abbrev pub invariant-loop-value : goal.invariant-loop-value
invariant-loop-value l = l.out.items ≡ l.initial.out.items ++ map (clip_value l.self.bits) (take l.value-index l.values)
