use Rattle.std.proofs.Common.{◌≡◌, map, take}
use Rattle.fir_pieces.specs.declared.held_sums.HeldSums.{HeldSums}
use Rattle.fir_pieces.proofs.columns.sums_widths.Given as goal

abbrev pub invariant-loop-own : goal.invariant-loop-own
invariant-loop-own l = l.widths.items ≡ map (λ (own : HeldSums). own.width) (take l.own-index l.held)
