use Rattle.std.proofs.Common.{◌≡◌, map, take}
use Rattle.fir_pieces.specs.declared.held.Held.{Held}
use Rattle.fir_pieces.proofs.widths.widths_of.Given as goal

abbrev pub invariant-loop-own : goal.invariant-loop-own
invariant-loop-own l = l.widths.items ≡ map (λ (own : Held). own.width) (take l.own-index l.held)
