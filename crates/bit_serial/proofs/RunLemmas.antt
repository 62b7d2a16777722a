-- The table of a run while the copies are shifted.
use Rattle.std.proofs.Common.{◌-◌, pos, arith, ap}
use Rattle.std.proofs.lemmas.Int.{ints}
use Rattle.bit_serial.specs.Bits.{bit_of, shifted}
use Rattle.bit_serial.specs.Runs.{EntryLaw}
use Rattle.bit_serial.proofs.BitLemmas.{shifted_law}
use Rattle.bit_serial.proofs.SerialLemmas.{weighted_sum-below}
use Rattle.bit_serial.proofs.TableLemmas.{chosen_law}

pub entry_law : EntryLaw
entry_law w cut keeps taps x j h on shows =
    let bits = chosen_law taps (pos 0) on (λ k. bit_of (w - 1) (shifted cut j (x k))) shows in
    let same = weighted_sum-below taps (λ k. pos (bit_of (w - 1) (shifted cut j (x k)))) (λ k. pos (bit_of (w - 1 - j) (x k))) (λ k inside. ap pos (shifted_law w cut keeps j (x k) h)) in
    omega (arith, ints, bits, same)
