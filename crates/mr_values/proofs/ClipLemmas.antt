-- Clipping.
use Rattle.std.proofs.Common.{◌-◌, pos, negsuc, arith, ap}
use Rattle.std.proofs.lemmas.Int.{ints}
use Rattle.std.proofs.lemmas.Nat.{pow_pos}
use Rattle.mr_values.specs.RoundingLaws.{ClipLaw, ClipFitsLaw, ClipRisesLaw, ClipSmallLaw, ClipZeroLaw}

pub clip_law : ClipLaw
clip_law b (pos n) =
    let some = pow_pos (b - 1) in
    record { low = λ h. absurd (omega (arith, ints)); high = λ h. ap pos (omega (arith, ints)); fitting = λ f. ap pos (let h = f.high in omega (arith, ints)) }
clip_law b (negsuc n) =
    let some = pow_pos (b - 1) in
    record { low = λ h. omega (arith, ints); high = λ h. absurd (omega (arith, ints)); fitting = λ f. ap negsuc (let h = f.low in omega (arith, ints)) }

pub clip_fits : ClipFitsLaw
clip_fits b (pos n) = let some = pow_pos (b - 1) in record { low = omega (arith, ints); high = omega (arith, ints) }
clip_fits b (negsuc n) = let some = pow_pos (b - 1) in record { low = omega (arith, ints); high = omega (arith, ints) }

pub clip_rises : ClipRisesLaw
clip_rises b (pos m) (pos n) h = omega (arith, ints)
clip_rises b (pos m) (negsuc n) h = absurd (omega (arith, ints))
clip_rises b (negsuc m) (pos n) h = omega (arith, ints)
clip_rises b (negsuc m) (negsuc n) h = omega (arith, ints)

pub clip_small : ClipSmallLaw
clip_small b (pos n) = omega arith
clip_small b (negsuc n) = let some = pow_pos (b - 1) in omega arith

pub clip_zero : ClipZeroLaw
clip_zero b = omega (arith, ints)
