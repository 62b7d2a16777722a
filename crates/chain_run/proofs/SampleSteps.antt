-- Samples of a row and their bits.
use Rattle.std.proofs.Common.{◌≡◌, ℕ, ◌-◌, ◌≤◌, ◌<◌, ◌^◌, Bool, true, false, cond, Ok, Err, ℤ, pos, negsuc, refl, subst, arith}
use Rattle.std.specs.Prelude.{unsigned_abs}
use Rattle.std.proofs.lemmas.Int.{ints}
use Rattle.std.proofs.lemmas.Nat.{pow_below}
use Rattle.mr_values.specs.Width.{FitsWidth}
use Rattle.sample_file.specs.declared.fault.LineFault.TheVariants.{OutOfRange}
use Rattle.sample_file.specs.declared.row.Row.{Row}
use Rattle.sample_file.specs.Fields.{is_held}
use Rattle.sample_file.specs.Ranges.{sample_of, value_at}
use Rattle.sample_file.proofs.RangeSteps.{held-fits_width}

pub sample-fits : (w : ℕ) (row : Row) (x : ℤ) → Ok x ≡ sample_of w row → FitsWidth w x
sample-fits w row x is = by (is_held w (value_at row 0)) refl is
  where
    by : (b : Bool) → is_held w (value_at row 0) ≡ b → Ok x ≡ cond b (Ok (value_at row 0)) (Err (OutOfRange row.line)) → FitsWidth w x
    by true held same = let equal : value_at row 0 ≡ x = cc in subst (FitsWidth w) equal (held-fits_width w (value_at row 0) held)
    by false held same = absurd (cc)

pub sample-small : (w : ℕ) (x : ℤ) → 1 ≤ w → FitsWidth w x → unsigned_abs x < 2 ^ w
sample-small w (pos n) some fits =
    let high = fits.high in
    let below : 2 ^ (w - 1) < 2 ^ w = pow_below (w - 1) w (omega arith) in omega (arith, ints)
sample-small w (negsuc n) some fits =
    let low = fits.low in
    let below : 2 ^ (w - 1) < 2 ^ w = pow_below (w - 1) w (omega arith) in omega (arith, ints)
