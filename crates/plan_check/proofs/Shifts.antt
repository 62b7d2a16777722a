-- The shift of all roundings is the sum of their shifts.
use Rattle.std.proofs.Common.{◌≡◌, ℕ, ◌+◌, arith, List, [], ◌∷◌}
use Rattle.mr_values.specs.Timing.{Group, Fir, DownCic, UpCic, Rounding, Clipping}
use Rattle.plan_check.specs.Amounts.{RoundingError, error_after, error_after_all, no_error, shifts_of}

shift-after : (gs : List Group) (e : RoundingError) → (error_after_all gs e).shift ≡ e.shift + shifts_of gs
shift-after [] e = omega arith
shift-after (Fir up filter down ∷ gs) e = omega (arith, shift-after gs (error_after (Fir up filter down) e))
shift-after (DownCic factor stages delay ∷ gs) e = omega (arith, shift-after gs (error_after (DownCic factor stages delay) e))
shift-after (UpCic factor stages delay ∷ gs) e = omega (arith, shift-after gs (error_after (UpCic factor stages delay) e))
shift-after (Rounding shift mode ∷ gs) e = omega (arith, shift-after gs (error_after (Rounding shift mode) e))
shift-after (Clipping bits ∷ gs) e = omega (arith, shift-after gs e)

pub total_shift_is : (gs : List Group) → (error_after_all gs no_error).shift ≡ shifts_of gs
total_shift_is gs = omega (arith, shift-after gs no_error)
