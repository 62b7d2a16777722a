-- The peak bounds every value of a chain.
use Rattle.std.proofs.Common.{ℕ, zero, suc, ◌-◌, ◌^◌, ◌≤◌, sym, arith, subst, List, [], ◌∷◌, ℤ, pos, negsuc, neg_ℤ, ◌≤ℤ◌, None, Some}
use Rattle.std.specs.Prelude.{All, unsigned_abs}
use Rattle.std.proofs.lemmas.Int.{ints}
use Rattle.mr_values.specs.declared.plan.Element.{Element}
use Rattle.mr_values.specs.declared.plan.Element.TheVariants.{Up, Down, Filter, CicDown, CicUp, Round, Clip}
use Rattle.mr_values.specs.declared.plan.Form.{Form}
use Rattle.mr_values.specs.Value.{size, IsWithinLimits}
use Rattle.mr_values.specs.Timing.{Group, Fir, DownCic, UpCic, Rounding, Clipping, groups, join_up, join_filter, input, last_stream}
use Rattle.plan_check.specs.Amounts.{peak_after}
use Rattle.plan_check.proofs.GroupSplit.{size_low, tail_limits}
use Rattle.plan_check.proofs.Narrow.{IsWithin, HasShift, within-after}
use Rattle.plan_laws.specs.Laws.{IsBetween, peak_after_all, PeakHolds}
use Rattle.plan_laws.proofs.Ends.{Ends, ends_of, ends_after, ends_after_all, ends-stream}
use Rattle.plan_laws.proofs.Spans.{within-values}

-- each rounding has a shift
abbrev pub HaveShifts : List Group → Type 0
HaveShifts [] = Unit {0}
HaveShifts (g ∷ gs) = HasShift g × HaveShifts gs

shifts-join_up : (factor : ℕ) (gs : List Group) → HaveShifts gs → HaveShifts (join_up factor gs)
shifts-join_up factor [] h = (tt, tt)
shifts-join_up factor (Fir None filter down ∷ gs) h = (tt, h.1)
shifts-join_up factor (Fir (Some up) filter down ∷ gs) h = (tt, h)
shifts-join_up factor (DownCic other stages delay ∷ gs) h = (tt, h)
shifts-join_up factor (UpCic other stages delay ∷ gs) h = (tt, h)
shifts-join_up factor (Rounding shift mode ∷ gs) h = (tt, h)
shifts-join_up factor (Clipping bits ∷ gs) h = (tt, h)

shifts-join_filter : (taps : List ℤ) (form : Form) (gs : List Group) → HaveShifts gs → HaveShifts (join_filter taps form gs)
shifts-join_filter taps form [] h = (tt, tt)
shifts-join_filter taps form (Fir None None down ∷ gs) h = (tt, h.1)
shifts-join_filter taps form (Fir None (Some f) down ∷ gs) h = (tt, h)
shifts-join_filter taps form (Fir (Some up) None down ∷ gs) h = (tt, h)
shifts-join_filter taps form (Fir (Some up) (Some f) down ∷ gs) h = (tt, h)
shifts-join_filter taps form (DownCic other stages delay ∷ gs) h = (tt, h)
shifts-join_filter taps form (UpCic other stages delay ∷ gs) h = (tt, h)
shifts-join_filter taps form (Rounding shift mode ∷ gs) h = (tt, h)
shifts-join_filter taps form (Clipping bits ∷ gs) h = (tt, h)

pub have_shifts : (es : List Element) → All IsWithinLimits es → HaveShifts (groups es)
have_shifts [] h = tt
have_shifts (Up factor ∷ es) h = shifts-join_up (size factor) (groups es) (have_shifts es (tail_limits (Up factor) es h))
have_shifts (Down factor ∷ es) h = (tt, have_shifts es (tail_limits (Down factor) es h))
have_shifts (Filter taps form ∷ es) h = shifts-join_filter taps form (groups es) (have_shifts es (tail_limits (Filter taps form) es h))
have_shifts (CicDown factor stages delay ∷ es) h = (tt, have_shifts es (tail_limits (CicDown factor stages delay) es h))
have_shifts (CicUp factor stages delay ∷ es) h = (tt, have_shifts es (tail_limits (CicUp factor stages delay) es h))
have_shifts (Round shift mode ∷ es) h = (size_low 64 shift (h 0 (Round shift mode) (omega arith)), have_shifts es (tail_limits (Round shift mode) es h))
have_shifts (Clip bits ∷ es) h = (tt, have_shifts es (tail_limits (Clip bits) es h))

within-all : (gs : List Group) (peak : ℕ) (e : Ends) → HaveShifts gs → IsWithin peak e.low e.high → IsWithin (peak_after_all gs peak) (ends_after_all gs e).low (ends_after_all gs e).high
within-all [] peak e shifts h = h
within-all (g ∷ gs) peak e shifts h = within-all gs (peak_after g peak) (ends_after g e) shifts.1 (within-after g peak e.low e.high shifts.0 h)

lowest : (n : ℕ) → unsigned_abs (neg_ℤ (pos n)) ≤ n
lowest zero = omega arith
lowest (suc n) = omega arith

-- a number between two of no greater magnitude
below-peak : (peak : ℕ) (low high z : ℤ) → IsWithin peak low high → IsBetween low high z → unsigned_abs z ≤ peak
below-peak peak low high (pos n) h b = at high h.high_within b.greatest
  where
    at : (high : ℤ) → unsigned_abs high ≤ peak → pos n ≤ℤ high → n ≤ peak
    at (pos m) p q = omega (arith, ints)
    at (negsuc m) p q = absurd (omega (arith, ints))
below-peak peak low high (negsuc n) h b = at low h.low_within b.least
  where
    at : (low : ℤ) → unsigned_abs low ≤ peak → low ≤ℤ negsuc n → suc n ≤ peak
    at (pos m) p q = absurd (omega (arith, ints))
    at (negsuc m) p q = omega (arith, ints)

pub peak_holds : (width : ℕ) (elements : List Element) → 1 ≤ width → All IsWithinLimits elements → PeakHolds width elements
peak_holds width elements some limits xs n fit =
    let start : IsWithin (2 ^ (width - 1)) (input width 1).low (input width 1).high = record { low_within = lowest (2 ^ (width - 1)); high_within = omega arith } in
    let all = within-all (groups elements) (2 ^ (width - 1)) (ends_of (input width 1)) (have_shifts elements limits) start in
    let ends = ends-stream (groups elements) (input width 1) in
    let last : IsWithin (peak_after_all (groups elements) (2 ^ (width - 1))) (last_stream width 1 elements).low (last_stream width 1 elements).high =
    subst (λ (f : Ends). IsWithin (peak_after_all (groups elements) (2 ^ (width - 1))) f.low f.high) (sym ends) all in
    below-peak _ _ _ _ last ((within-values width 1 elements xs limits fit).values n)
