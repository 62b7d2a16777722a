-- The first group of a list of elements.
use Rattle.std.proofs.Common.{◌≡◌, ℕ, suc, ◌+◌, ◌≤◌, refl, ap, arith, List, [], ◌∷◌, length, get_or, zero, ◌<◌, ◌^◌, Option, None, Some, ℤ, pos, negsuc, neg_ℤ, ◌≤ℤ◌}
use Rattle.std.specs.Prelude.{All, unwrap_or}
use Rattle.std.proofs.lemmas.Int.{ints}
use Rattle.mr_values.specs.declared.plan.Element.{Element}
use Rattle.mr_values.specs.declared.plan.Element.TheVariants.{Up, Down, Filter, CicDown, CicUp, Round, Clip}
use Rattle.mr_values.specs.declared.plan.Form.{Form}
use Rattle.mr_values.specs.declared.plan.Mode.{Mode}
use Rattle.mr_values.specs.Value.{size, IsWithinLimits, IsFromOne, AreTaps, IsForm}
use Rattle.mr_values.specs.Timing.{Group, Fir, DownCic, UpCic, Rounding, Clipping, groups, join_up, join_filter, taps_of, form_of}
use Rattle.plan_check.specs.Groups.{present, size_of, leading_up, past_up, leading_filter, past_filter, leading_down, past_down, BeginsFir, IsCic, IsSplit, IsFactor}

-- ---- what joins

join_filter-filter : (taps others : List ℤ) (form other : Form) (gs : List Group) → join_filter taps form (join_filter others other gs) ≡ Fir None (Some (taps, form)) None ∷ join_filter others other gs
join_filter-filter taps others form other [] = refl
join_filter-filter taps others form other (Fir None None down ∷ gs) = refl
join_filter-filter taps others form other (Fir None (Some f) down ∷ gs) = refl
join_filter-filter taps others form other (Fir (Some up) None down ∷ gs) = refl
join_filter-filter taps others form other (Fir (Some up) (Some f) down ∷ gs) = refl
join_filter-filter taps others form other (DownCic factor stages delay ∷ gs) = refl
join_filter-filter taps others form other (UpCic factor stages delay ∷ gs) = refl
join_filter-filter taps others form other (Rounding shift mode ∷ gs) = refl
join_filter-filter taps others form other (Clipping bits ∷ gs) = refl

join_filter-up : (taps : List ℤ) (form : Form) (factor : ℕ) (gs : List Group) → join_filter taps form (join_up factor gs) ≡ Fir None (Some (taps, form)) None ∷ join_up factor gs
join_filter-up taps form factor [] = refl
join_filter-up taps form factor (Fir None filter down ∷ gs) = refl
join_filter-up taps form factor (Fir (Some up) filter down ∷ gs) = refl
join_filter-up taps form factor (DownCic other stages delay ∷ gs) = refl
join_filter-up taps form factor (UpCic other stages delay ∷ gs) = refl
join_filter-up taps form factor (Rounding shift mode ∷ gs) = refl
join_filter-up taps form factor (Clipping bits ∷ gs) = refl

join_up-up : (factor other : ℕ) (gs : List Group) → join_up factor (join_up other gs) ≡ Fir (Some factor) None None ∷ join_up other gs
join_up-up factor other [] = refl
join_up-up factor other (Fir None filter down ∷ gs) = refl
join_up-up factor other (Fir (Some up) filter down ∷ gs) = refl
join_up-up factor other (DownCic third stages delay ∷ gs) = refl
join_up-up factor other (UpCic third stages delay ∷ gs) = refl
join_up-up factor other (Rounding shift mode ∷ gs) = refl
join_up-up factor other (Clipping bits ∷ gs) = refl

-- a Filter, and the Down after it
join_filter-groups : (taps : List ℤ) (form : Form) (es : List Element) → join_filter taps form (groups es) ≡ Fir None (Some (taps, form)) (leading_down es) ∷ groups (past_down es)
join_filter-groups taps form [] = refl
join_filter-groups taps form (Up factor ∷ es) = join_filter-up taps form (size factor) (groups es)
join_filter-groups taps form (Down factor ∷ es) = refl
join_filter-groups taps form (Filter others other ∷ es) = join_filter-filter taps others form other (groups es)
join_filter-groups taps form (CicDown factor stages delay ∷ es) = refl
join_filter-groups taps form (CicUp factor stages delay ∷ es) = refl
join_filter-groups taps form (Round shift mode ∷ es) = refl
join_filter-groups taps form (Clip bits ∷ es) = refl

-- an Up, and the Filter and the Down after it
join_up-groups : (factor : ℕ) (es : List Element) → join_up factor (groups es) ≡ Fir (Some factor) (leading_filter es) (leading_down (past_filter es)) ∷ groups (past_down (past_filter es))
join_up-groups factor [] = refl
join_up-groups factor (Up other ∷ es) = join_up-up factor (size other) (groups es)
join_up-groups factor (Down other ∷ es) = refl
join_up-groups factor (Filter taps form ∷ es) = ap (join_up factor) (join_filter-groups taps form es)
join_up-groups factor (CicDown other stages delay ∷ es) = refl
join_up-groups factor (CicUp other stages delay ∷ es) = refl
join_up-groups factor (Round shift mode ∷ es) = refl
join_up-groups factor (Clip bits ∷ es) = refl

abbrev pub fir_of : List Element → Group
fir_of es = Fir (leading_up es) (leading_filter (past_up es)) (leading_down (past_filter (past_up es)))

abbrev pub past_fir : List Element → List Element
past_fir es = past_down (past_filter (past_up es))

pub groups-fir : (es : List Element) → BeginsFir es → groups es ≡ fir_of es ∷ groups (past_fir es)
groups-fir [] h = absurd h
groups-fir (Up factor ∷ es) h = join_up-groups (size factor) es
groups-fir (Filter taps form ∷ es) h = join_filter-groups taps form es
groups-fir (Down factor ∷ es) h = refl
groups-fir (CicDown factor stages delay ∷ es) h = absurd h
groups-fir (CicUp factor stages delay ∷ es) h = absurd h
groups-fir (Round shift mode ∷ es) h = absurd h
groups-fir (Clip bits ∷ es) h = absurd h

-- ---- how many elements

length-past_up : (es : List Element) → length es ≡ present (leading_up es) + length (past_up es)
length-past_up [] = refl
length-past_up (Up factor ∷ es) = omega arith
length-past_up (Down factor ∷ es) = omega arith
length-past_up (Filter taps form ∷ es) = omega arith
length-past_up (CicDown factor stages delay ∷ es) = omega arith
length-past_up (CicUp factor stages delay ∷ es) = omega arith
length-past_up (Round shift mode ∷ es) = omega arith
length-past_up (Clip bits ∷ es) = omega arith

length-past_filter : (es : List Element) → length es ≡ present (leading_filter es) + length (past_filter es)
length-past_filter [] = refl
length-past_filter (Up factor ∷ es) = omega arith
length-past_filter (Down factor ∷ es) = omega arith
length-past_filter (Filter taps form ∷ es) = omega arith
length-past_filter (CicDown factor stages delay ∷ es) = omega arith
length-past_filter (CicUp factor stages delay ∷ es) = omega arith
length-past_filter (Round shift mode ∷ es) = omega arith
length-past_filter (Clip bits ∷ es) = omega arith

length-past_down : (es : List Element) → length es ≡ present (leading_down es) + length (past_down es)
length-past_down [] = refl
length-past_down (Up factor ∷ es) = omega arith
length-past_down (Down factor ∷ es) = omega arith
length-past_down (Filter taps form ∷ es) = omega arith
length-past_down (CicDown factor stages delay ∷ es) = omega arith
length-past_down (CicUp factor stages delay ∷ es) = omega arith
length-past_down (Round shift mode ∷ es) = omega arith
length-past_down (Clip bits ∷ es) = omega arith

pub some-fir : (es : List Element) → BeginsFir es → 1 ≤ size_of (fir_of es)
some-fir [] h = absurd h
some-fir (Up factor ∷ es) h = omega arith
some-fir (Filter taps form ∷ es) h = omega arith
some-fir (Down factor ∷ es) h = omega arith
some-fir (CicDown factor stages delay ∷ es) h = absurd h
some-fir (CicUp factor stages delay ∷ es) h = absurd h
some-fir (Round shift mode ∷ es) h = absurd h
some-fir (Clip bits ∷ es) h = absurd h

pub length-fir : (es : List Element) → length es ≡ size_of (fir_of es) + length (past_fir es)
length-fir es = omega (arith, length-past_up es, length-past_filter (past_up es), length-past_down (past_filter (past_up es)))

-- ---- limits

pub size_low : (most : ℕ) (z : ℤ) → IsFromOne most z → 1 ≤ size z
size_low most (pos n) h = omega (arith, ints, h.0)
size_low most (negsuc n) h = absurd (omega (arith, ints, h.0))

pub size_high : (most : ℕ) (z : ℤ) → IsFromOne most z → size z ≤ most
size_high most (pos n) h = omega (arith, ints, h.1)
size_high most (negsuc n) h = omega arith

head_limits : (e : Element) (es : List Element) → All IsWithinLimits (e ∷ es) → IsWithinLimits e
head_limits e es h = h 0 e (omega arith)

pub tail_limits : (e : Element) (es : List Element) → All IsWithinLimits (e ∷ es) → All IsWithinLimits es
tail_limits e es h = λ k d below. h (suc k) d (omega arith)

pub limits-past_up : (es : List Element) → All IsWithinLimits es → All IsWithinLimits (past_up es)
limits-past_up [] h = h
limits-past_up (Up factor ∷ es) h = tail_limits (Up factor) es h
limits-past_up (Down factor ∷ es) h = h
limits-past_up (Filter taps form ∷ es) h = h
limits-past_up (CicDown factor stages delay ∷ es) h = h
limits-past_up (CicUp factor stages delay ∷ es) h = h
limits-past_up (Round shift mode ∷ es) h = h
limits-past_up (Clip bits ∷ es) h = h

pub limits-past_filter : (es : List Element) → All IsWithinLimits es → All IsWithinLimits (past_filter es)
limits-past_filter [] h = h
limits-past_filter (Up factor ∷ es) h = h
limits-past_filter (Down factor ∷ es) h = h
limits-past_filter (Filter taps form ∷ es) h = tail_limits (Filter taps form) es h
limits-past_filter (CicDown factor stages delay ∷ es) h = h
limits-past_filter (CicUp factor stages delay ∷ es) h = h
limits-past_filter (Round shift mode ∷ es) h = h
limits-past_filter (Clip bits ∷ es) h = h

limits-past_down : (es : List Element) → All IsWithinLimits es → All IsWithinLimits (past_down es)
limits-past_down [] h = h
limits-past_down (Up factor ∷ es) h = h
limits-past_down (Down factor ∷ es) h = tail_limits (Down factor) es h
limits-past_down (Filter taps form ∷ es) h = h
limits-past_down (CicDown factor stages delay ∷ es) h = h
limits-past_down (CicUp factor stages delay ∷ es) h = h
limits-past_down (Round shift mode ∷ es) h = h
limits-past_down (Clip bits ∷ es) h = h

one_factor : IsFactor 1
one_factor = (omega arith, omega arith)

factor-up : (es : List Element) → All IsWithinLimits es → IsFactor (unwrap_or (leading_up es) 1)
factor-up [] h = one_factor
factor-up (Up factor ∷ es) h = let f = head_limits (Up factor) es h in (size_low 4096 factor f, size_high 4096 factor f)
factor-up (Down factor ∷ es) h = one_factor
factor-up (Filter taps form ∷ es) h = one_factor
factor-up (CicDown factor stages delay ∷ es) h = one_factor
factor-up (CicUp factor stages delay ∷ es) h = one_factor
factor-up (Round shift mode ∷ es) h = one_factor
factor-up (Clip bits ∷ es) h = one_factor

factor-down : (es : List Element) → All IsWithinLimits es → IsFactor (unwrap_or (leading_down es) 1)
factor-down [] h = one_factor
factor-down (Up factor ∷ es) h = one_factor
factor-down (Down factor ∷ es) h = let f = head_limits (Down factor) es h in (size_low 4096 factor f, size_high 4096 factor f)
factor-down (Filter taps form ∷ es) h = one_factor
factor-down (CicDown factor stages delay ∷ es) h = one_factor
factor-down (CicUp factor stages delay ∷ es) h = one_factor
factor-down (Round shift mode ∷ es) h = one_factor
factor-down (Clip bits ∷ es) h = one_factor

one_tap : AreTaps (pos 1 ∷ [])
one_tap = (omega arith, omega arith, λ k d below. at k d below)
  where
    at : (k : ℕ) (d : ℤ) → k < 1 → (neg_ℤ (pos (2 ^ 62)) ≤ℤ get_or (pos 1 ∷ []) k d) × (get_or (pos 1 ∷ []) k d ≤ℤ pos (2 ^ 62))
    at zero d below = (omega (arith, ints), omega (arith, ints))
    at (suc k) d below = absurd (omega arith)

abbrev IsFiltered : Option (List ℤ × Form) → Type 0
IsFiltered filter = AreTaps (taps_of filter) × IsForm (form_of filter)

filtered : (es : List Element) → All IsWithinLimits es → IsFiltered (leading_filter es)
filtered [] h = (one_tap, tt)
filtered (Up factor ∷ es) h = (one_tap, tt)
filtered (Down factor ∷ es) h = (one_tap, tt)
filtered (Filter taps form ∷ es) h = head_limits (Filter taps form) es h
filtered (CicDown factor stages delay ∷ es) h = (one_tap, tt)
filtered (CicUp factor stages delay ∷ es) h = (one_tap, tt)
filtered (Round shift mode ∷ es) h = (one_tap, tt)
filtered (Clip bits ∷ es) h = (one_tap, tt)

-- ---- splits

pub IsSplit-fir : (es : List Element) → BeginsFir es → All IsWithinLimits es → IsSplit es (fir_of es) (past_fir es)
IsSplit-fir es begins h =
    let after_up = limits-past_up es h in
    let after_filter = limits-past_filter (past_up es) after_up in
    let up = factor-up es h in
    let filter = filtered (past_up es) after_up in
    let down = factor-down (past_filter (past_up es)) after_filter in
    record {
      parts = groups-fir es begins;
      size = length-fir es;
      some = some-fir es begins;
      within = record { up_low = up.0; up_high = up.1; filter_taps = filter.0; filter_form = filter.1; down_low = down.0; down_high = down.1 };
      limits = limits-past_down (past_filter (past_up es)) after_filter;
    }

IsCic-from : (factor stages delay : ℤ) → IsFromOne 4096 factor × IsFromOne 8 stages × IsFromOne 2 delay → IsCic (size factor) (size stages) (size delay)
IsCic-from factor stages delay h = record {
  factor_low = size_low 4096 factor h.0;
  factor_high = size_high 4096 factor h.0;
  stages_low = size_low 8 stages h.1;
  stages_high = size_high 8 stages h.1;
  delay_low = size_low 2 delay h.2;
  delay_high = size_high 2 delay h.2;
}

pub IsSplit-cic_down : (factor stages delay : ℤ) (es : List Element) → All IsWithinLimits (CicDown factor stages delay ∷ es) → IsSplit (CicDown factor stages delay ∷ es) (DownCic (size factor) (size stages) (size delay)) es
IsSplit-cic_down factor stages delay es h = record {
  parts = refl;
  size = omega arith;
  some = omega arith;
  within = IsCic-from factor stages delay (head_limits (CicDown factor stages delay) es h);
  limits = tail_limits (CicDown factor stages delay) es h;
}

pub IsSplit-cic_up : (factor stages delay : ℤ) (es : List Element) → All IsWithinLimits (CicUp factor stages delay ∷ es) → IsSplit (CicUp factor stages delay ∷ es) (UpCic (size factor) (size stages) (size delay)) es
IsSplit-cic_up factor stages delay es h = record {
  parts = refl;
  size = omega arith;
  some = omega arith;
  within = IsCic-from factor stages delay (head_limits (CicUp factor stages delay) es h);
  limits = tail_limits (CicUp factor stages delay) es h;
}

pub IsSplit-round : (shift : ℤ) (mode : Mode) (es : List Element) → All IsWithinLimits (Round shift mode ∷ es) → IsSplit (Round shift mode ∷ es) (Rounding (size shift) mode) es
IsSplit-round shift mode es h = record {
  parts = refl;
  size = omega arith;
  some = omega arith;
  within = (size_low 64 shift (head_limits (Round shift mode) es h), size_high 64 shift (head_limits (Round shift mode) es h));
  limits = tail_limits (Round shift mode) es h;
}

pub IsSplit-clip : (bits : ℤ) (es : List Element) → All IsWithinLimits (Clip bits ∷ es) → IsSplit (Clip bits ∷ es) (Clipping (size bits)) es
IsSplit-clip bits es h = record {
  parts = refl;
  size = omega arith;
  some = omega arith;
  within = size_between bits (head_limits (Clip bits) es h);
  limits = tail_limits (Clip bits) es h;
}
  where
    size_between : (z : ℤ) → (pos 2 ≤ℤ z) × (z ≤ℤ pos 64) → (2 ≤ size z) × (size z ≤ 64)
    size_between (pos n) within = (omega (arith, ints, within.0), omega (arith, ints, within.1))
    size_between (negsuc n) within = absurd (omega (arith, ints, within.0))

-- the same, from what a look at the first element tells
pub split-cic_down : (es : List Element) (e : Element) (rest : List Element) (factor stages delay : ℤ) (f s d : ℕ) → es ≡ e ∷ rest → e ≡ CicDown factor stages delay → f ≡ size factor → s ≡ size stages → d ≡ size delay → All IsWithinLimits es → IsSplit es (DownCic f s d) rest
split-cic_down es e rest factor stages delay f s d is first isf iss isd h = rw (is, first, isf, iss, isd) (IsSplit-cic_down factor stages delay rest (rw (is, first) at h))

pub split-cic_up : (es : List Element) (e : Element) (rest : List Element) (factor stages delay : ℤ) (f s d : ℕ) → es ≡ e ∷ rest → e ≡ CicUp factor stages delay → f ≡ size factor → s ≡ size stages → d ≡ size delay → All IsWithinLimits es → IsSplit es (UpCic f s d) rest
split-cic_up es e rest factor stages delay f s d is first isf iss isd h = rw (is, first, isf, iss, isd) (IsSplit-cic_up factor stages delay rest (rw (is, first) at h))

pub split-round : (es : List Element) (e : Element) (rest : List Element) (shift : ℤ) (mode : Mode) (n : ℕ) → es ≡ e ∷ rest → e ≡ Round shift mode → n ≡ size shift → All IsWithinLimits es → IsSplit es (Rounding n mode) rest
split-round es e rest shift mode n is first isn h = rw (is, first, isn) (IsSplit-round shift mode rest (rw (is, first) at h))

pub split-clip : (es : List Element) (e : Element) (rest : List Element) (bits : ℤ) (n : ℕ) → es ≡ e ∷ rest → e ≡ Clip bits → n ≡ size bits → All IsWithinLimits es → IsSplit es (Clipping n) rest
split-clip es e rest bits n is first isn h = rw (is, first, isn) (IsSplit-clip bits rest (rw (is, first) at h))
