-- The span of a plan, element by element.
use Rattle.std.proofs.Common.{◌≡◌, ◌∙◌, ℕ, ◌*◌, ◌^◌, refl, sym, ap, arith, List, [], ◌∷◌, ℤ, pos, ◌+ℤ◌, ◌*ℤ◌, None, Some}
use Rattle.std.proofs.lemmas.Int.{ints}
use Rattle.mr_values.specs.declared.plan.Element.{Element}
use Rattle.mr_values.specs.declared.plan.Element.TheVariants.{Up, Down, Filter, CicDown, CicUp, Round, Clip}
use Rattle.mr_values.specs.declared.plan.Form.{Form}
use Rattle.mr_values.specs.Value.{size, round_value}
use Rattle.mr_values.specs.Rounding.{clip_value}
use Rattle.mr_values.specs.Timing.{Group, Fir, DownCic, UpCic, Rounding, Clipping, groups, join_up, join_filter, Stream, after, after_all, low_end, high_end, low_after, high_after}

pub record Ends : Type 0 where
  pub low : ℤ
  pub high : ℤ

abbrev pub ends_of : Stream → Ends
ends_of s = record { low = s.low; high = s.high }

abbrev pub ends_after : Group → Ends → Ends
ends_after g e = record { low = low_after g e.low e.high; high = high_after g e.low e.high }

abbrev pub ends_after_all : List Group → Ends → Ends
ends_after_all [] e = e
ends_after_all (g ∷ gs) e = ends_after_all gs (ends_after g e)

pub ends-stream : (gs : List Group) (s : Stream) → ends_of (after_all gs s) ≡ ends_after_all gs (ends_of s)
ends-stream [] s = refl
ends-stream (g ∷ gs) s = ends-stream gs (after g s)

-- through one element
abbrev pub ends_past : Element → Ends → Ends
ends_past (Up factor) e = e
ends_past (Down factor) e = e
ends_past (Filter taps form) e = record { low = low_end taps e.low e.high; high = high_end taps e.low e.high }
ends_past (CicDown factor stages delay) e = record { low = pos ((size factor * size delay) ^ size stages) *ℤ e.low; high = pos ((size factor * size delay) ^ size stages) *ℤ e.high }
ends_past (CicUp factor stages delay) e = record { low = pos ((size factor * size delay) ^ size stages) *ℤ e.low; high = pos ((size factor * size delay) ^ size stages) *ℤ e.high }
ends_past (Round shift mode) e = record { low = round_value mode (size shift) e.low; high = round_value mode (size shift) e.high }
ends_past (Clip bits) e = record { low = clip_value (size bits) e.low; high = clip_value (size bits) e.high }

-- ---- a group without a filter keeps the ends

one_term : (z : ℤ) → pos 1 *ℤ z +ℤ pos 0 ≡ z
one_term z = omega (arith, ints)

kept : (e : Ends) → record { low = pos 1 *ℤ e.low +ℤ pos 0; high = pos 1 *ℤ e.high +ℤ pos 0 } ≡ e
kept e = ap (λ (z : ℤ). record { low = z; high = pos 1 *ℤ e.high +ℤ pos 0 }) (one_term e.low) ∙ ap (λ (z : ℤ). record { low = e.low; high = z }) (one_term e.high)

ends-join_up : (factor : ℕ) (gs : List Group) (e : Ends) → ends_after_all (join_up factor gs) e ≡ ends_after_all gs e
ends-join_up factor [] e = kept e
ends-join_up factor (Fir None filter down ∷ gs) e = refl
ends-join_up factor (Fir (Some up) filter down ∷ gs) e = ap (ends_after_all (Fir (Some up) filter down ∷ gs)) (kept e)
ends-join_up factor (DownCic other stages delay ∷ gs) e = ap (ends_after_all (DownCic other stages delay ∷ gs)) (kept e)
ends-join_up factor (UpCic other stages delay ∷ gs) e = ap (ends_after_all (UpCic other stages delay ∷ gs)) (kept e)
ends-join_up factor (Rounding shift mode ∷ gs) e = ap (ends_after_all (Rounding shift mode ∷ gs)) (kept e)
ends-join_up factor (Clipping bits ∷ gs) e = ap (ends_after_all (Clipping bits ∷ gs)) (kept e)

ends-join_filter : (taps : List ℤ) (form : Form) (gs : List Group) (e : Ends) → ends_after_all (join_filter taps form gs) e ≡ ends_after_all gs (ends_past (Filter taps form) e)
ends-join_filter taps form [] e = refl
ends-join_filter taps form (Fir None None down ∷ gs) e = sym (ap (ends_after_all gs) (kept (ends_past (Filter taps form) e)))
ends-join_filter taps form (Fir None (Some f) down ∷ gs) e = refl
ends-join_filter taps form (Fir (Some up) None down ∷ gs) e = refl
ends-join_filter taps form (Fir (Some up) (Some f) down ∷ gs) e = refl
ends-join_filter taps form (DownCic other stages delay ∷ gs) e = refl
ends-join_filter taps form (UpCic other stages delay ∷ gs) e = refl
ends-join_filter taps form (Rounding shift mode ∷ gs) e = refl
ends-join_filter taps form (Clipping bits ∷ gs) e = refl

pub ends-element : (el : Element) (es : List Element) (e : Ends) → ends_after_all (groups (el ∷ es)) e ≡ ends_after_all (groups es) (ends_past el e)
ends-element (Up factor) es e = ends-join_up (size factor) (groups es) e
ends-element (Down factor) es e = ap (ends_after_all (groups es)) (kept e)
ends-element (Filter taps form) es e = ends-join_filter taps form (groups es) e
ends-element (CicDown factor stages delay) es e = refl
ends-element (CicUp factor stages delay) es e = refl
ends-element (Round shift mode) es e = refl
ends-element (Clip bits) es e = refl
