-- The classes of a chain's indices, and how far its values reach, group by group.
use Rattle.std.proofs.Common.{◌≡◌, ◌∙◌, ℕ, zero, suc, ◌+◌, ◌-◌, ◌*◌, ◌/◌, ◌%◌, ◌<◌, refl, sym, ap, arith, List, [], ◌∷◌, length, ℤ, None, Some}
use Rattle.std.proofs.lemmas.Nat.{div-add-mod', mod_below, div_below}
use Rattle.mr_values.specs.declared.plan.Element.{Element}
use Rattle.mr_values.specs.declared.plan.Element.TheVariants.{Up, Down, Filter, CicDown, CicUp, Round, Clip}
use Rattle.mr_values.specs.declared.plan.Form.{Form}
use Rattle.mr_values.specs.Timing.{Group, Fir, DownCic, UpCic, Rounding, Clipping, ceil_div, groups, join_up, join_filter, up_factor, down_factor}
use Rattle.mr_values.specs.Value.{size}
use Rattle.plan_check.specs.Costs.{memory_of, gcd_to, gcd}
use Rattle.impulse_phase.specs.Reach.{Extent, extent_after, extent_after_all, extent}
use Rattle.impulse_phase.specs.Response.{Cycle, cycle_after, cycle_after_all, full_cycle, AreLinear}

-- the classes and the samples of a round of them; the factors so far, and how many samples a value depends on
pub record Measure : Type 0 where
  pub classes : ℕ
  pub step : ℕ
  pub up : ℕ
  pub down : ℕ
  pub reach : ℕ

abbrev pub measure_of : Cycle → Extent → Measure
measure_of p x = record { classes = p.classes; step = p.step; up = x.up; down = x.down; reach = x.reach }

abbrev pub raised : ℕ → Measure → Measure
raised factor m = record { classes = m.classes * factor; step = m.step; up = m.up * factor; down = m.down; reach = m.reach }

abbrev pub thinned : ℕ → Measure → Measure
thinned factor m = record { classes = m.classes / gcd m.classes factor; step = factor / gcd m.classes factor * m.step; up = m.up; down = factor * m.down; reach = m.reach }

abbrev pub remembering : ℕ → Measure → Measure
remembering steps m = record { classes = m.classes; step = m.step; up = m.up; down = m.down; reach = m.reach + ceil_div (steps * m.down) m.up }

abbrev pub measure_after : Group → Measure → Measure
measure_after g m = thinned (down_factor g) (remembering (memory_of g) (raised (up_factor g) m))

abbrev pub measure_all : List Group → Measure → Measure
measure_all [] m = m
measure_all (g ∷ gs) m = measure_all gs (measure_after g m)

abbrev pub at_first : Measure
at_first = record { classes = 1; step = 1; up = 1; down = 1; reach = 1 }

-- ---- what changes nothing

same_measure : (m n : Measure) → m.classes ≡ n.classes → m.step ≡ n.step → m.up ≡ n.up → m.down ≡ n.down → m.reach ≡ n.reach → m ≡ n
same_measure m n classes step up down reach =
    ap (λ (k : ℕ). (let r : Measure = record { classes = k; step = m.step; up = m.up; down = m.down; reach = m.reach } in r)) classes
    ∙ ap (λ (k : ℕ). (let r : Measure = record { classes = n.classes; step = k; up = m.up; down = m.down; reach = m.reach } in r)) step
    ∙ ap (λ (k : ℕ). (let r : Measure = record { classes = n.classes; step = n.step; up = k; down = m.down; reach = m.reach } in r)) up
    ∙ ap (λ (k : ℕ). (let r : Measure = record { classes = n.classes; step = n.step; up = n.up; down = k; reach = m.reach } in r)) down
    ∙ ap (λ (k : ℕ). (let r : Measure = record { classes = n.classes; step = n.step; up = n.up; down = n.down; reach = k } in r)) reach

raised-once : (m : Measure) → raised 1 m ≡ m
raised-once m = same_measure (raised 1 m) m (omega arith) refl (omega arith) refl refl

thinned-once : (m : Measure) → thinned 1 m ≡ m
thinned-once m =
    let whole : m.classes / 1 ≡ m.classes = omega (arith, div-add-mod' m.classes 1, mod_below m.classes 1 (omega arith)) in
    let one : 1 / 1 * m.step ≡ m.step = omega arith in
    let last : m.classes % 1 ≡ 0 = omega (arith, mod_below m.classes 1 (omega arith)) in
    let shared : gcd m.classes 1 ≡ 1 = ap (λ (n : ℕ). gcd_to 1 1 n) last in
    same_measure (thinned 1 m) m (ap (λ (n : ℕ). m.classes / n) shared ∙ whole) (ap (λ (n : ℕ). 1 / n * m.step) shared ∙ one) refl (omega arith) refl

no_steps : (steps down up : ℕ) → 0 < up → steps ≡ 0 → ceil_div (steps * down) up ≡ 0
no_steps steps down up some none =
    let empty : steps * down ≡ 0 = ap (λ (n : ℕ). n * down) none ∙ omega arith in
    let below : ceil_div (steps * down) up < 1 = div_below (steps * down + (up - 1)) up 1 some (omega (arith, empty, some)) in
    omega (arith, below)

remembering-none : (m : Measure) → 0 < m.up → remembering 0 m ≡ m
remembering-none m some = same_measure (remembering 0 m) m refl refl refl refl (let none = no_steps 0 m.down m.up some refl in omega (arith, none))

product-positive : (a b : ℕ) → 0 < a → 0 < b → 0 < a * b
product-positive zero b h k = absurd (omega arith)
product-positive (suc a) b h k = omega arith

-- a group that only raises the rate, one that only filters, and one that only thins out
only_raises : (factor : ℕ) (m : Measure) → 0 < m.up → 0 < factor → thinned 1 (remembering 0 (raised factor m)) ≡ raised factor m
only_raises factor m some positive = thinned-once (remembering 0 (raised factor m)) ∙ remembering-none (raised factor m) (product-positive m.up factor some positive)

only_filters : (steps : ℕ) (m : Measure) → thinned 1 (remembering steps (raised 1 m)) ≡ remembering steps m
only_filters steps m = thinned-once (remembering steps (raised 1 m)) ∙ ap (remembering steps) (raised-once m)

only_thins : (factor : ℕ) (m : Measure) → 0 < m.up → thinned factor (remembering 0 (raised 1 m)) ≡ thinned factor m
only_thins factor m some = ap (thinned factor) (ap (remembering 0) (raised-once m) ∙ remembering-none m some)

-- ---- an element before groups

measure-up : (factor : ℕ) (gs : List Group) (m : Measure) → 0 < m.up → 0 < factor → measure_all (join_up factor gs) m ≡ measure_all gs (raised factor m)
measure-up factor [] m some positive = only_raises factor m some positive
measure-up factor (Fir None f d ∷ gs) m some positive = ap (λ (n : Measure). measure_all gs (thinned (down_factor (Fir None f d)) (remembering (memory_of (Fir None f d)) n))) (sym (raised-once (raised factor m)))
measure-up factor (Fir (Some u) f d ∷ gs) m some positive = ap (measure_all (Fir (Some u) f d ∷ gs)) (only_raises factor m some positive)
measure-up factor (DownCic r n l ∷ gs) m some positive = ap (measure_all (DownCic r n l ∷ gs)) (only_raises factor m some positive)
measure-up factor (UpCic r n l ∷ gs) m some positive = ap (measure_all (UpCic r n l ∷ gs)) (only_raises factor m some positive)
measure-up factor (Rounding s l ∷ gs) m some positive = ap (measure_all (Rounding s l ∷ gs)) (only_raises factor m some positive)
measure-up factor (Clipping bits ∷ gs) m some positive = ap (measure_all (Clipping bits ∷ gs)) (only_raises factor m some positive)

measure-filter : (taps : List ℤ) (form : Form) (gs : List Group) (m : Measure) → 0 < m.up → measure_all (join_filter taps form gs) m ≡ measure_all gs (remembering (length taps - 1) m)
measure-filter taps form [] m some = only_filters (length taps - 1) m
measure-filter taps form (Fir None None d ∷ gs) m some =
    let k = length taps - 1 in
    ap (λ (n : Measure). measure_all gs (thinned (down_factor (Fir None None d)) n))
    (ap (remembering k) (raised-once m) ∙ sym (ap (remembering 0) (raised-once (remembering k m)) ∙ remembering-none (remembering k m) some))
measure-filter taps form (Fir None (Some f) d ∷ gs) m some = ap (measure_all (Fir None (Some f) d ∷ gs)) (only_filters (length taps - 1) m)
measure-filter taps form (Fir (Some u) None d ∷ gs) m some = ap (measure_all (Fir (Some u) None d ∷ gs)) (only_filters (length taps - 1) m)
measure-filter taps form (Fir (Some u) (Some f) d ∷ gs) m some = ap (measure_all (Fir (Some u) (Some f) d ∷ gs)) (only_filters (length taps - 1) m)
measure-filter taps form (DownCic r n l ∷ gs) m some = ap (measure_all (DownCic r n l ∷ gs)) (only_filters (length taps - 1) m)
measure-filter taps form (UpCic r n l ∷ gs) m some = ap (measure_all (UpCic r n l ∷ gs)) (only_filters (length taps - 1) m)
measure-filter taps form (Rounding s l ∷ gs) m some = ap (measure_all (Rounding s l ∷ gs)) (only_filters (length taps - 1) m)
measure-filter taps form (Clipping bits ∷ gs) m some = ap (measure_all (Clipping bits ∷ gs)) (only_filters (length taps - 1) m)

-- ---- elements

measure-from : (es : List Element) (p : Cycle) (x : Extent) → AreLinear es → 0 < x.up → measure_of (cycle_after_all es p) (extent_after_all es x) ≡ measure_all (groups es) (measure_of p x)
measure-from [] p x linear some = refl
measure-from (Up factor ∷ es) p x linear some =
    measure-from es (cycle_after (Up factor) p) (extent_after (Up factor) x) linear.1 (product-positive x.up (size factor) some linear.0)
    ∙ sym (measure-up (size factor) (groups es) (measure_of p x) some linear.0)
measure-from (Down factor ∷ es) p x linear some =
    measure-from es (cycle_after (Down factor) p) (extent_after (Down factor) x) linear.1 some
    ∙ ap (measure_all (groups es)) (sym (only_thins (size factor) (measure_of p x) some))
measure-from (Filter taps form ∷ es) p x linear some =
    measure-from es (cycle_after (Filter taps form) p) (extent_after (Filter taps form) x) linear.1 some
    ∙ sym (measure-filter taps form (groups es) (measure_of p x) some)
measure-from (CicDown factor stages delay ∷ es) p x linear some =
    measure-from es (cycle_after (CicDown factor stages delay) p) (extent_after (CicDown factor stages delay) x) linear.1 some
    ∙ ap (λ (n : Measure). measure_all (groups es) (thinned (size factor) (remembering (size stages * (size factor * size delay - 1)) n))) (sym (raised-once (measure_of p x)))
measure-from (CicUp factor stages delay ∷ es) p x linear some =
    measure-from es (cycle_after (CicUp factor stages delay) p) (extent_after (CicUp factor stages delay) x) linear.1 (product-positive x.up (size factor) some linear.0)
    ∙ ap (measure_all (groups es)) (sym (thinned-once (remembering (size stages * (size factor * size delay - 1)) (raised (size factor) (measure_of p x)))))
measure-from (Round shift mode ∷ es) p x linear some = absurd linear.0
measure-from (Clip bits ∷ es) p x linear some = absurd linear.0

pub measure-is : (es : List Element) → AreLinear es → measure_of (full_cycle es) (extent es) ≡ measure_all (groups es) at_first
measure-is es linear = measure-from es (record { classes = 1; step = 1 }) (record { up = 1; down = 1; slack = 1; reach = 1 }) linear (omega arith)
