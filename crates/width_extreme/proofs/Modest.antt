-- The responses of an accepted plan's elements, up to its first rounding, have small tables.
use Rattle.std.proofs.Common.{◌≡◌, ◌∙◌, ℕ, zero, suc, ◌+◌, ◌-◌, ◌*◌, ◌/◌, ◌%◌, ◌^◌, ◌<◌, ◌≤◌, refl, sym, ap, arith, subst, mul_assoc, List, [], ◌∷◌, ◌++◌, length, take, ℤ, Option, None, Some}
use Rattle.std.specs.Prelude.{All, unwrap_or}
use Rattle.std.specs.Option.{option_map}
use Rattle.std.proofs.Math.Nat.{mul-le-mul_right, mul_comm}
use Rattle.std.proofs.Math.Seq.{take-append_seam}
use Rattle.std.proofs.lemmas.Nat.{div-add-mod', mod_below, pow_pos}
use Rattle.mr_values.specs.declared.plan.Element.{Element}
use Rattle.mr_values.specs.declared.plan.Element.TheVariants.{Up, Down, Filter, CicDown, CicUp, Round, Clip}
use Rattle.mr_values.specs.declared.plan.Form.{Form}
use Rattle.mr_values.specs.declared.plan.Plan.{Plan}
use Rattle.mr_values.specs.Value.{size, IsWithinLimits}
use Rattle.mr_values.specs.Timing.{Group, Fir, DownCic, UpCic, Rounding, Clipping, groups, join_up, join_filter, up_factor, down_factor, period_after}
use Rattle.plan_check.specs.declared.fault.CostWhich.{CostWhich}
use Rattle.plan_check.specs.declared.fault.CostWhich.TheVariants.{Response as ResponseCost, Cycle as CycleCost}
use Rattle.plan_check.specs.Groups.{size_of, last_of, first_failing}
use Rattle.plan_check.specs.Amounts.{magnitude, gain, rate_test, peak_test, peak_after}
use Rattle.plan_check.specs.Costs.{gcd_to, gcd, Spread, Tally, spread_after, tally_after, over, linear_test, cost_test}
use Rattle.plan_check.specs.Accepted.{IsAccepted, no_tally}
use Rattle.plan_check.proofs.Options.{none_of}
use Rattle.plan_check.proofs.GroupSplit.{size_low, size_high, tail_limits}
use Rattle.plan_laws.proofs.Passes.{passes_of}
use Rattle.impulse_phase.specs.Gain.{gain_after, gain_after_all}
use Rattle.impulse_phase.specs.Reading.{IsModest, AreModest}
use Rattle.impulse_phase.specs.Response.{Cycle, cycle_up, cycle_down, cycle_after, cycle_after_all, full_cycle, IsLinear, AreLinear}
use Rattle.impulse_phase.proofs.Prefix.{common-turns, common-positive_right}
use Rattle.impulse_phase.proofs.Prefixes.{linear_take}
use Rattle.impulse_phase.proofs.Reach.{factor-le}

-- ---- groups whose tables are small

-- the cycle after a group
abbrev turn : Group → Cycle → Cycle
turn g p = cycle_down (down_factor g) (cycle_up (up_factor g) p)

-- the numbers of a group, and of the cycle and the gain after it, that tests bound
record IsBounded (g : Group) (p : Cycle) (most : ℕ) : Type 0 where
  classes : (turn g p).classes ≤ 2 ^ 20
  step : (turn g p).step ≤ 2 ^ 24
  most_after : most * gain g ≤ 2 ^ 125
  down_low : 0 < down_factor g
  down_high : down_factor g ≤ 4096

-- up to the first rounding
abbrev AreBounded : List Group → Cycle → ℕ → Type 0
AreBounded [] p most = Unit {0}
AreBounded (Fir up filter down ∷ gs) p most = IsBounded (Fir up filter down) p most × AreBounded gs (turn (Fir up filter down) p) (most * gain (Fir up filter down))
AreBounded (DownCic factor stages delay ∷ gs) p most = IsBounded (DownCic factor stages delay) p most × AreBounded gs (turn (DownCic factor stages delay) p) (most * gain (DownCic factor stages delay))
AreBounded (UpCic factor stages delay ∷ gs) p most = IsBounded (UpCic factor stages delay) p most × AreBounded gs (turn (UpCic factor stages delay) p) (most * gain (UpCic factor stages delay))
AreBounded (Rounding shift mode ∷ gs) p most = Unit {0}
AreBounded (Clipping bits ∷ gs) p most = Unit {0}

-- a factor of 1 changes nothing
up_once : (p : Cycle) → cycle_up 1 p ≡ p
up_once p = let one : p.classes * 1 ≡ p.classes = omega arith in ap (λ (n : ℕ). record { classes = n; step = p.step }) one

common-one : (n : ℕ) → gcd n 1 ≡ 1
common-one n = let none : n % 1 ≡ 0 = omega (arith, mod_below n 1 (omega arith)) in ap (λ (rest : ℕ). gcd_to 1 1 rest) none

down_once : (p : Cycle) → cycle_down 1 p ≡ p
down_once p =
    let whole : p.classes / 1 ≡ p.classes = omega (arith, div-add-mod' p.classes 1) in
    let steps : 1 / 1 * p.step ≡ p.step = omega arith in
    ap (λ (n : ℕ). record { classes = p.classes / n; step = 1 / n * p.step }) (common-one p.classes)
    ∙ ap (λ (n : ℕ). record { classes = n; step = 1 / 1 * p.step }) whole ∙ ap (λ (n : ℕ). record { classes = p.classes; step = n }) steps

-- ---- a group, taken apart

-- before its Down a group has few classes too
few-before : (g : Group) (p : Cycle) (most : ℕ) → IsBounded g p most → p.classes * up_factor g ≤ 2 ^ 32
few-before g p most h =
    let a = p.classes * up_factor g in
    let m = down_factor g in
    let whole = common-turns a m in
    let some = common-positive_right a m h.down_low in
    let first : 1 * a ≤ m / gcd a m * a = mul-le-mul_right a some in
    let second : a / gcd a m * m ≤ 2 ^ 20 * m = mul-le-mul_right m h.classes in
    omega (arith, whole, first, second, h.down_high)

-- a group that changes no cycle
alone : (gs : List Group) (q : Cycle) (most : ℕ) → AreBounded gs (cycle_down 1 q) (most * 1) → AreBounded gs q most
alone gs q most h =
    let one : most * 1 ≡ most = omega arith in
    subst (AreBounded gs q) one (subst (λ (c : Cycle). AreBounded gs c (most * 1)) (down_once q) h)

-- the groups after an Up
up-bounded : (factor : ℕ) (gs : List Group) (p : Cycle) (most : ℕ) → AreBounded (join_up factor gs) p most → (p.classes * factor ≤ 2 ^ 32) × AreBounded gs (cycle_up factor p) most
up-bounded factor [] p most h = (few-before (Fir (Some factor) None None) p most h.0, tt)
up-bounded factor (Fir None filter down ∷ gs) p most h =
    let once = sym (up_once (cycle_up factor p)) in
    let m = unwrap_or down 1 in
    let g = Fir None filter down in (
      few-before (Fir (Some factor) filter down) p most h.0,
      (
        record {
          classes = subst (λ (q : Cycle). (cycle_down m q).classes ≤ 2 ^ 20) once h.0.classes;
          step = subst (λ (q : Cycle). (cycle_down m q).step ≤ 2 ^ 24) once h.0.step;
          most_after = h.0.most_after;
          down_low = h.0.down_low;
          down_high = h.0.down_high;
        },
        subst (λ (q : Cycle). AreBounded gs (cycle_down m q) (most * gain g)) once h.1,
      ),
    )
up-bounded factor (Fir (Some u) filter down ∷ gs) p most h = (few-before (Fir (Some factor) None None) p most h.0, alone (Fir (Some u) filter down ∷ gs) (cycle_up factor p) most h.1)
up-bounded factor (DownCic r n d ∷ gs) p most h = (few-before (Fir (Some factor) None None) p most h.0, alone (DownCic r n d ∷ gs) (cycle_up factor p) most h.1)
up-bounded factor (UpCic r n d ∷ gs) p most h = (few-before (Fir (Some factor) None None) p most h.0, alone (UpCic r n d ∷ gs) (cycle_up factor p) most h.1)
up-bounded factor (Rounding shift mode ∷ gs) p most h = (few-before (Fir (Some factor) None None) p most h.0, tt)
up-bounded factor (Clipping bits ∷ gs) p most h = (few-before (Fir (Some factor) None None) p most h.0, tt)

-- the groups after a Filter
same_cycle : (p : Cycle) → cycle_down 1 (cycle_up 1 p) ≡ p
same_cycle p = down_once (cycle_up 1 p) ∙ up_once p

filter-bounded : (taps : List ℤ) (form : Form) (gs : List Group) (p : Cycle) (most : ℕ) → AreBounded (join_filter taps form gs) p most
    → (most * magnitude taps ≤ 2 ^ 125) × AreBounded gs p (most * magnitude taps)
filter-bounded taps form [] p most h = (h.0.most_after, tt)
filter-bounded taps form (Fir None None down ∷ gs) p most h =
    let one : most * magnitude taps ≡ most * magnitude taps * 1 = omega arith in (
      h.0.most_after,
      (
        record { classes = h.0.classes; step = h.0.step; most_after = subst (λ (n : ℕ). n ≤ 2 ^ 125) one h.0.most_after; down_low = h.0.down_low; down_high = h.0.down_high },
        subst (AreBounded gs (turn (Fir None None down) p)) one h.1,
      ),
    )
filter-bounded taps form (Fir None (Some f) down ∷ gs) p most h = (h.0.most_after, subst (λ (q : Cycle). AreBounded (Fir None (Some f) down ∷ gs) q (most * magnitude taps)) (same_cycle p) h.1)
filter-bounded taps form (Fir (Some u) filter down ∷ gs) p most h = (h.0.most_after, subst (λ (q : Cycle). AreBounded (Fir (Some u) filter down ∷ gs) q (most * magnitude taps)) (same_cycle p) h.1)
filter-bounded taps form (DownCic r n d ∷ gs) p most h = (h.0.most_after, subst (λ (q : Cycle). AreBounded (DownCic r n d ∷ gs) q (most * magnitude taps)) (same_cycle p) h.1)
filter-bounded taps form (UpCic r n d ∷ gs) p most h = (h.0.most_after, subst (λ (q : Cycle). AreBounded (UpCic r n d ∷ gs) q (most * magnitude taps)) (same_cycle p) h.1)
filter-bounded taps form (Rounding shift mode ∷ gs) p most h = (h.0.most_after, tt)
filter-bounded taps form (Clipping bits ∷ gs) p most h = (h.0.most_after, tt)

-- ---- element by element

record IsSmall (p : Cycle) (most : ℕ) : Type 0 where
  classes : p.classes ≤ 2 ^ 32
  step : p.step ≤ 2 ^ 24
  most_is : most ≤ 2 ^ 125

small-modest : (p : Cycle) (most : ℕ) → IsSmall p most → IsModest p most
small-modest p most h = record { classes = h.classes; step = omega (arith, h.step); gain = omega (arith, h.most_is) }

-- after a group, in the order in which elements write it
after_down : (m : ℕ) (g : Group) (p : Cycle) (most gained : ℕ) (gs : List Group) → turn g p ≡ cycle_down m (cycle_up 1 p) → most * gain g ≡ gained → IsBounded g p most → AreBounded gs (turn g p) (most * gain g)
    → IsSmall (cycle_down m p) gained × AreBounded gs (cycle_down m p) gained
after_down m g p most gained gs is product h rest =
    let same : turn g p ≡ cycle_down m p = is ∙ ap (cycle_down m) (up_once p) in (
      record {
        classes = omega (arith, h.classes, ap (λ (q : Cycle). q.classes) same);
        step = omega (arith, h.step, ap (λ (q : Cycle). q.step) same);
        most_is = omega (arith, h.most_after, product);
      },
      subst (AreBounded gs (cycle_down m p)) product (subst (λ (q : Cycle). AreBounded gs q (most * gain g)) same rest),
    )

after_up : (factor : ℕ) (g : Group) (p : Cycle) (most gained : ℕ) (gs : List Group) → turn g p ≡ cycle_down 1 (cycle_up factor p) → most * gain g ≡ gained → IsBounded g p most → AreBounded gs (turn g p) (most * gain g)
    → IsSmall (cycle_up factor p) gained × AreBounded gs (cycle_up factor p) gained
after_up factor g p most gained gs is product h rest =
    let same : turn g p ≡ cycle_up factor p = is ∙ down_once (cycle_up factor p) in (
      record {
        classes = omega (arith, h.classes, ap (λ (q : Cycle). q.classes) same);
        step = omega (arith, h.step, ap (λ (q : Cycle). q.step) same);
        most_is = omega (arith, h.most_after, product);
      },
      subst (AreBounded gs (cycle_up factor p)) product (subst (λ (q : Cycle). AreBounded gs q (most * gain g)) same rest),
    )

element-small : (e : Element) (es : List Element) (p : Cycle) (most : ℕ) → IsLinear e → IsSmall p most → AreBounded (groups (e ∷ es)) p most
    → IsSmall (cycle_after e p) (gain_after e most) × AreBounded (groups es) (cycle_after e p) (gain_after e most)
element-small (Up factor) es p most linear small h =
    let parts = up-bounded (size factor) (groups es) p most h in
    (record { classes = parts.0; step = small.step; most_is = small.most_is }, parts.1)
element-small (Down factor) es p most linear small h =
    let one : most * 1 ≡ most = omega arith in
    after_down (size factor) (Fir None None (Some (size factor))) p most most (groups es) refl one h.0 h.1
element-small (Filter taps form) es p most linear small h =
    let parts = filter-bounded taps form (groups es) p most h in
    let product = mul_comm most (magnitude taps) in
    (record { classes = small.classes; step = small.step; most_is = subst (λ (n : ℕ). n ≤ 2 ^ 125) product parts.0 }, subst (AreBounded (groups es) p) product parts.1)
element-small (CicDown factor stages delay) es p most linear small h =
    let product = mul_comm most ((size factor * size delay) ^ size stages) in
    after_down (size factor) (DownCic (size factor) (size stages) (size delay)) p most ((size factor * size delay) ^ size stages * most) (groups es) refl product h.0 h.1
element-small (CicUp factor stages delay) es p most linear small h =
    let product = mul_comm most ((size factor * size delay) ^ size stages) in
    after_up (size factor) (UpCic (size factor) (size stages) (size delay)) p most ((size factor * size delay) ^ size stages * most) (groups es) refl product h.0 h.1
element-small (Round shift mode) es p most linear small h = absurd linear
element-small (Clip bits) es p most linear small h = absurd linear

elements-modest : (es : List Element) (p : Cycle) (most k : ℕ) → AreLinear (take k es) → IsSmall p most → AreBounded (groups es) p most
    → IsModest (cycle_after_all (take k es) p) (gain_after_all (take k es) most)
elements-modest es p most zero linear small h = small-modest p most small
elements-modest [] p most (suc k) linear small h = small-modest p most small
elements-modest (e ∷ es) p most (suc k) linear small h =
    let next = element-small e es p most linear.0 small h in
    elements-modest es (cycle_after e p) (gain_after e most) k linear.1 next.0 next.1

-- ---- what the tests say of a group

cancel : (a b c : ℕ) → a * c ≡ b * c → 0 < c → a ≡ b
cancel a b c e some = omega (arith, factor-le a b c (omega (arith, e)) some, factor-le b a c (omega (arith, e)) some)

-- the samples of a round take as long as its indices
balance : (c k a m n u p q s t : ℕ) → c * m ≡ k * a → a ≡ n * u → q * u ≡ p * m → n * p ≡ s * t → c * q * u ≡ k * s * t * u
balance c k a m n u p q s t turns is rate even =
    mul_assoc c q u ∙ ap (λ (x : ℕ). c * x) (rate ∙ mul_comm p m) ∙ sym (mul_assoc c m p) ∙ ap (λ (x : ℕ). x * p) turns
    ∙ ap (λ (x : ℕ). k * x * p) (is ∙ mul_comm n u)
    ∙ ap (λ (x : ℕ). x * p) (sym (mul_assoc k u n)) ∙ mul_assoc (k * u) n p ∙ ap (λ (x : ℕ). k * u * x) even
    ∙ mul_assoc k u (s * t) ∙ ap (λ (x : ℕ). k * x) (mul_comm u (s * t)) ∙ sym (mul_assoc k (s * t) u) ∙ ap (λ (x : ℕ). x * u) (sym (mul_assoc k s t))

whole-quotient : (n t most : ℕ) → 0 < t → n * t / t ≤ most → n ≤ most
whole-quotient n t most some h =
    let split = div-add-mod' (n * t) t in
    let rest = mod_below (n * t) t some in
    let next : n * t < (n * t / t + 1) * t = omega (arith, split, rest) in
    by_gap (n - most) refl next
  where
    by_gap : (d : ℕ) → n - most ≡ d → n * t < (n * t / t + 1) * t → n ≤ most
    by_gap zero e next = omega arith
    by_gap (suc d) e next =
        let over : n * t / t + 1 ≤ n = omega arith in
        absurd (omega (arith, next, let more : (n * t / t + 1) * t ≤ n * t = mul-le-mul_right t over in more))

record IsGroupNext (ticks : ℕ) (g : Group) (p : Cycle) (s : Spread) (period : ℕ) : Type 0 where
  same : (spread_after ticks g period s).classes ≡ (turn g p).classes
  some : 1 ≤ (spread_after ticks g period s).reach
  even : (turn g p).classes * period_after g period ≡ (turn g p).step * ticks

group-next : (ticks : ℕ) (g : Group) (p : Cycle) (s : Spread) (period : ℕ) → 0 < up_factor g → s.classes ≡ p.classes → 1 ≤ s.reach → p.classes * period ≡ p.step * ticks
    → period_after g period * up_factor g ≡ period * down_factor g → IsGroupNext ticks g p s period
group-next ticks g p s period has_up same some even rate =
    let a = p.classes * up_factor g in
    let m = down_factor g in
    let first = ap (λ (n : ℕ). n * up_factor g / gcd (n * up_factor g) m) same in
    record {
      same = first;
      some = omega (arith, some);
      even = cancel ((turn g p).classes * period_after g period) ((turn g p).step * ticks) (up_factor g)
          (balance (a / gcd a m) (m / gcd a m) a m p.classes (up_factor g) period (period_after g period) p.step ticks (common-turns a m) refl rate even) has_up;
    }

over-passes : (element : ℕ) (which : CostWhich) (value most : ℕ) → over element which value most ≡ None → value ≤ most
over-passes element which value most e = grind arith

peak-passes : (first peak : ℕ) (g : Group) → peak_test first peak g ≡ None → peak_after g peak ≤ 2 ^ 125
peak-passes first peak g e = grind arith

rate-passes : (first period : ℕ) (g : Group) → 0 < up_factor g → rate_test first period g ≡ None → period_after g period * up_factor g ≡ period * down_factor g
rate-passes first period g some e =
    let rest : period * down_factor g % up_factor g ≡ 0 = grind arith in
    omega (arith, rest, div-add-mod' (period * down_factor g) (up_factor g))

-- ---- the groups of elements within their limits

record IsSmallGroup (g : Group) : Type 0 where
  up_low : 0 < up_factor g
  down_low : 0 < down_factor g
  down_high : down_factor g ≤ 4096

abbrev AreSmallGroups : List Group → Type 0
AreSmallGroups [] = Unit {0}
AreSmallGroups (g ∷ gs) = IsSmallGroup g × AreSmallGroups gs

small-up : (factor : ℕ) (gs : List Group) → 0 < factor → AreSmallGroups gs → AreSmallGroups (join_up factor gs)
small-up factor [] some h = (record { up_low = some; down_low = omega arith; down_high = omega arith }, tt)
small-up factor (Fir None filter down ∷ gs) some h = (record { up_low = some; down_low = h.0.down_low; down_high = h.0.down_high }, h.1)
small-up factor (Fir (Some u) filter down ∷ gs) some h = (record { up_low = some; down_low = omega arith; down_high = omega arith }, h)
small-up factor (DownCic r n d ∷ gs) some h = (record { up_low = some; down_low = omega arith; down_high = omega arith }, h)
small-up factor (UpCic r n d ∷ gs) some h = (record { up_low = some; down_low = omega arith; down_high = omega arith }, h)
small-up factor (Rounding shift mode ∷ gs) some h = (record { up_low = some; down_low = omega arith; down_high = omega arith }, h)
small-up factor (Clipping bits ∷ gs) some h = (record { up_low = some; down_low = omega arith; down_high = omega arith }, h)

small-filter : (taps : List ℤ) (form : Form) (gs : List Group) → AreSmallGroups gs → AreSmallGroups (join_filter taps form gs)
small-filter taps form [] h = (record { up_low = omega arith; down_low = omega arith; down_high = omega arith }, tt)
small-filter taps form (Fir None None down ∷ gs) h = (record { up_low = omega arith; down_low = h.0.down_low; down_high = h.0.down_high }, h.1)
small-filter taps form (Fir None (Some f) down ∷ gs) h = (record { up_low = omega arith; down_low = omega arith; down_high = omega arith }, h)
small-filter taps form (Fir (Some u) filter down ∷ gs) h = (record { up_low = omega arith; down_low = omega arith; down_high = omega arith }, h)
small-filter taps form (DownCic r n d ∷ gs) h = (record { up_low = omega arith; down_low = omega arith; down_high = omega arith }, h)
small-filter taps form (UpCic r n d ∷ gs) h = (record { up_low = omega arith; down_low = omega arith; down_high = omega arith }, h)
small-filter taps form (Rounding shift mode ∷ gs) h = (record { up_low = omega arith; down_low = omega arith; down_high = omega arith }, h)
small-filter taps form (Clipping bits ∷ gs) h = (record { up_low = omega arith; down_low = omega arith; down_high = omega arith }, h)

small-groups : (es : List Element) → All IsWithinLimits es → AreSmallGroups (groups es)
small-groups [] h = tt
small-groups (Up factor ∷ es) h = small-up (size factor) (groups es) (size_low 4096 factor (h 0 (Up factor) (omega arith))) (small-groups es (tail_limits (Up factor) es h))
small-groups (Down factor ∷ es) h =
    let within = h 0 (Down factor) (omega arith) in
    (record { up_low = omega arith; down_low = size_low 4096 factor within; down_high = size_high 4096 factor within }, small-groups es (tail_limits (Down factor) es h))
small-groups (Filter taps form ∷ es) h = small-filter taps form (groups es) (small-groups es (tail_limits (Filter taps form) es h))
small-groups (CicDown factor stages delay ∷ es) h =
    let within = h 0 (CicDown factor stages delay) (omega arith) in
    (record { up_low = omega arith; down_low = size_low 4096 factor within.0; down_high = size_high 4096 factor within.0 }, small-groups es (tail_limits (CicDown factor stages delay) es h))
small-groups (CicUp factor stages delay ∷ es) h =
    let within = h 0 (CicUp factor stages delay) (omega arith) in
    (record { up_low = size_low 4096 factor within.0; down_low = omega arith; down_high = omega arith }, small-groups es (tail_limits (CicUp factor stages delay) es h))
small-groups (Round shift mode ∷ es) h =
    (record { up_low = omega arith; down_low = omega arith; down_high = omega arith }, small-groups es (tail_limits (Round shift mode) es h))
small-groups (Clip bits ∷ es) h = (record { up_low = omega arith; down_low = omega arith; down_high = omega arith }, small-groups es (tail_limits (Clip bits) es h))

-- ---- what the tests say of all groups

-- the tally and the peak are those of a cycle and a gain
record Fits (ticks : ℕ) (t : Tally) (s : Spread) (peak base : ℕ) (p : Cycle) (most : ℕ) : Type 0 where
  spread : t.spread ≡ Some s
  classes : s.classes ≡ p.classes
  some : 1 ≤ s.reach
  even : p.classes * t.stream.period ≡ p.step * ticks
  peak_is : peak ≡ most * base
  has_base : 1 ≤ base

-- the tests of one group that is no rounding
record Passed (ticks : ℕ) (g : Group) (period : ℕ) (s : Spread) (peak : ℕ) : Type 0 where
  rate : period_after g period * up_factor g ≡ period * down_factor g
  peak_small : peak * gain g ≤ 2 ^ 125
  response : (spread_after ticks g period s).classes * (spread_after ticks g period s).reach ≤ 2 ^ 20
  cycle : (spread_after ticks g period s).classes * period_after g period / ticks ≤ 2 ^ 24

product-least : (a b : ℕ) → 1 ≤ b → a ≤ a * b
product-least a zero h = absurd (omega arith)
product-least a (suc b) h = omega arith

group-bounded : (ticks : ℕ) (g : Group) (t : Tally) (s : Spread) (peak base : ℕ) (p : Cycle) (most : ℕ) → 0 < ticks → IsSmallGroup g → Fits ticks t s peak base p most
    → Passed ticks g t.stream.period s peak → IsBounded g p most
group-bounded ticks g t s peak base p most some small fits passed =
    let period = t.stream.period in
    let next = group-next ticks g p s period small.up_low fits.classes fits.some fits.even passed.rate in
    let after_spread = spread_after ticks g period s in
    let few = product-least after_spread.classes after_spread.reach next.some in
    let times : after_spread.classes * period_after g period ≡ (turn g p).step * ticks = ap (λ (n : ℕ). n * period_after g period) next.same ∙ next.even in
    let steps : (turn g p).step * ticks / ticks ≤ 2 ^ 24 = subst (λ (n : ℕ). n / ticks ≤ 2 ^ 24) times passed.cycle in
    let gained : peak * gain g ≡ most * gain g * base =
    ap (λ (n : ℕ). n * gain g) fits.peak_is ∙ mul_assoc most base (gain g) ∙ ap (λ (n : ℕ). most * n) (mul_comm base (gain g)) ∙ sym (mul_assoc most (gain g) base) in
    record {
      classes = omega (arith, few, passed.response, next.same);
      step = whole-quotient (turn g p).step ticks (2 ^ 24) some steps;
      most_after = omega (arith, product-least (most * gain g) base fits.has_base, gained, passed.peak_small);
      down_low = small.down_low;
      down_high = small.down_high;
    }

fits-next : (ticks : ℕ) (g : Group) (t : Tally) (s : Spread) (peak base : ℕ) (p : Cycle) (most : ℕ) → IsSmallGroup g → Fits ticks t s peak base p most → Passed ticks g t.stream.period s peak
    → (tally_after ticks g t).spread ≡ Some (spread_after ticks g t.stream.period s) → Fits ticks (tally_after ticks g t) (spread_after ticks g t.stream.period s) (peak * gain g) base (turn g p) (most * gain g)
fits-next ticks g t s peak base p most small fits passed is =
    let next = group-next ticks g p s t.stream.period small.up_low fits.classes fits.some fits.even passed.rate in
    record {
      spread = is;
      classes = next.same;
      some = next.some;
      even = next.even;
      peak_is = ap (λ (n : ℕ). n * gain g) fits.peak_is ∙ mul_assoc most base (gain g) ∙ ap (λ (n : ℕ). most * n) (mul_comm base (gain g)) ∙ sym (mul_assoc most (gain g) base);
      has_base = fits.has_base;
    }

passed-of : (ticks first : ℕ) (g : Group) (t : Tally) (s : Spread) (peak : ℕ) → 0 < up_factor g → rate_test first t.stream.period g ≡ None → peak * gain g ≤ 2 ^ 125
    → linear_test ticks (last_of first g) g t.stream.period (Some s) ≡ None → Passed ticks g t.stream.period s peak
passed-of ticks first g t s peak some rate peak_small costs =
    let parts = none_of _ _ costs in
    let last = none_of _ _ parts.1 in
    record {
      rate = rate-passes first t.stream.period g some rate;
      peak_small = peak_small;
      response = over-passes (last_of first g) ResponseCost _ (2 ^ 20) last.0;
      cycle = over-passes (last_of first g) CycleCost _ (2 ^ 24) last.1;
    }

are-bounded : (ticks : ℕ) (gs : List Group) (first : ℕ) (t : Tally) (s : Spread) (peak base : ℕ) (p : Cycle) (most : ℕ) → 0 < ticks → AreSmallGroups gs → Fits ticks t s peak base p most
    → first_failing rate_test period_after first t.stream.period gs ≡ None → first_failing peak_test peak_after first peak gs ≡ None
    → first_failing (cost_test ticks) (tally_after ticks) first t gs ≡ None → AreBounded gs p most
are-bounded ticks [] first t s peak base p most some small fits rates peaks costs = tt
are-bounded ticks (Rounding shift mode ∷ gs) first t s peak base p most some small fits rates peaks costs = tt
are-bounded ticks (Clipping bits ∷ gs) first t s peak base p most some small fits rates peaks costs = tt
are-bounded ticks (Fir up filter down ∷ gs) first t s peak base p most some small fits rates peaks costs =
    let g = Fir up filter down in
    let rate = none_of _ _ rates in
    let high = none_of _ _ peaks in
    let cost = none_of _ _ costs in
    let linear = (none_of _ _ (none_of _ _ cost.0).1).1 in
    let passed = passed-of ticks first g t s peak small.0.up_low rate.0 (peak-passes first peak g high.0) (subst (λ (o : Option Spread). linear_test ticks (last_of first g) g t.stream.period o ≡ None) fits.spread linear) in (
      group-bounded ticks g t s peak base p most some small.0 fits passed,
      are-bounded ticks gs (first + size_of g) (tally_after ticks g t) (spread_after ticks g t.stream.period s) (peak * gain g) base (turn g p) (most * gain g) some small.1
          (fits-next ticks g t s peak base p most small.0 fits passed (ap (option_map (spread_after ticks g t.stream.period)) fits.spread)) rate.1 high.1 cost.1,
    )
are-bounded ticks (DownCic factor stages delay ∷ gs) first t s peak base p most some small fits rates peaks costs =
    let g = DownCic factor stages delay in
    let rate = none_of _ _ rates in
    let high = none_of _ _ peaks in
    let cost = none_of _ _ costs in
    let linear = (none_of _ _ (none_of _ _ cost.0).1).1 in
    let passed = passed-of ticks first g t s peak small.0.up_low rate.0 (peak-passes first peak g high.0) (subst (λ (o : Option Spread). linear_test ticks (last_of first g) g t.stream.period o ≡ None) fits.spread linear) in (
      group-bounded ticks g t s peak base p most some small.0 fits passed,
      are-bounded ticks gs (first + size_of g) (tally_after ticks g t) (spread_after ticks g t.stream.period s) (peak * gain g) base (turn g p) (most * gain g) some small.1
          (fits-next ticks g t s peak base p most small.0 fits passed (ap (option_map (spread_after ticks g t.stream.period)) fits.spread)) rate.1 high.1 cost.1,
    )
are-bounded ticks (UpCic factor stages delay ∷ gs) first t s peak base p most some small fits rates peaks costs =
    let g = UpCic factor stages delay in
    let rate = none_of _ _ rates in
    let high = none_of _ _ peaks in
    let cost = none_of _ _ costs in
    let linear = (none_of _ _ (none_of _ _ cost.0).1).1 in
    let passed = passed-of ticks first g t s peak small.0.up_low rate.0 (peak-passes first peak g high.0) (subst (λ (o : Option Spread). linear_test ticks (last_of first g) g t.stream.period o ≡ None) fits.spread linear) in (
      group-bounded ticks g t s peak base p most some small.0 fits passed,
      are-bounded ticks gs (first + size_of g) (tally_after ticks g t) (spread_after ticks g t.stream.period s) (peak * gain g) base (turn g p) (most * gain g) some small.1
          (fits-next ticks g t s peak base p most small.0 fits passed (ap (option_map (spread_after ticks g t.stream.period)) fits.spread)) rate.1 high.1 cost.1,
    )

-- ---- accepted plans

take-take : (j k : ℕ) (es : List Element) → (i : ℕ) × (take j (take k es) ≡ take i es)
take-take zero k es = (0, refl)
take-take (suc j) zero es = (0, refl)
take-take (suc j) (suc k) [] = (0, refl)
take-take (suc j) (suc k) (e ∷ es) = let rest = take-take j k es in (suc rest.0, ap (λ (ds : List Element). e ∷ ds) rest.1)

-- the first elements of an accepted plan, with no rounding among them
pub plan-modest : (plan : Plan) (k : ℕ) → IsAccepted plan → AreLinear (take k plan.elements) → AreModest (take k plan.elements)
plan-modest plan k accepted linear = record { each = at }
  where
    bounded : AreBounded (groups plan.elements) (record { classes = 1; step = 1 }) 1
    bounded =
        let tests = passes_of plan accepted in
        let ticks = size plan.ticks in
        let base = 2 ^ (size plan.width - 1) in
        let some : 0 < ticks = size_low 65536 plan.ticks (tests.limits.ticks_low, tests.limits.ticks_high) in
        are-bounded ticks (groups plan.elements) 1 (no_tally (size plan.width) ticks) (record { classes = 1; reach = 1 }) base base (record { classes = 1; step = 1 }) 1 some
        (small-groups plan.elements tests.limits.elements)
        (record { spread = refl; classes = refl; some = omega arith; even = refl; peak_is = omega arith; has_base = pow_pos (size plan.width - 1) })
        tests.rates tests.peaks tests.costs

    at : (j : ℕ) → IsModest (full_cycle (take j (take k plan.elements))) (gain_after_all (take j (take k plan.elements)) 1)
    at j =
        let shorter = take-take j k plan.elements in
        let part = subst AreLinear shorter.1 (linear_take (take k plan.elements) j linear) in
        subst (λ (es : List Element). IsModest (full_cycle es) (gain_after_all es 1)) (sym shorter.1)
        (elements-modest plan.elements (record { classes = 1; step = 1 }) 1 shorter.0 part (record { classes = omega arith; step = omega arith; most_is = omega arith }) bounded)

-- the same by what follows them
pub first-modest : (plan : Plan) (first rest : List Element) → IsAccepted plan → plan.elements ≡ first ++ rest → AreLinear first → AreModest first
first-modest plan first rest accepted is linear =
    let front : take (length first) plan.elements ≡ first = ap (take (length first)) is ∙ take-append_seam first rest in
    subst AreModest front (plan-modest plan (length first) accepted (subst AreLinear (sym front) linear))
