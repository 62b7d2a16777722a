-- What the cost tests of an accepted plan say of the elements before a group: how many classes they have, and how far back they reach.
use Rattle.std.proofs.Common.{◌≡◌, ◌∙◌, ℕ, zero, suc, ◌+◌, ◌*◌, ◌/◌, ◌%◌, ◌^◌, ◌<◌, ◌≤◌, refl, sym, ap, subst, arith, mul_assoc, false, List, [], ◌∷◌, ◌++◌, ℤ, Option, None, Some}
use Rattle.std.specs.Prelude.{All}
use Rattle.std.specs.Option.{option_map}
use Rattle.std.proofs.Math.Nat.{mul-le-mul_right, mul_comm}
use Rattle.std.proofs.lemmas.Nat.{mod_below, le-div}
use Rattle.mr_values.specs.declared.plan.Element.{Element}
use Rattle.mr_values.specs.declared.plan.Element.TheVariants.{Up, Down, Filter, CicDown, CicUp, Round, Clip}
use Rattle.mr_values.specs.declared.plan.Form.{Form}
use Rattle.mr_values.specs.declared.plan.Plan.{Plan}
use Rattle.mr_values.specs.Timing.{Group, Fir, DownCic, UpCic, Rounding, Clipping, ceil_div, groups, join_up, join_filter, up_factor, down_factor, period_after}
use Rattle.mr_values.specs.Value.{size, IsWithinLimits}
use Rattle.plan_check.specs.declared.fault.CostWhich.{CostWhich}
use Rattle.plan_check.specs.declared.fault.CostWhich.TheVariants.{Response as ResponseCost, Cycle as CycleCost}
use Rattle.plan_check.specs.Accepted.{IsAccepted, no_tally}
use Rattle.plan_check.specs.Amounts.{rate_test}
use Rattle.plan_check.specs.Costs.{gcd, Spread, Tally, memory_of, spread_after, tally_after, linear_spread, over, linear_test, cost_test}
use Rattle.plan_check.specs.Groups.{size_of, last_of, first_failing}
use Rattle.plan_check.proofs.GroupSplit.{size_low, tail_limits}
use Rattle.plan_check.proofs.Options.{none_of}
use Rattle.plan_laws.proofs.Passes.{passes_of}
use Rattle.impulse_phase.specs.Reach.{extent}
use Rattle.impulse_phase.specs.Response.{full_cycle, AreLinear}
use Rattle.impulse_phase.proofs.Prefix.{common-turns, common-positive}
use Rattle.chain_build.specs.Built.{has_rounding, IsPlainGroup}
use Rattle.chain_build.proofs.Measures.{Measure, measure_of, measure_after, measure_all, at_first, measure-is}
use Rattle.chain_build.proofs.Pace.{balance-more}
use Rattle.chain_build.proofs.SampleBounds.{ceil_div-covers, ceil_div-least, same-stretch}
use Rattle.chain_build.proofs.Walk.{HasRate, rate_passes, period-whole, cancel}

-- ---- what one group's tests say

over-passes : (element : ℕ) (which : CostWhich) (value most : ℕ) → over element which value most ≡ None → value ≤ most
over-passes element which value most e = grind arith

-- the tests of a group that doesn't round, on values with this spread and period
pub record HasCosts (ticks : ℕ) (g : Group) (period : ℕ) (s : Spread) : Type 0 where
  pub response : (spread_after ticks g period s).classes * (spread_after ticks g period s).reach ≤ 2 ^ 20
  pub cycle : (spread_after ticks g period s).classes * period_after g period / ticks ≤ 2 ^ 24

costs-pass : (ticks element : ℕ) (g : Group) (period : ℕ) (s : Spread) → linear_test ticks element g period (Some s) ≡ None → HasCosts ticks g period s
costs-pass ticks element g period s e =
    let parts = none_of _ _ e in
    let last = none_of _ _ parts.1 in
    record { response = over-passes element ResponseCost _ (2 ^ 20) last.0; cycle = over-passes element CycleCost _ (2 ^ 24) last.1 }

plain_spread : (g : Group) (o : Option Spread) → IsPlainGroup g → linear_spread g o ≡ o
plain_spread (Fir up filter down) o plain = refl
plain_spread (DownCic factor stages delay) o plain = refl
plain_spread (UpCic factor stages delay) o plain = refl
plain_spread (Rounding shift mode) o plain = absurd plain
plain_spread (Clipping bits) o plain = absurd plain

-- the samples of a round take as long as its indices
even-on : (c k a m n u p q s t : ℕ) → c * m ≡ k * a → a ≡ n * u → q * u ≡ p * m → n * p ≡ s * t → c * q * u ≡ k * s * t * u
even-on c k a m n u p q s t turns is rate even =
    mul_assoc c q u ∙ ap (λ (x : ℕ). c * x) (rate ∙ mul_comm p m) ∙ sym (mul_assoc c m p) ∙ ap (λ (x : ℕ). x * p) turns
    ∙ ap (λ (x : ℕ). k * x * p) (is ∙ mul_comm n u)
    ∙ ap (λ (x : ℕ). x * p) (sym (mul_assoc k u n)) ∙ mul_assoc (k * u) n p ∙ ap (λ (x : ℕ). k * u * x) even
    ∙ mul_assoc k u (s * t) ∙ ap (λ (x : ℕ). k * x) (mul_comm u (s * t)) ∙ sym (mul_assoc k (s * t) u) ∙ ap (λ (x : ℕ). x * u) (sym (mul_assoc k s t))

-- ---- the elements before a group

-- what the tests of the groups so far say of the tally and the measure of their elements
pub record Stands (ticks : ℕ) (t : Tally) (s : Spread) (m : Measure) : Type 0 where
  pub spread : t.spread ≡ Some s
  pub classes : s.classes ≡ m.classes
  pub some : 0 < m.classes
  pub has_up : 0 < m.up
  pub even : m.classes * t.stream.period ≡ m.step * ticks
  pub pace : t.stream.period * m.up ≡ ticks * m.down
  pub reach : m.reach ≤ s.reach
  pub near : s.reach ≤ 2 ^ 20
  pub round : m.step ≤ 2 ^ 24

least-product : (a b most : ℕ) → 0 < a → a * b ≤ most → b ≤ most
least-product a b most some h = let more : 1 * b ≤ a * b = mul-le-mul_right b some in omega (arith, more, h)

positive : (a b : ℕ) → 0 < a → 0 < b → 0 < a * b
positive zero b h k = absurd (omega arith)
positive (suc a) b h k = omega arith

module _ (ticks : ℕ) (some_ticks : 0 < ticks) (g : Group) (t : Tally) (s : Spread) (m : Measure) (raises : 0 < up_factor g) (here : Stands ticks t s m) (rate : HasRate g t.stream.period) (costs : HasCosts ticks g t.stream.period s) where
  abbrev period : ℕ
  period = t.stream.period

  abbrev next : Spread
  next = spread_after ticks g period s

  abbrev after_it : Measure
  after_it = measure_after g m

  same_classes : next.classes ≡ after_it.classes
  same_classes =
      ap (λ (n : ℕ). n * up_factor g / gcd (n * up_factor g) (down_factor g)) here.classes

  some_classes : 0 < after_it.classes
  some_classes = common-positive (m.classes * up_factor g) (down_factor g) (positive m.classes (up_factor g) here.some raises)

  even_next : after_it.classes * period_after g period ≡ after_it.step * ticks
  even_next =
      let a = m.classes * up_factor g in
      let d = down_factor g in
      cancel (after_it.classes * period_after g period) (after_it.step * ticks) (up_factor g) raises
      (even-on (a / gcd a d) (d / gcd a d) a d m.classes (up_factor g) period (period_after g period) m.step ticks (common-turns a d) refl (period-whole g period rate) here.even)

  stretch : m.reach + ceil_div (memory_of g * m.down) (m.up * up_factor g) ≤ next.reach
  stretch =
      let ticks_for = up_factor g * ticks in
      let more = ceil_div (memory_of g * period) ticks_for in
      let covers : memory_of g * period ≤ more * ticks_for = ceil_div-covers (memory_of g * period) ticks_for (positive (up_factor g) ticks raises some_ticks) in
      let room : memory_of g * m.down ≤ more * (m.up * up_factor g) = same-stretch (memory_of g) period ticks (up_factor g) m.up m.down more some_ticks here.pace covers in
      let least : ceil_div (memory_of g * m.down) (m.up * up_factor g) ≤ more = ceil_div-least (memory_of g * m.down) (m.up * up_factor g) more (positive m.up (up_factor g) here.has_up raises) room in
      let own = here.reach in
      omega (arith, own, least)

  near_next : next.reach ≤ 2 ^ 20
  near_next = least-product next.classes next.reach (2 ^ 20) (subst (λ (n : ℕ). 0 < n) (sym same_classes) some_classes) costs.response

  pub round_next : after_it.step ≤ 2 ^ 24
  round_next =
      let times : next.classes * period_after g period ≡ after_it.step * ticks = ap (λ (n : ℕ). n * period_after g period) same_classes ∙ even_next in
      let most : after_it.step * ticks / ticks ≤ 2 ^ 24 = subst (λ (n : ℕ). n / ticks ≤ 2 ^ 24) times costs.cycle in
      let own : after_it.step ≤ after_it.step * ticks / ticks = le-div after_it.step (after_it.step * ticks) ticks some_ticks (omega arith) in
      omega (arith, most, own)

  stands_next : IsPlainGroup g → Stands ticks (tally_after ticks g t) next after_it
  stands_next plain = record {
    spread = ap (option_map (spread_after ticks g period)) (plain_spread g t.spread plain ∙ here.spread);
    classes = same_classes;
    some = some_classes;
    has_up = positive m.up (up_factor g) here.has_up raises;
    even = even_next;
    pace = balance-more period (period_after g period) ticks m.up m.down g here.pace (period-whole g period rate) ∙ ap (λ (n : ℕ). ticks * n) (mul_comm m.down (down_factor g));
    reach = stretch;
    near = near_next;
    round = round_next;
  }

  -- how far the group itself looks back, in samples
  pub reach-own : ceil_div (memory_of g * period) (up_factor g * ticks) ≤ 2 ^ 20
  reach-own = let most = near_next in omega (arith, most)

-- ---- the groups of elements raise by some factor

abbrev AreRaising : List Group → Type 0
AreRaising [] = Unit {0}
AreRaising (g ∷ gs) = (0 < up_factor g) × AreRaising gs

raising-up : (factor : ℕ) (gs : List Group) → 0 < factor → AreRaising gs → AreRaising (join_up factor gs)
raising-up factor [] some h = (some, tt)
raising-up factor (Fir None f d ∷ gs) some h = (some, h.1)
raising-up factor (Fir (Some u) f d ∷ gs) some h = (some, h)
raising-up factor (DownCic r n l ∷ gs) some h = (some, h)
raising-up factor (UpCic r n l ∷ gs) some h = (some, h)
raising-up factor (Rounding s l ∷ gs) some h = (some, h)
raising-up factor (Clipping bits ∷ gs) some h = (some, h)

raising-filter : (taps : List ℤ) (form : Form) (gs : List Group) → AreRaising gs → AreRaising (join_filter taps form gs)
raising-filter taps form [] h = (omega arith, tt)
raising-filter taps form (Fir None None d ∷ gs) h = (omega arith, h.1)
raising-filter taps form (Fir None (Some f) d ∷ gs) h = (omega arith, h)
raising-filter taps form (Fir (Some u) None d ∷ gs) h = (omega arith, h)
raising-filter taps form (Fir (Some u) (Some f) d ∷ gs) h = (omega arith, h)
raising-filter taps form (DownCic r n l ∷ gs) h = (omega arith, h)
raising-filter taps form (UpCic r n l ∷ gs) h = (omega arith, h)
raising-filter taps form (Rounding s l ∷ gs) h = (omega arith, h)
raising-filter taps form (Clipping bits ∷ gs) h = (omega arith, h)

are-raising : (es : List Element) → All IsWithinLimits es → AreRaising (groups es)
are-raising [] h = tt
are-raising (Up factor ∷ es) h = raising-up (size factor) (groups es) (size_low 4096 factor (h 0 (Up factor) (omega arith))) (are-raising es (tail_limits (Up factor) es h))
are-raising (Down factor ∷ es) h = (omega arith, are-raising es (tail_limits (Down factor) es h))
are-raising (Filter taps form ∷ es) h = raising-filter taps form (groups es) (are-raising es (tail_limits (Filter taps form) es h))
are-raising (CicDown factor stages delay ∷ es) h = (omega arith, are-raising es (tail_limits (CicDown factor stages delay) es h))
are-raising (CicUp factor stages delay ∷ es) h = (size_low 4096 factor (h 0 (CicUp factor stages delay) (omega arith)).0, are-raising es (tail_limits (CicUp factor stages delay) es h))
are-raising (Round shift mode ∷ es) h = (omega arith, are-raising es (tail_limits (Round shift mode) es h))
are-raising (Clip bits ∷ es) h = (omega arith, are-raising es (tail_limits (Clip bits) es h))

-- ---- from group to group

-- the groups that are left pass the tests after those before them
pub record Left (ticks : ℕ) (m : Measure) (left : List Group) : Type 0 where
  pub first : ℕ
  pub t : Tally
  pub s : Spread
  pub stands : Stands ticks t s m
  pub raising : AreRaising left
  pub rates : first_failing rate_test period_after first t.stream.period left ≡ None
  pub costs : first_failing (cost_test ticks) (tally_after ticks) first t left ≡ None

pub head_costs : {ticks : ℕ} {m : Measure} {g : Group} {left : List Group} (h : Left ticks m (g ∷ left)) → IsPlainGroup g → HasCosts ticks g h.t.stream.period h.s
head_costs {ticks} {m} {g} {left} h plain =
    let cost = none_of _ _ h.costs in
    let linear = (none_of _ _ (none_of _ _ cost.0).1).1 in
    costs-pass ticks (last_of h.first g) g h.t.stream.period h.s (subst (λ (o : Option Spread). linear_test ticks (last_of h.first g) g h.t.stream.period o ≡ None) (plain_spread g h.t.spread plain ∙ h.stands.spread) linear)

pub head_rate : {ticks : ℕ} {m : Measure} {g : Group} {left : List Group} (h : Left ticks m (g ∷ left)) → HasRate g h.t.stream.period
head_rate {ticks} {m} {g} {left} h = rate_passes h.first h.t.stream.period g (none_of _ _ h.rates).0

left_next : {ticks : ℕ} {m : Measure} {g : Group} {left : List Group} → 0 < ticks → IsPlainGroup g → Left ticks m (g ∷ left) → Left ticks (measure_after g m) left
left_next {ticks} {m} {g} {left} some plain h = record {
  first = h.first + size_of g;
  t = tally_after ticks g h.t;
  s = spread_after ticks g h.t.stream.period h.s;
  stands = stands_next ticks some g h.t h.s m h.raising.0 h.stands (head_rate h) (head_costs h plain) plain;
  raising = h.raising.1;
  rates = (none_of _ _ h.rates).1;
  costs = (none_of _ _ h.costs).1;
}

left_after : {ticks : ℕ} (front left : List Group) (m : Measure) → 0 < ticks → has_rounding front ≡ false → Left ticks m (front ++ left) → Left ticks (measure_all front m) left
left_after [] left m some none h = h
left_after (Fir u f d ∷ front) left m some none h = left_after front left (measure_after (Fir u f d) m) some none (left_next some tt h)
left_after (DownCic r n l ∷ front) left m some none h = left_after front left (measure_after (DownCic r n l) m) some none (left_next some tt h)
left_after (UpCic r n l ∷ front) left m some none h = left_after front left (measure_after (UpCic r n l) m) some none (left_next some tt h)
left_after (Rounding s l ∷ front) left m some none h = absurd (cc)
left_after (Clipping bits ∷ front) left m some none h = absurd (cc)

-- the elements of the groups before those that are left, of an accepted plan
pub left-of : (plan : Plan) (es : List Element) (front left : List Group) → IsAccepted plan → groups plan.elements ≡ front ++ left → has_rounding front ≡ false → AreLinear es → groups es ≡ front
    → Left (size plan.ticks) (measure_of (full_cycle es) (extent es)) left
left-of plan es front left accepted parts none linear are =
    let tests = passes_of plan accepted in
    let ticks = size plan.ticks in
    let some : 0 < ticks = size_low 65536 plan.ticks (tests.limits.ticks_low, tests.limits.ticks_high) in
    let start : Left ticks at_first (groups plan.elements) = record {
      first = 1;
      t = no_tally (size plan.width) ticks;
      s = record { classes = 1; reach = 1 };
      stands = record { spread = refl; classes = refl; some = omega arith; has_up = omega arith; even = refl; pace = omega arith; reach = omega arith; near = omega arith; round = omega arith };
      raising = are-raising plan.elements tests.limits.elements;
      rates = tests.rates;
      costs = tests.costs;
    } in
    let own : measure_all front at_first ≡ measure_of (full_cycle es) (extent es) = sym (measure-is es linear ∙ ap (λ (gs : List Group). measure_all gs at_first) are) in
    subst (λ (m : Measure). Left ticks m left) own (left_after front left at_first some none (subst (Left ticks at_first) parts start))
