-- On how many samples a value depends.
use Rattle.std.proofs.Common.{◌≡◌, ◌∙◌, ℕ, zero, suc, ◌+◌, ◌-◌, ◌*◌, ◌%◌, ◌<◌, ◌≤◌, refl, sym, ap, arith, subst, List, [], ◌∷◌, length, ℤ, pos, ◌+ℤ◌, ◌-ℤ◌, ◌*ℤ◌, ◌≤ℤ◌, ◌<ℤ◌, Option, None, Some, Bool, true, false, cond, nat_eq, inl, inr}
use Rattle.std.specs.Prelude.{All, unwrap_or}
use Rattle.std.proofs.lemmas.Int.{ints}
use Rattle.std.proofs.lemmas.Nat.{div-add-mod', mod_below}
use Rattle.std.proofs.lemmas.Bool.{cases_lt}
use Rattle.std.proofs.Math.Nat.{mul-le-mul_left}
use Rattle.std.proofs.Math.Path.{fun_ext}
use borrow.Author.Differences.{up as positive_part, down as negative_part}
use borrow.Author.Tests.{eqb-true}
use Rattle.mr_values.specs.declared.plan.Element.{Element}
use Rattle.mr_values.specs.declared.plan.Element.TheVariants.{Up, Down, Filter, CicDown, CicUp, Round, Clip}
use Rattle.mr_values.specs.declared.plan.Form.{Form}
use Rattle.mr_values.specs.Width.{floor_quotient, floor_remainder}
use Rattle.mr_values.specs.Sequence.{Sequence, samples, weighted_sum, up, down, filter, filter_times, ones, cic_down, cic_up}
use Rattle.mr_values.specs.Value.{size, chain, round, round_value, IsWithinLimits, clip}
use Rattle.mr_values.specs.Rounding.{clip_value}
use Rattle.mr_values.specs.Timing.{Group, Fir, DownCic, UpCic, Rounding, Clipping, groups, join_up, join_filter, ceil_div, up_factor, down_factor, period_after, after_all, input, Stream, after}
use Rattle.mr_values.proofs.Division.{floor_split, floor_unique}
use Rattle.mr_values.proofs.Ring.{+ℤ-*ℤ}
use Rattle.plan_check.specs.Groups.{size_of, first_failing}
use Rattle.plan_check.specs.Amounts.{rate_test}
use Rattle.plan_check.specs.Accepted.{rates_test}
use Rattle.plan_check.specs.Costs.{Spread, memory_of, spread_after}
use Rattle.plan_check.proofs.Options.{none_of}
use Rattle.plan_check.proofs.GroupSplit.{size_low, tail_limits}
use Rattle.plan_laws.specs.Laws.{spread_after_all, ReachHolds}

-- ---- groups as transforms

abbrev pub optional : {A : Type 0} → (A → Sequence → Sequence) → Option A → Sequence → Sequence
optional f None x = x
optional f (Some a) x = f a x

abbrev pub filter_by : (List ℤ × Form) → Sequence → Sequence
filter_by f x = filter f.0 x

abbrev pub apply_group : Group → Sequence → Sequence
apply_group (Fir u f d) x = optional down d (optional filter_by f (optional up u x))
apply_group (DownCic factor stages delay) x = cic_down factor stages delay x
apply_group (UpCic factor stages delay) x = cic_up factor stages delay x
apply_group (Rounding shift mode) x = round mode shift x
apply_group (Clipping bits) x = clip bits x

abbrev pub apply_groups : List Group → Sequence → Sequence
apply_groups [] x = x
apply_groups (g ∷ gs) x = apply_groups gs (apply_group g x)

groups-join_up : (factor : ℕ) (gs : List Group) (x : Sequence) → apply_groups (join_up factor gs) x ≡ apply_groups gs (up factor x)
groups-join_up factor [] x = refl
groups-join_up factor (Fir None f d ∷ gs) x = refl
groups-join_up factor (Fir (Some u) f d ∷ gs) x = refl
groups-join_up factor (DownCic other stages delay ∷ gs) x = refl
groups-join_up factor (UpCic other stages delay ∷ gs) x = refl
groups-join_up factor (Rounding shift mode ∷ gs) x = refl
groups-join_up factor (Clipping bits ∷ gs) x = refl

groups-join_filter : (taps : List ℤ) (form : Form) (gs : List Group) (x : Sequence) → apply_groups (join_filter taps form gs) x ≡ apply_groups gs (filter taps x)
groups-join_filter taps form [] x = refl
groups-join_filter taps form (Fir None None d ∷ gs) x = refl
groups-join_filter taps form (Fir None (Some f) d ∷ gs) x = refl
groups-join_filter taps form (Fir (Some u) None d ∷ gs) x = refl
groups-join_filter taps form (Fir (Some u) (Some f) d ∷ gs) x = refl
groups-join_filter taps form (DownCic other stages delay ∷ gs) x = refl
groups-join_filter taps form (UpCic other stages delay ∷ gs) x = refl
groups-join_filter taps form (Rounding shift mode ∷ gs) x = refl
groups-join_filter taps form (Clipping bits ∷ gs) x = refl

pub chain-groups : (es : List Element) (x : Sequence) → chain es x ≡ apply_groups (groups es) x
chain-groups [] x = refl
chain-groups (Up factor ∷ es) x = chain-groups es (up (size factor) x) ∙ sym (groups-join_up (size factor) (groups es) x)
chain-groups (Down factor ∷ es) x = chain-groups es (down (size factor) x)
chain-groups (Filter taps form ∷ es) x = chain-groups es (filter taps x) ∙ sym (groups-join_filter taps form (groups es) x)
chain-groups (CicDown factor stages delay ∷ es) x = chain-groups es (cic_down (size factor) (size stages) (size delay) x)
chain-groups (CicUp factor stages delay ∷ es) x = chain-groups es (cic_up (size factor) (size stages) (size delay) x)
chain-groups (Round shift mode ∷ es) x = chain-groups es (round mode (size shift) x)
chain-groups (Clip bits ∷ es) x = chain-groups es (clip (size bits) x)

-- ---- how far a transform looks back

abbrev LooksBack : ℕ → (Sequence → Sequence) → Type 0
LooksBack steps f = (x y : Sequence) (n : ℤ) → ((i : ℕ) → i ≤ steps → x (n -ℤ pos i) ≡ y (n -ℤ pos i)) → f x n ≡ f y n

sum-same : (cs : List ℤ) (f g : ℕ → ℤ) → ((i : ℕ) → i < length cs → f i ≡ g i) → weighted_sum cs f ≡ weighted_sum cs g
sum-same [] f g h = refl
sum-same (c ∷ cs) f g h =
    ap (λ (z : ℤ). c *ℤ z +ℤ weighted_sum cs (λ i. f (suc i))) (h zero (omega arith))
    ∙ ap (λ (z : ℤ). c *ℤ g zero +ℤ z) (sum-same cs (λ i. f (suc i)) (λ i. g (suc i)) (λ i below. h (suc i) (omega arith)))

looks-filter : (taps : List ℤ) → LooksBack (length taps - 1) (filter taps)
looks-filter taps x y n h = sum-same taps (λ i. x (n -ℤ pos i)) (λ i. y (n -ℤ pos i)) (λ i below. h i (omega arith))

looks-itself : LooksBack 0 (λ (x : Sequence). x)
looks-itself x y n h = let e : n -ℤ pos 0 ≡ n = omega (arith, ints) in subst (λ (m : ℤ). x m ≡ y m) e (h 0 (omega arith))

looks-both : (s t : ℕ) (f g : Sequence → Sequence) → LooksBack s f → LooksBack t g → LooksBack (s + t) (λ x. f (g x))
looks-both s t f g p q x y n h = p (g x) (g y) n (λ i small. q x y (n -ℤ pos i) (λ j less. at i j small less))
  where
    at : (i j : ℕ) → i ≤ s → j ≤ t → x (n -ℤ pos i -ℤ pos j) ≡ y (n -ℤ pos i -ℤ pos j)
    at i j small less =
        let e : n -ℤ pos (i + j) ≡ n -ℤ pos i -ℤ pos j = omega (arith, ints) in
        subst (λ (m : ℤ). x m ≡ y m) e (h (i + j) (omega arith))

length-ones : (n : ℕ) → length (ones n) ≡ n
length-ones zero = refl
length-ones (suc n) = ap suc (length-ones n)

looks-moving : (stages n : ℕ) → LooksBack (stages * (n - 1)) (filter_times stages (ones n))
looks-moving zero n = subst (λ (k : ℕ). LooksBack k (λ (x : Sequence). x)) (omega arith) looks-itself
looks-moving (suc stages) n =
    let first : LooksBack (n - 1) (filter (ones n)) = subst (λ (k : ℕ). LooksBack (k - 1) (filter (ones n))) (length-ones n) (looks-filter (ones n)) in
    let both = looks-both (n - 1) (stages * (n - 1)) (filter (ones n)) (filter_times stages (ones n)) first (looks-moving stages n) in
    subst (λ (k : ℕ). LooksBack k (filter_times (suc stages) (ones n))) (omega arith) both

-- ---- one group

-- the samples that the value at n depends on
abbrev pub Reaches : ℕ → ℕ → ℕ → (Sequence → Sequence) → Type 0
Reaches ticks period reach f = (x y : Sequence) (n : ℤ)
    → ((k : ℤ) → (k *ℤ pos ticks) ≤ℤ (n *ℤ pos period) → (n *ℤ pos period) <ℤ ((k +ℤ pos reach) *ℤ pos ticks) → x k ≡ y k) → f x n ≡ f y n

cancel_low : (l a b : ℕ) → 0 < l → l * b ≤ l * a → b ≤ a
cancel_low l a b some h =
    elim (cases_lt a b) [
      | inl less ↦ absurd (omega (arith, mul-le-mul_left l less))
      | inr most ↦ most
    ]

-- In ticks, output n stands `w` after value m of the group's input, where i steps lie between them: L * w = i * p.
record Gap (l p q i : ℕ) (n m : ℤ) : Type 0 where
  w : ℕ
  stands : n *ℤ pos q ≡ m *ℤ pos p +ℤ pos w
  steps : l * w ≡ i * p

gap : (l p q factor i : ℕ) (n m : ℤ) → 0 < l → q * l ≡ p * factor → n *ℤ pos factor ≡ m *ℤ pos l +ℤ pos i → Gap l p q i n m
gap l p q factor i n m some rate e =
    let a = positive_part n * q + negative_part m * p in
    let b = negative_part n * q + positive_part m * p in
    let first = ap (λ (z : ℕ). positive_part n * z) rate in
    let second = ap (λ (z : ℕ). negative_part n * z) rate in
    let places : positive_part n * factor + negative_part m * l ≡ negative_part n * factor + positive_part m * l + i = omega (arith, ints, e) in
    let scaled = ap (λ (z : ℕ). z * p) places in
    let parts : l * a ≡ l * b + i * p = omega (arith, first, second, scaled) in
    let more : b ≤ a = cancel_low l a b some (omega (arith, parts)) in
    let rest : b + (a - b) ≡ a = omega (arith, more) in
    record {
      w = a - b;
      stands = omega (arith, ints, rest);
      steps = omega (arith, parts, ap (λ (z : ℕ). l * z) rest);
    }

step : (ticks p q l factor reach more steps : ℕ) (f back : Sequence → Sequence) → 0 < l → q * l ≡ p * factor → steps * p ≤ more * (l * ticks)
    → LooksBack steps back → Reaches ticks p reach f → Reaches ticks q (reach + more) (λ x n. back (up l (f x)) (n *ℤ pos factor))
step ticks p q l factor reach more steps f back some rate room looks reaches x y n h =
    looks (up l (f x)) (up l (f y)) (n *ℤ pos factor) (λ i small. at i small (nat_eq (floor_remainder (n *ℤ pos factor -ℤ pos i) l) 0) refl)
  where
    at : (i : ℕ) → i ≤ steps → (b : Bool) → nat_eq (floor_remainder (n *ℤ pos factor -ℤ pos i) l) 0 ≡ b
        → cond b (f x (floor_quotient (n *ℤ pos factor -ℤ pos i) l)) (pos 0) ≡ cond b (f y (floor_quotient (n *ℤ pos factor -ℤ pos i) l)) (pos 0)
    at i small false e = refl
    at i small true e =
        let j = n *ℤ pos factor -ℤ pos i in
        let m = floor_quotient j l in
        let whole : floor_remainder j l ≡ 0 = eqb-true _ _ e in
        let split = floor_split j l some in
        let places : n *ℤ pos factor ≡ m *ℤ pos l +ℤ pos i = omega (arith, ints, split, whole) in
        let g = gap l p q factor i n m some rate places in
        let bound : g.w ≤ more * ticks = cancel_low l (more * ticks) g.w some (omega (arith, g.steps, mul-le-mul_left p small, room)) in
        reaches x y m (λ k low high.
        let wider = +ℤ-*ℤ (k +ℤ pos reach) (pos more) (pos ticks) in
        let sum : k +ℤ pos (reach + more) ≡ k +ℤ pos reach +ℤ pos more = omega (arith, ints) in
        h k (omega (arith, ints, g.stands, low)) (omega (arith, ints, g.stands, high, bound, wider, ap (λ (z : ℤ). z *ℤ pos ticks) sum)))

-- ---- what a group is made of

up_one : (v : Sequence) → up 1 v ≡ v
up_one v = fun_ext (λ m. same m)
  where
    same : (m : ℤ) → up 1 v m ≡ v m
    same m = let parts = floor_unique m m 1 0 (omega arith) (omega (arith, ints)) in rw (parts.1, parts.0) refl

abbrev inner : Group → Sequence → Sequence
inner (Fir u f d) = optional filter_by f
inner (DownCic factor stages delay) = filter_times stages (ones (factor * delay))
inner (UpCic factor stages delay) = filter_times stages (ones (factor * delay))
inner (Rounding shift mode) = λ x. x
inner (Clipping bits) = λ x. x

-- what a group makes of one value at the end
abbrev last_step : Group → ℤ → ℤ
last_step (Fir u f d) z = z
last_step (DownCic factor stages delay) z = z
last_step (UpCic factor stages delay) z = z
last_step (Rounding shift mode) z = round_value mode shift z
last_step (Clipping bits) z = clip_value bits z

one_place : (n : ℤ) → n *ℤ pos 1 ≡ n
one_place n = omega (arith, ints)

optional-up : (u : Option ℕ) (x : Sequence) → optional up u x ≡ up (unwrap_or u 1) x
optional-up None x = sym (up_one x)
optional-up (Some factor) x = refl

optional-down : (d : Option ℕ) (x : Sequence) (n : ℤ) → optional down d x n ≡ x (n *ℤ pos (unwrap_or d 1))
optional-down None x n = ap x (sym (one_place n))
optional-down (Some factor) x n = refl

group-parts : (g : Group) (x : Sequence) (n : ℤ) → apply_group g x n ≡ last_step g (inner g (up (up_factor g) x) (n *ℤ pos (down_factor g)))
group-parts (Fir u f d) x n =
    optional-down d (optional filter_by f (optional up u x)) n ∙ ap (λ (y : Sequence). optional filter_by f y (n *ℤ pos (unwrap_or d 1))) (optional-up u x)
group-parts (DownCic factor stages delay) x n = ap (λ (y : Sequence). filter_times stages (ones (factor * delay)) y (n *ℤ pos factor)) (sym (up_one x))
group-parts (UpCic factor stages delay) x n = ap (filter_times stages (ones (factor * delay)) (up factor x)) (sym (one_place n))
group-parts (Rounding shift mode) x n = ap (λ (y : Sequence). round_value mode shift (y n)) (sym (up_one x)) ∙ ap (λ (m : ℤ). round_value mode shift (up 1 x m)) (sym (one_place n))
group-parts (Clipping bits) x n = ap (λ (y : Sequence). clip_value bits (y n)) (sym (up_one x)) ∙ ap (λ (m : ℤ). clip_value bits (up 1 x m)) (sym (one_place n))

looks-inner : (g : Group) → LooksBack (memory_of g) (inner g)
looks-inner (Fir u None d) = looks-itself
looks-inner (Fir u (Some f) d) = looks-filter f.0
looks-inner (DownCic factor stages delay) = looks-moving stages (factor * delay)
looks-inner (UpCic factor stages delay) = looks-moving stages (factor * delay)
looks-inner (Rounding shift mode) = looks-itself
looks-inner (Clipping bits) = looks-itself

-- ---- all groups

ceil_covers : (n d : ℕ) → 0 < d → n ≤ ceil_div n d * d
ceil_covers n d some = omega (arith, div-add-mod' (n + (d - 1)) d, mod_below (n + (d - 1)) d some)

-- what the groups of an accepted plan are
record IsWholeRate (period : ℕ) (g : Group) : Type 0 where
  some : 0 < up_factor g
  whole : period_after g period * up_factor g ≡ period * down_factor g

abbrev AreWholeRates : ℕ → List Group → Type 0
AreWholeRates period [] = Unit {0}
AreWholeRates period (g ∷ gs) = IsWholeRate period g × AreWholeRates (period_after g period) gs

positive : (a b : ℕ) → 0 < a → 0 < b → 0 < a * b
positive a b h k = omega (arith, mul-le-mul_left a k)

group-reaches : (ticks period : ℕ) (g : Group) (s : Spread) (f : Sequence → Sequence) → 0 < ticks → IsWholeRate period g → Reaches ticks period s.reach f
    → Reaches ticks (period_after g period) (spread_after ticks g period s).reach (λ x. apply_group g (f x))
group-reaches ticks period g s f some plain h x y n near =
    let more = ceil_div (memory_of g * period) (up_factor g * ticks) in
    let covers = ceil_covers (memory_of g * period) (up_factor g * ticks) (positive (up_factor g) ticks plain.some some) in
    group-parts g (f x) n
    ∙ ap (last_step g) (step ticks period (period_after g period) (up_factor g) (down_factor g) s.reach more (memory_of g) f (inner g) plain.some plain.whole covers (looks-inner g) h x y n near)
    ∙ sym (group-parts g (f y) n)

groups-reach : (ticks period : ℕ) (gs : List Group) (s : Spread) (st : Stream) (f : Sequence → Sequence) → 0 < ticks → st.period ≡ period → AreWholeRates period gs → Reaches ticks period s.reach f
    → Reaches ticks (after_all gs st).period (spread_after_all ticks gs period s).reach (λ x. apply_groups gs (f x))
groups-reach ticks period [] s st f some is plain h = subst (λ (p : ℕ). Reaches ticks p s.reach f) (sym is) h
groups-reach ticks period (g ∷ gs) s st f some is plain h =
    groups-reach ticks (period_after g period) gs (spread_after ticks g period s) (after g st) (λ x. apply_group g (f x)) some (ap (period_after g) is) plain.1
    (group-reaches ticks period g s f some plain.0 h)

-- one sample
itself-reaches : (ticks : ℕ) → 0 < ticks → Reaches ticks ticks 1 (λ (x : Sequence). x)
itself-reaches ticks some x y n h = h n (omega (arith, ints)) (next n)
  where
    next : (n : ℤ) → (n *ℤ pos ticks) <ℤ ((n +ℤ pos 1) *ℤ pos ticks)
    next n = omega (arith, ints, +ℤ-*ℤ n (pos 1) (pos ticks))

-- ---- accepted plans

rate_whole : (first period : ℕ) (g : Group) → 0 < up_factor g → rate_test first period g ≡ None → period_after g period * up_factor g ≡ period * down_factor g
rate_whole first period g some e =
    let rest : period * down_factor g % up_factor g ≡ 0 = grind arith in
    omega (arith, rest, div-add-mod' (period * down_factor g) (up_factor g))

abbrev AreSome : List Group → Type 0
AreSome [] = Unit {0}
AreSome (g ∷ gs) = (0 < up_factor g) × AreSome gs

are_whole : (first period : ℕ) (gs : List Group) → AreSome gs → first_failing rate_test period_after first period gs ≡ None → AreWholeRates period gs
are_whole first period [] h e = tt
are_whole first period (g ∷ gs) h e =
    let both = none_of _ _ e in
    (record { some = h.0; whole = rate_whole first period g h.0 both.0 }, are_whole (first + size_of g) (period_after g period) gs h.1 both.1)

some-join_up : (factor : ℕ) (gs : List Group) → 0 < factor → AreSome gs → AreSome (join_up factor gs)
some-join_up factor [] some h = (some, tt)
some-join_up factor (Fir None f d ∷ gs) some h = (some, h.1)
some-join_up factor (Fir (Some u) f d ∷ gs) some h = (some, h)
some-join_up factor (DownCic other stages delay ∷ gs) some h = (some, h)
some-join_up factor (UpCic other stages delay ∷ gs) some h = (some, h)
some-join_up factor (Rounding shift mode ∷ gs) some h = (some, h)
some-join_up factor (Clipping bits ∷ gs) some h = (some, h)

some-join_filter : (taps : List ℤ) (form : Form) (gs : List Group) → AreSome gs → AreSome (join_filter taps form gs)
some-join_filter taps form [] h = (omega arith, tt)
some-join_filter taps form (Fir None None d ∷ gs) h = (omega arith, h.1)
some-join_filter taps form (Fir None (Some f) d ∷ gs) h = (omega arith, h)
some-join_filter taps form (Fir (Some u) None d ∷ gs) h = (omega arith, h)
some-join_filter taps form (Fir (Some u) (Some f) d ∷ gs) h = (omega arith, h)
some-join_filter taps form (DownCic other stages delay ∷ gs) h = (omega arith, h)
some-join_filter taps form (UpCic other stages delay ∷ gs) h = (omega arith, h)
some-join_filter taps form (Rounding shift mode ∷ gs) h = (omega arith, h)
some-join_filter taps form (Clipping bits ∷ gs) h = (omega arith, h)

are_some : (es : List Element) → All IsWithinLimits es → AreSome (groups es)
are_some [] h = tt
are_some (Up factor ∷ es) h = some-join_up (size factor) (groups es) (size_low 4096 factor (h 0 (Up factor) (omega arith))) (are_some es (tail_limits (Up factor) es h))
are_some (Down factor ∷ es) h = (omega arith, are_some es (tail_limits (Down factor) es h))
are_some (Filter taps form ∷ es) h = some-join_filter taps form (groups es) (are_some es (tail_limits (Filter taps form) es h))
are_some (CicDown factor stages delay ∷ es) h = (omega arith, are_some es (tail_limits (CicDown factor stages delay) es h))
are_some (CicUp factor stages delay ∷ es) h =
    (size_low 4096 factor (h 0 (CicUp factor stages delay) (omega arith)).0, are_some es (tail_limits (CicUp factor stages delay) es h))
are_some (Round shift mode ∷ es) h = (omega arith, are_some es (tail_limits (Round shift mode) es h))
are_some (Clip bits ∷ es) h = (omega arith, are_some es (tail_limits (Clip bits) es h))

pub reach_holds : (ticks : ℕ) (elements : List Element) → 1 ≤ ticks → All IsWithinLimits elements → rates_test ticks (groups elements) ≡ None → ReachHolds ticks elements
reach_holds ticks elements some limits rates xs ys n near =
    ap (λ (s : Sequence). s n) (chain-groups elements (samples xs))
    ∙ groups-reach ticks ticks (groups elements) (record { classes = 1; reach = 1 }) (input 1 ticks) (λ x. x) some refl
    (are_whole 1 ticks (groups elements) (are_some elements limits) rates) (itself-reaches ticks some) (samples xs) (samples ys) n near
    ∙ sym (ap (λ (s : Sequence). s n) (chain-groups elements (samples ys)))
