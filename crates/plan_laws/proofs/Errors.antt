-- The bound of the rounding error.
use Rattle.std.proofs.Common.{◌≡◌, ◌∙◌, ℕ, zero, suc, ◌+◌, ◌-◌, ◌*◌, ◌^◌, ◌<◌, ◌≤◌, refl, sym, ap, arith, subst, List, [], ◌∷◌, ℤ, pos, negsuc, neg_ℤ, ◌+ℤ◌, ◌-ℤ◌, ◌*ℤ◌, ◌≤ℤ◌, None, Some, Bool, true, false, cond, nat_eq}
use Rattle.std.specs.Prelude.{All, unsigned_abs}
use Rattle.std.proofs.lemmas.Int.{ints, unsigned_abs-mul}
use Rattle.std.proofs.lemmas.Nat.{pow_pos, pow-add}
use Rattle.std.proofs.lemmas.Bool.{true≢false}
use Rattle.std.proofs.Math.Nat.{pow-suc, pow-zero, mul-le-mul_left}
use Rattle.mr_values.specs.declared.plan.Element.{Element}
use Rattle.mr_values.specs.declared.plan.Element.TheVariants.{Up, Down, Filter, CicDown, CicUp, Round, Clip}
use Rattle.mr_values.specs.declared.plan.Form.{Form}
use Rattle.mr_values.specs.declared.plan.Mode.{Mode}
use Rattle.mr_values.specs.declared.plan.Mode.TheVariants.{HalfUp, HalfEven, Floor}
use Rattle.mr_values.specs.Width.{floor_quotient, floor_remainder}
use Rattle.mr_values.specs.Sequence.{Sequence, samples, weighted_sum, up, down, filter, filter_times, ones}
use Rattle.mr_values.specs.Value.{size, apply, chain, round_value, has_clip, IsWithinLimits}
use Rattle.mr_values.specs.Timing.{Group, Fir, DownCic, UpCic, Rounding, Clipping, groups, join_up, join_filter}
use Rattle.mr_values.specs.Rounding.{half_even}
use Rattle.mr_values.proofs.HalfEvenLemmas.{near_law}
use Rattle.mr_values.proofs.Division.{floor_split, floor_remainder_below, pow_halves}
use Rattle.mr_values.proofs.Ring.{*ℤ-+ℤ, *ℤ_assoc}
use Rattle.plan_check.specs.Amounts.{magnitude, round_error, RoundingError, error_after_all, no_error}
use Rattle.plan_check.proofs.GroupSplit.{size_low, tail_limits}
use Rattle.plan_check.proofs.Narrow.{triangle}
use Rattle.plan_laws.specs.Laws.{plain, BoundHolds}

-- ---- the error, element by element

abbrev pub error_past : Element → RoundingError → RoundingError
error_past (Up factor) e = e
error_past (Down factor) e = e
error_past (Filter taps form) e = record { bound = e.bound * magnitude taps; shift = e.shift }
error_past (CicDown factor stages delay) e = record { bound = e.bound * (size factor * size delay) ^ size stages; shift = e.shift }
error_past (CicUp factor stages delay) e = record { bound = e.bound * (size factor * size delay) ^ size stages; shift = e.shift }
error_past (Round shift mode) e = record { bound = e.bound + 2 ^ e.shift * round_error mode (size shift); shift = e.shift + size shift }
error_past (Clip bits) e = e

kept : (e : RoundingError) → record { bound = e.bound * 1; shift = e.shift } ≡ e
kept e = ap (λ (n : ℕ). record { bound = n; shift = e.shift }) (omega arith)

error-join_up : (factor : ℕ) (gs : List Group) (e : RoundingError) → error_after_all (join_up factor gs) e ≡ error_after_all gs e
error-join_up factor [] e = kept e
error-join_up factor (Fir None filter down ∷ gs) e = refl
error-join_up factor (Fir (Some up) filter down ∷ gs) e = ap (error_after_all (Fir (Some up) filter down ∷ gs)) (kept e)
error-join_up factor (DownCic other stages delay ∷ gs) e = ap (error_after_all (DownCic other stages delay ∷ gs)) (kept e)
error-join_up factor (UpCic other stages delay ∷ gs) e = ap (error_after_all (UpCic other stages delay ∷ gs)) (kept e)
error-join_up factor (Rounding shift mode ∷ gs) e = ap (error_after_all (Rounding shift mode ∷ gs)) (kept e)
error-join_up factor (Clipping bits ∷ gs) e = ap (error_after_all (Clipping bits ∷ gs)) (kept e)

error-join_filter : (taps : List ℤ) (form : Form) (gs : List Group) (e : RoundingError) → error_after_all (join_filter taps form gs) e ≡ error_after_all gs (error_past (Filter taps form) e)
error-join_filter taps form [] e = refl
error-join_filter taps form (Fir None None down ∷ gs) e = sym (ap (error_after_all gs) (kept (error_past (Filter taps form) e)))
error-join_filter taps form (Fir None (Some f) down ∷ gs) e = refl
error-join_filter taps form (Fir (Some up) None down ∷ gs) e = refl
error-join_filter taps form (Fir (Some up) (Some f) down ∷ gs) e = refl
error-join_filter taps form (DownCic other stages delay ∷ gs) e = refl
error-join_filter taps form (UpCic other stages delay ∷ gs) e = refl
error-join_filter taps form (Rounding shift mode ∷ gs) e = refl
error-join_filter taps form (Clipping bits ∷ gs) e = refl

error-element : (el : Element) (es : List Element) (e : RoundingError) → error_after_all (groups (el ∷ es)) e ≡ error_after_all (groups es) (error_past el e)
error-element (Up factor) es e = error-join_up (size factor) (groups es) e
error-element (Down factor) es e = ap (error_after_all (groups es)) (kept e)
error-element (Filter taps form) es e = error-join_filter taps form (groups es) e
error-element (CicDown factor stages delay) es e = refl
error-element (CicUp factor stages delay) es e = refl
error-element (Round shift mode) es e = refl
error-element (Clip bits) es e = refl

-- ---- two sequences that differ by at most a bound

-- k times x is at most the bound away from v
abbrev pub Near : ℕ → ℕ → Sequence → Sequence → Type 0
Near k bound x v = (n : ℤ) → unsigned_abs (pos k *ℤ x n -ℤ v n) ≤ bound

commuted : (a b : ℤ) → a *ℤ b ≡ b *ℤ a
commuted a b = omega (arith, ints)

negated : (a b : ℤ) → a *ℤ neg_ℤ b ≡ neg_ℤ (a *ℤ b)
negated a b =
    let none : b +ℤ neg_ℤ b ≡ pos 0 = omega (arith, ints) in
    omega (arith, ints, *ℤ-+ℤ a b (neg_ℤ b), ap (λ (z : ℤ). a *ℤ z) none)

scaled_sum : (cs : List ℤ) (k : ℕ) (f g : ℕ → ℤ) → pos k *ℤ weighted_sum cs f -ℤ weighted_sum cs g ≡ weighted_sum cs (λ i. pos k *ℤ f i -ℤ g i)
scaled_sum [] k f g = omega (arith, ints)
scaled_sum (c ∷ cs) k f g =
    let rest = scaled_sum cs k (λ i. f (suc i)) (λ i. g (suc i)) in
    let split = *ℤ-+ℤ (pos k) (c *ℤ f zero) (weighted_sum cs (λ i. f (suc i))) in
    let first = *ℤ-+ℤ c (pos k *ℤ f zero) (neg_ℤ (g zero)) in
    let swap : pos k *ℤ (c *ℤ f zero) ≡ c *ℤ (pos k *ℤ f zero) = sym (*ℤ_assoc (pos k) c (f zero)) ∙ ap (λ (z : ℤ). z *ℤ f zero) (commuted (pos k) c) ∙ *ℤ_assoc c (pos k) (f zero) in
    omega (arith, ints, rest, split, first, swap, negated c (g zero))

sum-bound : (cs : List ℤ) (bound : ℕ) (f : ℕ → ℤ) → ((i : ℕ) → unsigned_abs (f i) ≤ bound) → unsigned_abs (weighted_sum cs f) ≤ bound * magnitude cs
sum-bound [] bound f h = omega arith
sum-bound (c ∷ cs) bound f h =
    omega (
      arith,
      triangle (c *ℤ f zero) (weighted_sum cs (λ i. f (suc i))),
      unsigned_abs-mul c (f zero),
      mul-le-mul_left (unsigned_abs c) (h zero),
      sum-bound cs bound (λ i. f (suc i)) (λ i. h (suc i)),
    )

near-filter : (taps : List ℤ) (k bound : ℕ) (x v : Sequence) → Near k bound x v → Near k (bound * magnitude taps) (filter taps x) (filter taps v)
near-filter taps k bound x v h n =
    rw (scaled_sum taps k (λ i. x (n -ℤ pos i)) (λ i. v (n -ℤ pos i)))
    (sum-bound taps bound (λ i. pos k *ℤ x (n -ℤ pos i) -ℤ v (n -ℤ pos i)) (λ i. h (n -ℤ pos i)))

magnitude-ones : (n : ℕ) → magnitude (ones n) ≡ n
magnitude-ones zero = refl
magnitude-ones (suc n) = omega (arith, magnitude-ones n)

near-moving : (stages n k bound : ℕ) (x v : Sequence) → Near k bound x v → Near k (bound * n ^ stages) (filter_times stages (ones n) x) (filter_times stages (ones n) v)
near-moving zero n k bound x v h m = let e : bound * n ^ 0 ≡ bound = omega (arith, ap (λ (y : ℕ). bound * y) (pow-zero n)) in rw e (h m)
near-moving (suc stages) n k bound x v h m =
    let before = near-moving stages n k bound x v h in
    let e : bound * n ^ stages * magnitude (ones n) ≡ bound * n ^ suc stages = omega (arith, ap (λ (y : ℕ). bound * n ^ stages * y) (magnitude-ones n), ap (λ (y : ℕ). bound * y) (pow-suc n stages)) in
    subst (λ (b : ℕ). unsigned_abs (pos k *ℤ filter_times (suc stages) (ones n) x m -ℤ filter_times (suc stages) (ones n) v m) ≤ b) e
    (near-filter (ones n) k (bound * n ^ stages) (filter_times stages (ones n) x) (filter_times stages (ones n) v) before m)

near-up : (factor k bound : ℕ) (x v : Sequence) → Near k bound x v → Near k bound (up factor x) (up factor v)
near-up factor k bound x v h m = at (nat_eq (floor_remainder m factor) 0)
  where
    at : (b : Bool) → unsigned_abs (pos k *ℤ cond b (x (floor_quotient m factor)) (pos 0) -ℤ cond b (v (floor_quotient m factor)) (pos 0)) ≤ bound
    at true = h (floor_quotient m factor)
    at false = let e : pos k *ℤ pos 0 -ℤ pos 0 ≡ pos 0 = omega (arith, ints) in subst (λ (z : ℤ). unsigned_abs z ≤ bound) (sym e) (omega arith)

near-down : (factor k bound : ℕ) (x v : Sequence) → Near k bound x v → Near k bound (down factor x) (down factor v)
near-down factor k bound x v h n = h (n *ℤ pos factor)

-- ---- one rounding

magnitude-of : (z : ℤ) (low high most : ℕ) → z ≡ pos low -ℤ pos high → low ≤ most → high ≤ most → unsigned_abs z ≤ most
magnitude-of (pos n) low high most e p q = omega (arith, ints)
magnitude-of (negsuc n) low high most e p q = omega (arith, ints)

-- 2 ^ shift times the rounded value
off-by : (mode : Mode) (shift : ℕ) (z : ℤ) → 1 ≤ shift → unsigned_abs (pos (2 ^ shift) *ℤ round_value mode shift z -ℤ z) ≤ round_error mode shift
off-by HalfUp shift z some =
    let half = 2 ^ (shift - 1) in
    let raised = z +ℤ pos half in
    let split = floor_split raised (2 ^ shift) (pow_pos shift) in
    let below = floor_remainder_below raised (2 ^ shift) (pow_pos shift) in
    let rest = floor_remainder raised (2 ^ shift) in
    let q = floor_quotient raised (2 ^ shift) in
    let e : pos (2 ^ shift) *ℤ q -ℤ z ≡ pos half -ℤ pos rest = omega (arith, ints, split) in
    rest-half (2 ^ shift) half rest _ e below (pow_halves shift some)
  where
    rest-half : (d half rest : ℕ) (z : ℤ) → z ≡ pos half -ℤ pos rest → rest < d → d ≡ half + half → unsigned_abs z ≤ half
    rest-half d half rest (pos n) e below two = omega (arith, ints)
    rest-half d half rest (negsuc n) e below two = omega (arith, ints)
off-by HalfEven shift z some =
    let near = near_law shift z some in
    let half = 2 ^ (shift - 1) in
    let swap : pos (2 ^ shift) *ℤ half_even shift z ≡ half_even shift z *ℤ pos (2 ^ shift) = commuted (pos (2 ^ shift)) (half_even shift z) in
    between-half (pos (2 ^ shift) *ℤ half_even shift z -ℤ z) half (omega (arith, ints, swap, near.0)) (omega (arith, ints, swap, near.1))
  where
    between-half : (z : ℤ) (half : ℕ) → z ≤ℤ pos half → neg_ℤ (pos half) ≤ℤ z → unsigned_abs z ≤ half
    between-half (pos n) half high low = omega (arith, ints)
    between-half (negsuc n) half high low = omega (arith, ints)
off-by Floor shift z some =
    let split = floor_split z (2 ^ shift) (pow_pos shift) in
    let below = floor_remainder_below z (2 ^ shift) (pow_pos shift) in
    let rest = floor_remainder z (2 ^ shift) in
    let e : pos (2 ^ shift) *ℤ floor_quotient z (2 ^ shift) -ℤ z ≡ pos 0 -ℤ pos rest = omega (arith, ints, split) in
    magnitude-of _ 0 rest (2 ^ shift - 1) e (omega arith) (omega (arith, below))

near-round : (mode : Mode) (shift scale bound : ℕ) (x v : Sequence) → 1 ≤ shift → Near (2 ^ scale) bound x v → Near (2 ^ (scale + shift)) (bound + 2 ^ scale * round_error mode shift) (λ n. round_value mode shift (x n)) v
near-round mode shift scale bound x v some h n =
    let y = round_value mode shift (x n) in
    let off = off-by mode shift (x n) some in
    let scaled = unsigned_abs-mul (pos (2 ^ scale)) (pos (2 ^ shift) *ℤ y -ℤ x n) in
    let grown = mul-le-mul_left (2 ^ scale) off in
    let scales : pos (2 ^ (scale + shift)) ≡ pos (2 ^ scale) *ℤ pos (2 ^ shift) = omega (arith, ints, pow-add 2 scale shift) in
    let power : pos (2 ^ (scale + shift)) *ℤ y ≡ pos (2 ^ scale) *ℤ (pos (2 ^ shift) *ℤ y) = ap (λ (z : ℤ). z *ℤ y) scales ∙ *ℤ_assoc (pos (2 ^ scale)) (pos (2 ^ shift)) y in
    let spread = *ℤ-+ℤ (pos (2 ^ scale)) (pos (2 ^ shift) *ℤ y) (neg_ℤ (x n)) in
    let parts : pos (2 ^ (scale + shift)) *ℤ y -ℤ v n ≡ pos (2 ^ scale) *ℤ (pos (2 ^ shift) *ℤ y -ℤ x n) +ℤ (pos (2 ^ scale) *ℤ x n -ℤ v n) =
    omega (arith, ints, power, spread, negated (pos (2 ^ scale)) (x n)) in
    rw parts (omega (arith, triangle (pos (2 ^ scale) *ℤ (pos (2 ^ shift) *ℤ y -ℤ x n)) (pos (2 ^ scale) *ℤ x n -ℤ v n), scaled, grown, h n))

-- ---- chains

-- the bound after all groups, by the bound after the first element
by-element : (el : Element) (es : List Element) (e : RoundingError) (x v : Sequence) → Near (2 ^ (error_after_all (groups es) (error_past el e)).shift) (error_after_all (groups es) (error_past el e)).bound x v
    → Near (2 ^ (error_after_all (groups (el ∷ es)) e).shift) (error_after_all (groups (el ∷ es)) e).bound x v
by-element el es e x v h = subst (λ (f : RoundingError). Near (2 ^ f.shift) f.bound x v) (sym (error-element el es e)) h

near-chain : (es : List Element) (e : RoundingError) (x v : Sequence) → has_clip es ≡ false → All IsWithinLimits es → Near (2 ^ e.shift) e.bound x v
    → Near (2 ^ (error_after_all (groups es) e).shift) (error_after_all (groups es) e).bound (chain es x) (chain (plain es) v)
near-chain [] e x v free limits h = h
near-chain (Up factor ∷ es) e x v free limits h =
    by-element (Up factor) es e _ _ (near-chain es e (up (size factor) x) (up (size factor) v) free (tail_limits (Up factor) es limits) (near-up (size factor) (2 ^ e.shift) e.bound x v h))
near-chain (Down factor ∷ es) e x v free limits h =
    by-element (Down factor) es e _ _ (near-chain es e (down (size factor) x) (down (size factor) v) free (tail_limits (Down factor) es limits) (near-down (size factor) (2 ^ e.shift) e.bound x v h))
near-chain (Filter taps form ∷ es) e x v free limits h =
    by-element (Filter taps form) es e _ _
    (near-chain es (error_past (Filter taps form) e) (filter taps x) (filter taps v) free (tail_limits (Filter taps form) es limits) (near-filter taps (2 ^ e.shift) e.bound x v h))
near-chain (CicDown factor stages delay ∷ es) e x v free limits h =
    let n = size factor * size delay in
    let moving = near-moving (size stages) n (2 ^ e.shift) e.bound x v h in
    let kept_ones = near-down (size factor) (2 ^ e.shift) (e.bound * n ^ size stages) (filter_times (size stages) (ones n) x) (filter_times (size stages) (ones n) v) moving in
    by-element (CicDown factor stages delay) es e _ _
    (near-chain es (error_past (CicDown factor stages delay) e) (apply (CicDown factor stages delay) x) (apply (CicDown factor stages delay) v) free (tail_limits (CicDown factor stages delay) es limits) kept_ones)
near-chain (CicUp factor stages delay ∷ es) e x v free limits h =
    let n = size factor * size delay in
    let raised = near-up (size factor) (2 ^ e.shift) e.bound x v h in
    let moving = near-moving (size stages) n (2 ^ e.shift) e.bound (up (size factor) x) (up (size factor) v) raised in
    by-element (CicUp factor stages delay) es e _ _
    (near-chain es (error_past (CicUp factor stages delay) e) (apply (CicUp factor stages delay) x) (apply (CicUp factor stages delay) v) free (tail_limits (CicUp factor stages delay) es limits) moving)
near-chain (Round shift mode ∷ es) e x v free limits h =
    let rounded = near-round mode (size shift) e.shift e.bound x v (size_low 64 shift (limits 0 (Round shift mode) (omega arith))) h in
    by-element (Round shift mode) es e _ _ (near-chain es (error_past (Round shift mode) e) (apply (Round shift mode) x) v free (tail_limits (Round shift mode) es limits) rounded)
near-chain (Clip bits ∷ es) e x v free limits h = absurd (true≢false free)

pub bound_holds : (elements : List Element) → All IsWithinLimits elements → BoundHolds elements
bound_holds elements limits free xs n = near-chain elements no_error (samples xs) (samples xs) free limits same n
  where
    itself : (z : ℤ) → unsigned_abs (pos 1 *ℤ z -ℤ z) ≤ 0
    itself z = let e : pos 1 *ℤ z -ℤ z ≡ pos 0 = omega (arith, ints) in rw e (omega arith)

    same : Near (2 ^ 0) 0 (samples xs) (samples xs)
    same m = itself (samples xs m)
