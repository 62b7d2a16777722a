-- Filters whose taps are 0 off the multiples of a factor.
use Rattle.std.proofs.Common.{◌≡◌, ◌∙◌, ℕ, zero, suc, ◌+◌, ◌-◌, ◌*◌, ◌/◌, ◌%◌, ◌<◌, ◌≤◌, ◌⊎◌, inl, inr, true, false, ◌||◌, eqb, List, [], ◌∷◌, ℤ, pos, ◌+ℤ◌, ◌-ℤ◌, ◌*ℤ◌, arith, refl, sym, ap}
use Rattle.std.proofs.Math.Path.{fun_ext}
use Rattle.std.proofs.Math.Nat.{mul-le-mul_left}
use Rattle.std.proofs.lemmas.Bool.{and_parts, cases_eq, cases_lt, ne_eqb}
use Rattle.std.proofs.lemmas.Bool.Decides.{Decides-int_eq}
use Rattle.std.proofs.lemmas.Int.{ints}
use Rattle.std.proofs.lemmas.Nat.{div-add-mod'}
use Rattle.std.specs.Ordering.{int_eq}
use Rattle.mr_values.specs.Sequence.{Sequence, weighted_sum, up, down, filter, phase}
use Rattle.mr_values.specs.Width.{floor_quotient, floor_remainder}
use Rattle.mr_values.proofs.Ring.{+ℤ-*ℤ}
use Rattle.mr_values.proofs.Division.{floor_split, floor_remainder_below}
use Rattle.mr_values.proofs.Polyphase.{weighted_sum-same, up-at, up-between, filter-up}
use Rattle.noble_rewrite.specs.Rules.{is_zero_off}

-- a multiple plus a part isn't a multiple
between : (a b m r : ℕ) → 0 < r → r < m → a * m ≡ b * m + r → ⊥
between a b m r some below e = either (cases_lt b a)
  where
    either : (b < a) ⊎ (a ≤ b) → ⊥
    either (inl less) =
        let more : b + 1 ≤ a = omega arith in
        omega (arith, e, mul-le-mul_left m more)
    either (inr less) = omega (arith, e, mul-le-mul_left m less)

-- an index that is no multiple
off : (index m wait q : ℕ) → 0 < wait → wait < m → index + wait ≡ q * m → index % m ≡ 0 → ⊥
off index m wait q some below at whole = between q (index / m) m wait some below (omega (arith, at, whole, div-add-mod' index m))

off_by : (index m r q : ℕ) → 0 < r → r < m → index ≡ q * m + r → index % m ≡ 0 → ⊥
off_by index m r q some below at whole = between (index / m) q m r some below (omega (arith, at, whole, div-add-mod' index m))

-- a tap there is 0
zero_tap : (index m : ℕ) (c : ℤ) → (index % m ≡ 0 → ⊥) → (eqb (index % m) 0 || int_eq c (pos 0)) ≡ true → c ≡ pos 0
zero_tap index m c apart h =
    let apart' : eqb (index % m) 0 ≡ false = ne_eqb (index % m) 0 apart in
    let same : int_eq c (pos 0) ≡ true = rw apart' at h in
    (Decides-int_eq c (pos 0)).0 same

no_term : (c a z : ℤ) → c ≡ pos 0 → c *ℤ a +ℤ z ≡ z
no_term c a z none = rw none (omega (arith, ints))

-- a filter of such taps takes each sample at a multiple
pub sparse : (m : ℕ) → 1 ≤ m → (cs : List ℤ) (index wait q : ℕ) (f : ℕ → ℤ) → wait < m → index + wait ≡ q * m → is_zero_off m index cs ≡ true
    → weighted_sum cs f ≡ weighted_sum (phase m wait cs) (λ i. f (wait + i * m))
sparse m some [] index wait q f below at zeros = refl
sparse m some (c ∷ cs) index zero q f below at zeros =
    let parts = and_parts (eqb (index % m) 0 || int_eq c (pos 0)) (is_zero_off m (suc index) cs) zeros in
    let rest = sparse m some cs (suc index) (m - 1) (suc q) (λ k. f (suc k)) (omega arith) (omega arith) parts.1
    ∙ weighted_sum-same (phase m (m - 1) cs) _ (λ i. f (0 + suc i * m)) (λ i. ap f (omega arith)) in
    let first : c *ℤ f zero ≡ c *ℤ f (0 + 0 * m) = ap (λ (k : ℕ). c *ℤ f k) (omega arith) in
    rw (first, rest) refl
sparse m some (c ∷ cs) index (suc w) q f below at zeros =
    let parts = and_parts (eqb (index % m) 0 || int_eq c (pos 0)) (is_zero_off m (suc index) cs) zeros in
    let none = zero_tap index m c (off index m (suc w) q (omega arith) below at) parts.0 in
    no_term c (f zero) (weighted_sum cs (λ k. f (suc k))) none
    ∙ sparse m some cs (suc index) w q (λ k. f (suc k)) (omega arith) (omega arith) parts.1
    ∙ weighted_sum-same (phase m w cs) _ (λ i. f (suc w + i * m)) (λ i. ap f (omega arith))

-- the other phases of such taps are 0
vanishing : (m : ℕ) → 1 ≤ m → (cs : List ℤ) (index wait q r : ℕ) (f : ℕ → ℤ) → 0 < r → r < m → wait < m → index + wait ≡ q * m + r → is_zero_off m index cs ≡ true
    → weighted_sum (phase m wait cs) f ≡ pos 0
vanishing m some [] index wait q r f low high below at zeros = refl
vanishing m some (c ∷ cs) index zero q r f low high below at zeros =
    let parts = and_parts (eqb (index % m) 0 || int_eq c (pos 0)) (is_zero_off m (suc index) cs) zeros in
    let none = zero_tap index m c (off_by index m r q low high (omega arith)) parts.0 in
    no_term c (f zero) _ none ∙ vanishing m some cs (suc index) (m - 1) (suc q) r (λ k. f (suc k)) low high (omega arith) (omega arith) parts.1
vanishing m some (c ∷ cs) index (suc w) q r f low high below at zeros =
    let parts = and_parts (eqb (index % m) 0 || int_eq c (pos 0)) (is_zero_off m (suc index) cs) zeros in
    vanishing m some cs (suc index) w q r f low high (omega arith) (omega arith) parts.1

difference_times : (a b c : ℤ) → (a -ℤ b) *ℤ c ≡ a *ℤ c -ℤ b *ℤ c
difference_times a b c =
    let whole : a -ℤ b +ℤ b ≡ a = omega (arith, ints) in
    omega (arith, ints, +ℤ-*ℤ (a -ℤ b) b c, ap (λ (z : ℤ). z *ℤ c) whole)

place : (n : ℤ) (i m : ℕ) → n *ℤ pos m -ℤ pos (0 + i * m) ≡ (n -ℤ pos i) *ℤ pos m
place n i m = omega (arith, ints, difference_times n (pos i) (pos m))

at_index : (m : ℕ) → 1 ≤ m → (taps : List ℤ) (x : Sequence) → is_zero_off m 0 taps ≡ true → (n : ℤ) → filter (phase m 0 taps) (down m x) n ≡ down m (filter taps x) n
at_index m some taps x zeros n =
    let taken = sparse m some taps 0 0 0 (λ k. x (n *ℤ pos m -ℤ pos k)) (omega arith) (omega arith) zeros in
    let moved = weighted_sum-same (phase m 0 taps) (λ i. x (n *ℤ pos m -ℤ pos (0 + i * m))) (λ i. x ((n -ℤ pos i) *ℤ pos m)) (λ i. ap x (place n i m)) in
    sym (taken ∙ moved)

-- a filter of such taps behind which every so many values are kept
pub filter-down : (m : ℕ) → 1 ≤ m → (taps : List ℤ) (x : Sequence) → is_zero_off m 0 taps ≡ true → filter (phase m 0 taps) (down m x) ≡ down m (filter taps x)
filter-down m some taps x zeros = fun_ext (λ n. at_index m some taps x zeros n)

module _ (l : ℕ) (taps : List ℤ) (v : Sequence) (some : 1 ≤ l) (zeros : is_zero_off l 0 taps ≡ true) where
  at_multiple : (n : ℤ) → floor_remainder n l ≡ 0 → up l (filter (phase l 0 taps) v) n ≡ filter taps (up l v) n
  at_multiple n e =
      let q = floor_quotient n l in
      let split : n ≡ q *ℤ pos l +ℤ pos 0 = omega (arith, ints, floor_split n l some, e) in
      ap (up l (filter (phase l 0 taps) v)) split ∙ up-at l (filter (phase l 0 taps) v) q some
      ∙ sym (ap (filter taps (up l v)) split ∙ filter-up taps l v q 0 some)

  at_other : (n : ℤ) → (floor_remainder n l ≡ 0 → ⊥) → up l (filter (phase l 0 taps) v) n ≡ filter taps (up l v) n
  at_other n apart =
      let q = floor_quotient n l in
      let r = floor_remainder n l in
      let below : r < l = floor_remainder_below n l some in
      let above : 0 < r = omega arith in
      ap (up l (filter (phase l 0 taps) v)) (floor_split n l some) ∙ up-between l (filter (phase l 0 taps) v) q r above below
      ∙ sym (ap (filter taps (up l v)) (floor_split n l some) ∙ filter-up taps l v q r below ∙ vanishing l some taps 0 r 0 r _ above below below (omega arith) zeros)

  -- a filter of such taps before which zeros are put in
  pub up-filter : up l (filter (phase l 0 taps) v) ≡ filter taps (up l v)
  up-filter = fun_ext (λ n. elim (cases_eq (floor_remainder n l) 0) [ inl e ↦ at_multiple n e | inr apart ↦ at_other n apart ])
