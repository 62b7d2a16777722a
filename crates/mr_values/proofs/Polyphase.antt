-- A filter between an Up and a Down, by its phases.
use Rattle.std.proofs.Common.{◌≡◌, ℕ, zero, suc, ◌-◌, ◌<◌, List, [], ◌∷◌, ℤ, pos, negsuc, ◌+ℤ◌, ◌-ℤ◌, ◌*ℤ◌, arith, refl, sym, ◌∙◌, ap}
use Rattle.std.proofs.lemmas.Int.{ints}
use Rattle.std.proofs.lemmas.Bool.{ne_eqb}
use lib.IntN.{+ℤ_idr}
use Rattle.mr_values.specs.Sequence.{Sequence, weighted_sum, up, down, filter, phase}
use Rattle.mr_values.proofs.Ring.{+ℤ-*ℤ}
use Rattle.mr_values.proofs.Division.{floor_unique}

-- a sum of equal terms
pub weighted_sum-same : (cs : List ℤ) (f g : ℕ → ℤ) → ((k : ℕ) → f k ≡ g k) → weighted_sum cs f ≡ weighted_sum cs g
weighted_sum-same [] f g h = refl
weighted_sum-same (c ∷ cs) f g h = rw (h zero, weighted_sum-same cs (λ k. f (suc k)) (λ k. g (suc k)) (λ k. h (suc k))) refl

-- a decimating filter
pub down-filter : (taps : List ℤ) (factor : ℕ) (x : Sequence) (n : ℤ) → down factor (filter taps x) n ≡ weighted_sum taps (λ k. x (n *ℤ pos factor -ℤ pos k))
down-filter taps factor x n = refl

pub up-at : (factor : ℕ) (v : Sequence) (k : ℤ) → 0 < factor → up factor v (k *ℤ pos factor +ℤ pos 0) ≡ v k
up-at factor v k h =
    let parts = floor_unique (k *ℤ pos factor +ℤ pos 0) k factor 0 h refl in
    rw (parts.0, parts.1) refl

pub up-between : (factor : ℕ) (v : Sequence) (k : ℤ) (r : ℕ) → 0 < r → r < factor → up factor v (k *ℤ pos factor +ℤ pos r) ≡ pos 0
up-between factor v k r low h =
    let parts = floor_unique (k *ℤ pos factor +ℤ pos r) k factor r h refl in
    rw (parts.1, ne_eqb r 0 (λ e. omega arith)) refl

-- output m = k * L + r of an interpolating filter
pub filter-up : (taps : List ℤ) (factor : ℕ) (v : Sequence) (k : ℤ) (r : ℕ) → r < factor
    → filter taps (up factor v) (k *ℤ pos factor +ℤ pos r) ≡ weighted_sum (phase factor r taps) (λ i. v (k -ℤ pos i))
filter-up [] factor v k r h = refl
filter-up (c ∷ cs) factor v k zero h =
    let before : (i : ℕ) → k *ℤ pos factor +ℤ pos 0 -ℤ pos (suc i) ≡ (k -ℤ pos 1) *ℤ pos factor +ℤ pos (factor - 1) -ℤ pos i =
    λ i. omega (arith, ints, +ℤ-*ℤ k (negsuc 0) (pos factor)) in
    let first : up factor v (k *ℤ pos factor +ℤ pos 0 -ℤ pos 0) ≡ v (k -ℤ pos 0) =
    ap (up factor v) (+ℤ_idr (k *ℤ pos factor +ℤ pos 0)) ∙ up-at factor v k h ∙ ap v (sym (+ℤ_idr k)) in
    let rest = weighted_sum-same cs _ _ (λ i. ap (up factor v) (before i))
    ∙ filter-up cs factor v (k -ℤ pos 1) (factor - 1) (omega arith)
    ∙ weighted_sum-same (phase factor (factor - 1) cs) _ (λ i. v (k -ℤ pos (suc i))) (λ i. ap v (omega (arith, ints))) in
    rw (first, rest) refl
filter-up (c ∷ cs) factor v k (suc r) h =
    let before : (i : ℕ) → k *ℤ pos factor +ℤ pos (suc r) -ℤ pos (suc i) ≡ k *ℤ pos factor +ℤ pos r -ℤ pos i = λ i. omega (arith, ints) in
    let first : up factor v (k *ℤ pos factor +ℤ pos (suc r) -ℤ pos 0) ≡ pos 0 =
    ap (up factor v) (+ℤ_idr (k *ℤ pos factor +ℤ pos (suc r))) ∙ up-between factor v k (suc r) (omega arith) h in
    let rest = weighted_sum-same cs _ _ (λ i. ap (up factor v) (before i)) ∙ filter-up cs factor v k r (omega arith) in
    rw (first, rest) (omega (arith, ints))

-- a group: output n with n * M = k * L + r is the sum over i of h[r + i * L] * v[k - i]
pub down-filter-up : (taps : List ℤ) (factor_down factor_up : ℕ) (v : Sequence) (n k : ℤ) (r : ℕ) → r < factor_up
    → n *ℤ pos factor_down ≡ k *ℤ pos factor_up +ℤ pos r
    → down factor_down (filter taps (up factor_up v)) n ≡ weighted_sum (phase factor_up r taps) (λ i. v (k -ℤ pos i))
down-filter-up taps factor_down factor_up v n k r h e = ap (filter taps (up factor_up v)) e ∙ filter-up taps factor_up v k r h
