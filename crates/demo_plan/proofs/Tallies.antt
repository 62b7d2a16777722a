-- One more value.
use Rattle.std.proofs.Common.{◌≡◌, ◌∙◌, ℕ, suc, ◌+◌, ◌*◌, ◌^◌, ◌≤◌, refl, sym, ap, arith, List, [], ◌∷◌, ◌++◌, length, ℤ, ◌+ℤ◌, FitsSigned}
use Rattle.std.specs.Int.{w128}
use Rattle.std.proofs.lemmas.List.{length-append}
use Rattle.std.specs.Prelude.{unsigned_abs}
use Rattle.std.proofs.lemmas.Int.{ints}
use Rattle.demo_plan.specs.Extremes.{sum_of, lesser, greater, least_of, greatest_of, least_with, greatest_with}

pub sum_more : (vs : List ℤ) (v : ℤ) → sum_of (vs ++ v ∷ []) ≡ sum_of vs +ℤ v
sum_more [] v = omega (arith, ints)
sum_more (w ∷ vs) v = omega (arith, ints, sum_more vs v)

lesser_join : (a b c : ℤ) → lesser a (lesser b c) ≡ lesser (lesser a b) c
lesser_join a b c = grind (arith, ints)

greater_join : (a b c : ℤ) → greater a (greater b c) ≡ greater (greater a b) c
greater_join a b c = grind (arith, ints)

some_least : (n : ℕ) (least v : ℤ) → least_with (suc n) least v ≡ lesser least v
some_least n least v = grind arith

some_greatest : (n : ℕ) (greatest v : ℤ) → greatest_with (suc n) greatest v ≡ greater greatest v
some_greatest n greatest v = grind arith

least_at : (w : ℤ) (vs : List ℤ) (v : ℤ) → least_of ((w ∷ vs) ++ v ∷ []) ≡ lesser (least_of (w ∷ vs)) v
least_at w [] v = refl
least_at w (u ∷ vs) v = ap (lesser w) (least_at u vs v) ∙ lesser_join w (least_of (u ∷ vs)) v

greatest_at : (w : ℤ) (vs : List ℤ) (v : ℤ) → greatest_of ((w ∷ vs) ++ v ∷ []) ≡ greater (greatest_of (w ∷ vs)) v
greatest_at w [] v = refl
greatest_at w (u ∷ vs) v = ap (greater w) (greatest_at u vs v) ∙ greater_join w (greatest_of (u ∷ vs)) v

pub least_more : (vs : List ℤ) (v : ℤ) → least_of (vs ++ v ∷ []) ≡ least_with (length vs) (least_of vs) v
least_more [] v = refl
least_more (w ∷ vs) v = least_at w vs v ∙ sym (some_least (length vs) (least_of (w ∷ vs)) v)

pub greatest_more : (vs : List ℤ) (v : ℤ) → greatest_of (vs ++ v ∷ []) ≡ greatest_with (length vs) (greatest_of vs) v
greatest_more [] v = refl
greatest_more (w ∷ vs) v = greatest_at w vs v ∙ sym (some_greatest (length vs) (greatest_of (w ∷ vs)) v)

pub fits_sum : (count : ℕ) (a b : ℤ) → count ≤ 2 ^ 32 → unsigned_abs a ≤ count * 2 ^ 64 → unsigned_abs b ≤ 2 ^ 64 → FitsSigned w128 (a +ℤ b)
fits_sum count a b few h k = grind (arith, ints)

pub count_more : (vs : List ℤ) (v : ℤ) (count : ℕ) → count ≡ length vs → count + 1 ≡ length (vs ++ v ∷ [])
count_more vs v count e = omega (arith, length-append vs (v ∷ []))

pub sum_next : (vs : List ℤ) (v sum : ℤ) → sum ≡ sum_of vs → sum +ℤ v ≡ sum_of (vs ++ v ∷ [])
sum_next vs v sum e = ap (λ (s : ℤ). s +ℤ v) e ∙ sym (sum_more vs v)

pub least_next : (vs : List ℤ) (v least next : ℤ) (count : ℕ) → next ≡ least_with count least v → count ≡ length vs → least ≡ least_of vs → next ≡ least_of (vs ++ v ∷ [])
least_next vs v least next count is c e = is ∙ ap (λ (n : ℕ). least_with n least v) c ∙ ap (λ (z : ℤ). least_with (length vs) z v) e ∙ sym (least_more vs v)

pub greatest_next : (vs : List ℤ) (v greatest next : ℤ) (count : ℕ) → next ≡ greatest_with count greatest v → count ≡ length vs → greatest ≡ greatest_of vs → next ≡ greatest_of (vs ++ v ∷ [])
greatest_next vs v greatest next count is c e = is ∙ ap (λ (n : ℕ). greatest_with n greatest v) c ∙ ap (λ (z : ℤ). greatest_with (length vs) z v) e ∙ sym (greatest_more vs v)
