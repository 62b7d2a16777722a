-- What the plain program's loops and calls need.
use Rattle.std.proofs.Common.{◌≡◌, ℕ, zero, suc, ◌+◌, ◌-◌, ◌*◌, ◌<◌, List, [], ◌∷◌, ◌++◌, length, take, get_or, ℤ, pos, negsuc, ◌+ℤ◌, ◌*ℤ◌, arith, add-one, refl, sym, ◌∙◌, ap}
use Rattle.std.proofs.lemmas.Int.{ints}
use Rattle.std.specs.Int.{int_div_euclid, int_rem_euclid}
use Rattle.mr_values.specs.declared.plan.Element.{Element}
use Rattle.mr_values.specs.Width.{floor_quotient, floor_remainder}
use Rattle.mr_values.specs.Sequence.{Sequence, weighted_sum, filter, filter_times, ones, up, cic_down, cic_up}
use Rattle.mr_values.specs.Value.{size, apply, chain}
use Rattle.std.proofs.Math.Path.{fun_ext}
use Rattle.std.specs.Prelude.{Option, None, Some, IfSome}
use Rattle.mr_values.proofs.Division.{floor_unique}

-- one tap more
weighted_sum-take_suc : (cs : List ℤ) (f : ℕ → ℤ) (k : ℕ) → k < length cs → weighted_sum (take (suc k) cs) f ≡ weighted_sum (take k cs) f +ℤ get_or cs k (pos 0) *ℤ f k
weighted_sum-take_suc [] f k h = absurd (omega arith)
weighted_sum-take_suc (c ∷ cs) f zero h = omega (arith, ints)
weighted_sum-take_suc (c ∷ cs) f (suc k) h = omega (arith, ints, weighted_sum-take_suc cs (λ i. f (suc i)) k (omega arith))

-- the step of a filter's loop
pub filter-step : (cs : List ℤ) (f : ℕ → ℤ) (k : ℕ) (sum value sum' : ℤ) → k < length cs → sum ≡ weighted_sum (take k cs) f → value ≡ f k
    → sum' ≡ sum +ℤ get_or cs k (pos 0) *ℤ value → sum' ≡ weighted_sum (take (k + 1) cs) f
filter-step cs f k sum value sum' h is at e = rw add-one (e ∙ rw (is, at) (sym (weighted_sum-take_suc cs f k h)))

weighted_sum-ones_suc : (f : ℕ → ℤ) (k : ℕ) → weighted_sum (ones (suc k)) f ≡ weighted_sum (ones k) f +ℤ f k
weighted_sum-ones_suc f zero = one_times (f zero)
  where
    one_times : (z : ℤ) → pos 1 *ℤ z +ℤ pos 0 ≡ pos 0 +ℤ z
    one_times z = omega (arith, ints)
weighted_sum-ones_suc f (suc k) = omega (arith, ints, weighted_sum-ones_suc (λ i. f (suc i)) k)

pub stage-step : (f : ℕ → ℤ) (k : ℕ) (sum value sum' : ℤ) → sum ≡ weighted_sum (ones k) f → value ≡ f k → sum' ≡ sum +ℤ value → sum' ≡ weighted_sum (ones (k + 1)) f
stage-step f k sum value sum' is at e = rw add-one (e ∙ rw (is, at) (sym (weighted_sum-ones_suc f k)))

pub chain-append : (es gs : List Element) (x : Sequence) → chain (es ++ gs) x ≡ chain gs (chain es x)
chain-append [] gs x = refl
chain-append (e ∷ es) gs x = chain-append es gs (apply e x)

pub chain-empty : (es : List Element) (x : Sequence) → length es ≡ 0 → chain es x ≡ x
chain-empty [] x e = refl
chain-empty (g ∷ es) x e = absurd (omega arith)

pub chain-last : (es before : List Element) (last : Element) (x : Sequence) → es ≡ before ++ last ∷ [] → chain es x ≡ apply last (chain before x)
chain-last es before last x e = ap (λ (gs : List Element). chain gs x) e ∙ chain-append before (last ∷ []) x

pub filter_times-more : (stages : ℕ) (taps : List ℤ) (x : Sequence) → 0 < stages → filter_times stages taps x ≡ filter taps (filter_times (stages - 1) taps x)
filter_times-more zero taps x h = absurd (omega arith)
filter_times-more (suc n) taps x h = let e : suc n - 1 ≡ n = omega arith in rw e refl

pub int_div_euclid-floor : (z : ℤ) (d : ℕ) → int_div_euclid z (pos d) ≡ floor_quotient z d
int_div_euclid-floor (pos a) d = refl
int_div_euclid-floor (negsuc a) d = refl

pub int_rem_euclid-floor : (z : ℤ) (d : ℕ) → int_rem_euclid z (pos d) ≡ pos (floor_remainder z d)
int_rem_euclid-floor (pos a) d = refl
int_rem_euclid-floor (negsuc a) d = refl

-- an answer by an equal value
pub same_answer : (r : Option ℤ) (a b : ℤ) → IfSome r (λ v. v ≡ a) → a ≡ b → IfSome r (λ v. v ≡ b)
same_answer None a b h e = h
same_answer (Some v) a b h e = h ∙ e

pub up-one : (x : Sequence) → up 1 x ≡ x
up-one x = fun_ext (λ n. at n (floor_unique n n 1 0 (omega arith) (omega (arith, ints))))
  where
    at : (n : ℤ) → (floor_quotient n 1 ≡ n) × (floor_remainder n 1 ≡ 0) → up 1 x n ≡ x n
    at n parts = rw (parts.0, parts.1) refl

pub cic_down-plain : (x : Sequence) (f s d n at : ℤ) (a b e g : ℕ) → a ≡ size f → b ≡ size s → e ≡ size f → g ≡ size d → at ≡ n *ℤ pos a
    → filter_times b (ones (e * g)) (up 1 x) at ≡ cic_down (size f) (size s) (size d) x n
cic_down-plain x f s d n at a b e g ha hb he hg hat = rw (hat, ha, hb, he, hg, up-one x) refl

pub cic_up-plain : (x : Sequence) (f s d n : ℤ) (a b g : ℕ) → a ≡ size f → b ≡ size s → g ≡ size d
    → filter_times b (ones (a * g)) (up a x) n ≡ cic_up (size f) (size s) (size d) x n
cic_up-plain x f s d n a b g ha hb hg = rw (ha, hb, hg) refl
