-- Every element of a chain maps the zero sequence to the zero sequence.
use Rattle.std.proofs.Common.{◌≡◌, ℕ, zero, suc, ◌-◌, ◌*◌, ◌^◌, ◌≤◌, List, [], ◌∷◌, ℤ, pos, ◌+ℤ◌, Bool, true, false, cond, nat_eq, arith, refl, ◌∙◌, ap}
use Rattle.std.proofs.Math.Path.{fun_ext}
use Rattle.std.proofs.lemmas.Int.{ints}
use Rattle.std.proofs.lemmas.Nat.{pow_pos, pow_below}
use Rattle.mr_values.specs.declared.plan.Element.{Element}
use Rattle.mr_values.specs.declared.plan.Element.TheVariants.{Up, Down, Filter, CicDown, CicUp, Round, Clip}
use Rattle.mr_values.specs.declared.plan.Mode.TheVariants.{HalfUp, HalfEven, Floor}
use Rattle.mr_values.specs.Width.{floor_quotient, floor_remainder}
use Rattle.mr_values.specs.Sequence.{Sequence, weighted_sum, up, down, filter, filter_times, ones}
use Rattle.mr_values.specs.Value.{size, apply, chain}
use Rattle.mr_values.proofs.Division.{floor_unique}
use Rattle.mr_values.proofs.HalfEvenLemmas.{half_even_zero}
use Rattle.mr_values.proofs.ClipLemmas.{clip_zero}

abbrev pub zeros : Sequence
zeros n = pos 0

weighted_sum-zeros : (cs : List ℤ) → weighted_sum cs (λ k. pos 0) ≡ pos 0
weighted_sum-zeros [] = refl
weighted_sum-zeros (c ∷ cs) = omega (arith, ints, weighted_sum-zeros cs)

filter-zeros : (taps : List ℤ) → filter taps zeros ≡ zeros
filter-zeros taps = fun_ext (λ n. weighted_sum-zeros taps)

filter_times-zeros : (n : ℕ) (taps : List ℤ) → filter_times n taps zeros ≡ zeros
filter_times-zeros zero taps = refl
filter_times-zeros (suc n) taps = ap (filter taps) (filter_times-zeros n taps) ∙ filter-zeros taps

up-zeros : (factor : ℕ) → up factor zeros ≡ zeros
up-zeros factor = fun_ext (λ m. either (nat_eq (floor_remainder m factor) 0))
  where
    either : (b : Bool) → cond b (pos 0) (pos 0) ≡ pos 0
    either true = refl
    either false = refl

-- the half is below the whole
half_rounds : (shift : ℕ) → 1 ≤ shift → floor_quotient (pos 0 +ℤ pos (2 ^ (shift - 1))) (2 ^ shift) ≡ pos 0
half_rounds shift h =
    (floor_unique (pos 0 +ℤ pos (2 ^ (shift - 1))) (pos 0) (2 ^ shift) (2 ^ (shift - 1)) (pow_below (shift - 1) shift (omega arith)) (omega (arith, ints))).0

-- a rounding's shift is at least 1
abbrev pub IsRounding : Element → Type 0
IsRounding (Round shift mode) = 1 ≤ size shift
IsRounding _ = Unit {0}

pub apply-zeros : (e : Element) → IsRounding e → apply e zeros ≡ zeros
apply-zeros (Up factor) h = up-zeros (size factor)
apply-zeros (Down factor) h = refl
apply-zeros (Filter taps form) h = filter-zeros taps
apply-zeros (CicDown factor stages delay) h = ap (down (size factor)) (filter_times-zeros (size stages) (ones (size factor * size delay)))
apply-zeros (CicUp factor stages delay) h = ap (filter_times (size stages) (ones (size factor * size delay))) (up-zeros (size factor)) ∙ filter_times-zeros (size stages) (ones (size factor * size delay))
apply-zeros (Round shift HalfUp) h = fun_ext (λ n. half_rounds (size shift) h)
apply-zeros (Round shift HalfEven) h = fun_ext (λ n. half_even_zero (size shift) h)
apply-zeros (Round shift Floor) h = fun_ext (λ n. (floor_unique (pos 0) (pos 0) (2 ^ size shift) 0 (pow_pos (size shift)) (omega (arith, ints))).0)
apply-zeros (Clip bits) h = fun_ext (λ n. clip_zero (size bits))

abbrev pub AreRoundings : List Element → Type 0
AreRoundings [] = Unit {0}
AreRoundings (e ∷ es) = IsRounding e × AreRoundings es

pub chain-zeros : (elements : List Element) → AreRoundings elements → chain elements zeros ≡ zeros
chain-zeros [] h = refl
chain-zeros (e ∷ es) h = ap (chain es) (apply-zeros e h.0) ∙ chain-zeros es h.1
