-- What an exchange keeps: the values, the factors, and that a Down goes to the left or an Up to the right.
use Rattle.std.proofs.Common.{◌≡◌, ℕ, zero, suc, ◌<◌, ◌≤◌, Bool, true, false, cond, List, ℤ, pos, negsuc, None, Some, arith, refl, sym, subst, eqb}
use Rattle.std.specs.Prelude.{int_le}
use Rattle.std.specs.Int.{IsGcd}
use Rattle.std.proofs.lemmas.Bool.{and_parts, eqb-true, eq-eqb, ne_eqb}
use Rattle.std.proofs.lemmas.Nat.Gcd.{same_from_IsGcd}
use Rattle.std.proofs.lemmas.Option.{same_Some}
use Rattle.mr_values.specs.declared.plan.Element.{Element}
use Rattle.mr_values.specs.declared.plan.Element.TheVariants.{Up, Down, Filter, CicDown, CicUp, Round, Clip}
use Rattle.mr_values.specs.declared.plan.Form.TheVariants.{Parallel}
use Rattle.mr_values.specs.Sequence.{Sequence}
use Rattle.mr_values.specs.Value.{size, apply, IsFirst}
use Rattle.mr_values.proofs.Noble.{down-up}
use Rattle.plan_check.specs.Costs.{gcd}
use Rattle.plan_check.proofs.Divisors.{IsGcd-gcd}
use Rattle.noble_rewrite.specs.Rules.{Exchange, is_zero_off, is_thin, thinned, filter_down, up_filter, up_down, exchange, ThirdRuleLaw}
use Rattle.noble_rewrite.specs.Turns.{HasFactor}
use Rattle.noble_rewrite.proofs.Thin.{filter-down, up-filter}

-- how far to the right an element belongs
abbrev pub rank : Element → ℕ
rank (Up factor) = 2
rank (Down factor) = 0
rank (Filter taps form) = 1
rank (CicDown factor stages delay) = 1
rank (CicUp factor stages delay) = 1
rank (Round shift mode) = 1
rank (Clip bits) = 1

-- what an exchange of these two keeps
pub record Keeps (e f : Element) (x : Exchange) : Type 0 where
  pub value : HasFactor e → (s : Sequence) → apply x.second (apply x.first s) ≡ apply f (apply e s)
  pub first_factor : HasFactor f → HasFactor x.first
  pub second_factor : HasFactor e → HasFactor x.second
  pub first_rank : rank x.first ≡ rank f
  pub second_rank : rank x.second ≡ rank e
  pub falls : rank f < rank e
  pub first_version : IsFirst x.first
  pub second_version : IsFirst x.second

chosen : {A : Type 0} (b : Bool) (e x : A) → cond b (Some e) None ≡ Some x → (b ≡ true) × (e ≡ x)
chosen true e x h = (refl, same_Some e x h)
chosen false e x h = cc

-- a factor of 2 or more is a size of 1 or more
two_or_more : (factor : ℤ) → int_le (pos 2) factor ≡ true → 1 ≤ size factor
two_or_more (pos zero) h = cc
two_or_more (pos (suc n)) h = omega arith
two_or_more (negsuc n) h = cc

filter_down-keeps : (taps : List ℤ) (factor : ℤ) (x : Exchange) → filter_down taps factor ≡ Some x → Keeps (Filter taps Parallel) (Down factor) x
filter_down-keeps taps factor x is =
    let made : Exchange = record { rule = 1; first = Down factor; second = Filter (thinned factor taps) Parallel } in
    let parts = chosen (is_thin factor taps) made x is in
    let thin = and_parts (int_le (pos 2) factor) (is_zero_off (size factor) 0 taps) parts.0 in
    let kept : Keeps (Filter taps Parallel) (Down factor) made = record {
      value = λ some s. filter-down (size factor) (two_or_more factor thin.0) taps s thin.1;
      first_factor = λ some. tt;
      second_factor = λ some. tt;
      first_rank = refl;
      second_rank = refl;
      falls = omega arith;
      first_version = tt;
      second_version = tt;
    } in
    subst (λ (y : Exchange). Keeps (Filter taps Parallel) (Down factor) y) parts.1 kept

up_filter-keeps : (factor : ℤ) (taps : List ℤ) (x : Exchange) → up_filter factor taps ≡ Some x → Keeps (Up factor) (Filter taps Parallel) x
up_filter-keeps factor taps x is =
    let made : Exchange = record { rule = 2; first = Filter (thinned factor taps) Parallel; second = Up factor } in
    let parts = chosen (is_thin factor taps) made x is in
    let thin = and_parts (int_le (pos 2) factor) (is_zero_off (size factor) 0 taps) parts.0 in
    let kept : Keeps (Up factor) (Filter taps Parallel) made = record {
      value = λ some s. up-filter (size factor) taps s (two_or_more factor thin.0) thin.1;
      first_factor = λ some. tt;
      second_factor = λ some. some;
      first_rank = refl;
      second_rank = refl;
      falls = omega arith;
      first_version = tt;
      second_version = tt;
    } in
    subst (λ (y : Exchange). Keeps (Up factor) (Filter taps Parallel) y) parts.1 kept

up_down-keeps : (factor other : ℤ) (x : Exchange) → up_down factor other ≡ Some x → Keeps (Up factor) (Down other) x
up_down-keeps factor other x is =
    let made : Exchange = record { rule = 3; first = Down other; second = Up factor } in
    let parts = chosen (eqb (gcd (size factor) (size other)) 1) made x is in
    let prime : IsGcd (size factor) (size other) 1 = subst (λ (g : ℕ). IsGcd (size factor) (size other) g) (eqb-true (gcd (size factor) (size other)) 1 parts.0) (IsGcd-gcd (size factor) (size other)) in
    let kept : Keeps (Up factor) (Down other) made = record {
      value = λ some s. sym (down-up (size factor) (size other) s some prime);
      first_factor = λ some. tt;
      second_factor = λ some. some;
      first_rank = refl;
      second_rank = refl;
      falls = omega arith;
      first_version = tt;
      second_version = tt;
    } in
    subst (λ (y : Exchange). Keeps (Up factor) (Down other) y) parts.1 kept

-- what the third rule asks
pub third_rule : ThirdRuleLaw
third_rule up down =
    let shared = gcd (size up) (size down) in
    let is_gcd : IsGcd (size up) (size down) shared = IsGcd-gcd (size up) (size down) in
    record {
      prime = λ prime. let one : shared ≡ 1 = same_from_IsGcd (size up) (size down) shared 1 is_gcd prime in rw (eq-eqb shared 1 one) refl;
      other = λ apart. rw (ne_eqb shared 1 (λ one. apart (subst (λ (g : ℕ). IsGcd (size up) (size down) g) one is_gcd))) refl;
    }

pub exchange-keeps : (e f : Element) (x : Exchange) → exchange e f ≡ Some x → Keeps e f x
exchange-keeps (Filter taps Parallel) (Down factor) x is = filter_down-keeps taps factor x is
exchange-keeps (Up factor) (Filter taps Parallel) x is = up_filter-keeps factor taps x is
exchange-keeps (Up factor) (Down other) x is = up_down-keeps factor other x is
exchange-keeps _ _ x is = cc
