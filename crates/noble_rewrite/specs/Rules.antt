-- The noble identities: which two neighbours of a chain change places, and what they become.
-- Crochiere and Rabiner, Multirate Digital Signal Processing, 3.1 to 3.3.
use Rattle.std.specs.Prelude.{◌≡◌, ℕ, suc, ◌%◌, ◌==◌, ℤ, pos, int_le, Bool, true, ◌&&◌, ◌||◌, if◌then◌else◌, List, [], ◌∷◌, Option, Some, None}
use Rattle.std.specs.Int.{IsGcd}
use Rattle.std.specs.Ordering.{int_eq}
use Rattle.mr_values.specs.declared.plan.Element.{Element}
use Rattle.mr_values.specs.declared.plan.Element.TheVariants.{Up, Down, Filter}
use Rattle.mr_values.specs.declared.plan.Form.TheVariants.{Parallel}
use Rattle.mr_values.specs.Sequence.{phase}
use Rattle.mr_values.specs.Value.{size}
use Rattle.plan_check.specs.Costs.{gcd}

-- what two neighbours become, and by which rule
pub record Exchange : Type 0 where
  pub rule : ℕ
  pub first : Element
  pub second : Element

-- every tap at an index that the factor doesn't divide is 0, in taps that begin at an index
abbrev pub is_zero_off : ℕ → ℕ → List ℤ → Bool
is_zero_off factor index [] = true
is_zero_off factor index (c ∷ cs) = (index % factor == 0 || int_eq c (pos 0)) && is_zero_off factor (suc index) cs

-- taps that a factor of 2 or more thins out
abbrev pub is_thin : ℤ → List ℤ → Bool
is_thin factor taps = int_le (pos 2) factor && is_zero_off (size factor) 0 taps

-- h[0], h[factor], h[2 * factor], ..
abbrev pub thinned : ℤ → List ℤ → List ℤ
thinned factor taps = phase (size factor) 0 taps

-- 1: a filter of such taps before a Down comes behind it
abbrev pub filter_down : List ℤ → ℤ → Option Exchange
filter_down taps factor = if is_thin factor taps then Some (record { rule = 1; first = Down factor; second = Filter (thinned factor taps) Parallel }) else None

-- 2: a filter of such taps behind an Up comes before it
abbrev pub up_filter : ℤ → List ℤ → Option Exchange
up_filter factor taps = if is_thin factor taps then Some (record { rule = 2; first = Filter (thinned factor taps) Parallel; second = Up factor }) else None

-- 3: an Up before a Down with no common factor above 1 comes behind it
abbrev pub up_down : ℤ → ℤ → Option Exchange
up_down up down = if gcd (size up) (size down) == 1 then Some (record { rule = 3; first = Down down; second = Up up }) else None

abbrev pub exchange : Element → Element → Option Exchange
exchange (Filter taps Parallel) (Down factor) = filter_down taps factor
exchange (Up factor) (Filter taps Parallel) = up_filter factor taps
exchange (Up up) (Down down) = up_down up down
exchange _ _ = None

-- The third rule is for an Up and a Down whose greatest common divisor is 1, and for no others.
pub record IsThirdRule (up down : ℤ) (found : Option Exchange) : Type 0 where
  pub prime : IsGcd (size up) (size down) 1 → found ≡ Some (record { rule = 3; first = Down down; second = Up up })
  pub other : (IsGcd (size up) (size down) 1 → ⊥) → found ≡ None

abbrev pub ThirdRuleLaw : Type 0
ThirdRuleLaw = (up down : ℤ) → IsThirdRule up down (exchange (Up up) (Down down))
