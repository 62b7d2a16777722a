-- The streams that a prefix of a chain makes of samples, and the range of a form over them.
use Rattle.std.specs.Prelude.{◌≡◌, ℕ, zero, suc, ◌+◌, ◌*◌, ◌-◌, ◌^◌, ◌/◌, List, All, ℤ, pos, neg_ℤ}
use Rattle.std.specs.Int.{int_min, int_max}
use Rattle.mr_values.specs.Width.{FitsWidth}
use Rattle.mr_values.specs.Sequence.{Sequence, samples, filter}
use Rattle.mr_values.specs.Timing.{low_end, high_end}
use Rattle.stage_law.specs.Range.{InClass}
use Rattle.stage_law.specs.declared.ranges.Class.{Class}
use Rattle.stage_law.specs.declared.ranges.Range.{Range}
use Rattle.impulse_phase.specs.Response.{Responses, through_filter}
use Rattle.plan_check.specs.Costs.{gcd}

-- the streams after a prefix: what it makes of each list of samples that fit w bits
pub record IsStream (transform : Sequence → Sequence) (w : ℕ) (v : Sequence) : Type 0 where
  pub xs : List ℤ
  pub fits : All (FitsWidth w) xs
  pub is : (n : ℤ) → v n ≡ transform (samples xs) n

-- the ends of w bits
abbrev pub least_sample : ℕ → ℤ
least_sample w = neg_ℤ (pos (2 ^ (w - 1)))

abbrev pub greatest_sample : ℕ → ℤ
greatest_sample w = pos (2 ^ (w - 1) - 1)

-- the least and the greatest of f(0) .. f(n)
abbrev pub least_to : ℕ → (ℕ → ℤ) → ℤ
least_to zero f = f zero
least_to (suc n) f = int_min (f (suc n)) (least_to n f)

abbrev pub greatest_to : ℕ → (ℕ → ℤ) → ℤ
greatest_to zero f = f zero
greatest_to (suc n) f = int_max (f (suc n)) (greatest_to n f)

-- the least sum of the form at index k, over the samples that fit w bits
abbrev pub low_at : ℕ → List ℤ → Responses → ℕ → ℤ
low_at w form f k = low_end (through_filter form f (pos k)).weights (least_sample w) (greatest_sample w)

abbrev pub high_at : ℕ → List ℤ → Responses → ℕ → ℤ
high_at w form f k = high_end (through_filter form f (pos k)).weights (least_sample w) (greatest_sample w)

-- the range over a class that falls into count finer ones
abbrev pub range_of : ℕ → List ℤ → Responses → Class → ℕ → Range
range_of w form f class count = record {
  lo = least_to (count - 1) (λ i. low_at w form f (class.residue + i * class.modulus));
  hi = greatest_to (count - 1) (λ i. high_at w form f (class.residue + i * class.modulus));
}

-- into how many classes one of the modulus falls, over the least common multiple of both
abbrev pub finer_classes : ℕ → ℕ → ℕ
finer_classes classes modulus = classes / gcd classes modulus

-- samples that fit w bits, and an index of the class, at which the form has this sum
pub record IsExtreme (transform : Sequence → Sequence) (w : ℕ) (form : List ℤ) (class : Class) (sum : ℤ) (xs : List ℤ) (index : ℕ) : Type 0 where
  pub fits : All (FitsWidth w) xs
  pub in_class : InClass class index
  pub is : filter form (transform (samples xs)) (pos index) ≡ sum
