-- The range of a form's sums over a set of streams.
use Rattle.std.specs.Prelude.{◌≡◌, ℕ, ◌%◌, ℤ, pos, ◌≤ℤ◌, List}
use Rattle.mr_values.specs.Sequence.{Sequence, filter}
use Rattle.stage_law.specs.Streams.{Streams}
use Rattle.stage_law.specs.declared.ranges.Class.{Class}
use Rattle.stage_law.specs.declared.ranges.Range.{Range}

abbrev pub InClass : Class → ℕ → Type 0
InClass class k = k % class.modulus ≡ class.residue

-- some stream has this sum at an index of the class
pub record IsReached (streams : Streams) (form : List ℤ) (class : Class) (sum : ℤ) : Type 0 where
  pub stream : Sequence
  pub is_one : streams stream
  pub index : ℕ
  pub in_class : InClass class index
  pub is : filter form stream (pos index) ≡ sum

-- each sum over i of form[i] * v[k - i], with v one of the streams and k of the class, lies in the range, and both ends are reached
pub record IsRange (streams : Streams) (form : List ℤ) (class : Class) (range : Range) : Type 0 where
  pub low : (v : Sequence) → streams v → (k : ℕ) → InClass class k → range.lo ≤ℤ filter form v (pos k)
  pub high : (v : Sequence) → streams v → (k : ℕ) → InClass class k → filter form v (pos k) ≤ℤ range.hi
  pub low_reached : IsReached streams form class range.lo
  pub high_reached : IsReached streams form class range.hi
