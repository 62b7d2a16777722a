-- The registers of a linear stage, the sums that they hold, and their widths as functions of the ranges of sums.
use Rattle.std.specs.Prelude.{ℕ, ◌<◌, max, nat_eq, if◌then◌else◌, Bool, Option, None, Some, List, [], ◌∷◌, ◌++◌, ℤ}
use Rattle.mr_values.specs.Timing.{signed_bits, wide}
use Rattle.net_graph.specs.declared.name.Name.{Name}
use Rattle.net_graph.specs.declared.name.NameKind.{NameKind}
use Rattle.pipeline_balance.specs.Numbered.{name_of}
use Rattle.stage_law.specs.Range.{IsRange}
use Rattle.stage_law.specs.Streams.{Streams}
use Rattle.stage_law.specs.declared.ranges.Class.{Class}
use Rattle.stage_law.specs.declared.ranges.Range.{Range}

-- a weighted sum of a stream's values, which a register holds so many ticks after value k, for each k of a class
pub record HeldSum : Type 0 where
  pub form : List ℤ
  pub class : Class
  pub lag : ℕ

-- a register of a stage by its kind and number, and the sums that it holds
pub record StageRegister : Type 0 where
  pub kind : NameKind
  pub number : ℕ
  pub sums : List HeldSum

-- ---- widths

-- the range of each form's sums at the indices of a class
abbrev pub Telling : Type 0
Telling = List ℤ → Class → Range

-- these are the ranges over a set of streams
pub record TellsRanges (streams : Streams) (range : Telling) : Type 0 where
  pub each : (form : List ℤ) (class : Class) → class.residue < class.modulus → IsRange streams form class (range form class)

-- the least number of bits that holds a range
abbrev pub bits_for : Range → ℕ
bits_for r = wide r.lo r.hi

-- the least number of bits, at least 1, that holds all of these sums
abbrev pub bits_of : Telling → List HeldSum → ℕ
bits_of range [] = 1
bits_of range (s ∷ sums) = max (bits_for (range s.form s.class)) (bits_of range sums)

-- the first of the sums that needs so many bits
abbrev pub needing : Telling → ℕ → List HeldSum → Option HeldSum
needing range bits [] = None
needing range bits (s ∷ sums) = if nat_eq (bits_for (range s.form s.class)) bits then Some s else needing range bits sums

-- whether the greatest number of a range needs so many bits
abbrev pub needs_high : Range → ℕ → Bool
needs_high r bits = nat_eq (signed_bits r.hi) bits

-- ---- peaks

-- a register by its name, the sum that needs its width, and whether the greatest of the sum's values does
pub record NamedPeak : Type 0 where
  pub name : Option Name
  pub sum : HeldSum
  pub high : Bool

abbrev pub peak_at : Telling → Name → ℕ → Option HeldSum → List NamedPeak
peak_at range name bits None = []
peak_at range name bits (Some s) = record { name = Some name; sum = s; high = needs_high (range s.form s.class) bits } ∷ []

-- the peak of a group's register: none where one bit is wide enough
abbrev pub peak_of : Telling → ℕ → StageRegister → List NamedPeak
peak_of range group r =
    let bits = bits_of range r.sums in if nat_eq bits 1 then [] else peak_at range (name_of group r.kind r.number) bits (needing range bits r.sums)

abbrev pub peaks_of : Telling → ℕ → List StageRegister → List NamedPeak
peaks_of range group [] = []
peaks_of range group (r ∷ rs) = peak_of range group r ++ peaks_of range group rs
