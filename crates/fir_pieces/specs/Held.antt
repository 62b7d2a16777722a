-- The least widths of the registers of a tree.
use Rattle.std.specs.Prelude.{◌≡◌, ℕ, suc, ◌+◌, ◌*◌, ◌^◌, ◌<◌, ◌≤◌, ◌++◌, List, length, map, get_or, ℤ, All, Some, slice_get}
use Rattle.mr_values.specs.Width.{IsLeastWidth}
use Rattle.signed_digit.specs.declared.term_list.Term.{Term}
use Rattle.pipeline_balance.specs.Tree.{level_count, count_to}
use Rattle.stage_law.specs.Range.{IsRange}
use Rattle.stage_law.specs.Registers.{HeldSum}
use Rattle.stage_law.specs.Streams.{Streams, AreWithin}
use Rattle.stage_law.specs.Weights.{weights_of}
use Rattle.stage_law.specs.declared.ranges.Class.{Class}
use Rattle.stage_law.specs.declared.ranges.Range.{Range}
use Rattle.fir_pieces.specs.declared.held.Held.{Held}
use Rattle.fir_pieces.specs.declared.reading.Reading.{Reading}
use Rattle.fir_pieces.specs.Placed.{term_segment, powers}
use Rattle.fir_pieces.specs.Reading.{spread}
use Rattle.fir_pieces.specs.Form.{form_of}
use Rattle.fir_pieces.specs.Listed.{every}

-- the width is the least that holds each sum of the form at the values of a class, over the streams
pub record IsClassWidth (streams : Streams) (class : Class) (form : List ℤ) (width : ℕ) : Type 0 where
  pub range : Range
  pub is_range : IsRange streams form class range
  pub least : IsLeastWidth range.lo range.hi width

-- at every value
abbrev pub IsFormWidth : Streams → List ℤ → ℕ → Type 0
IsFormWidth streams form width = IsClassWidth streams every form width

-- the widths of the registers of a tree over these terms, level by level
pub record AreTreeWidths (streams : Streams) (readings : List Reading) (terms : List Term) (levels : ℕ) (widths : List ℕ) : Type 0 where
  pub count : length widths ≡ count_to (length terms) levels
  pub each : (level j : ℕ) → level < levels → j < level_count (length terms) (suc level)
      → IsFormWidth streams (form_of readings (term_segment (suc level) j terms)) (get_or widths (count_to (length terms) level + j) 0)

-- the terms are not too many, and their sums over the streams are not too great
pub record AreSmall (streams : Streams) (readings : List Reading) (terms : List Term) : Type 0 where
  pub places : All (λ t. t.index < length readings) terms
  pub short : All (λ t. t.place ≤ 90) terms
  pub small : powers (spread readings terms) ≤ 2 ^ 90
  pub few : length terms ≤ 2 ^ 32
  pub most : ℕ
  pub within : AreWithin streams most
  pub room : most * powers (spread readings terms) ≤ 2 ^ 126

-- these are the form's sums over the streams, with their range, so many ticks after each value of a class
pub record IsHeld (streams : Streams) (form : List ℤ) (class : Class) (lag : ℕ) (own : Held) : Type 0 where
  pub is_form : weights_of own.sum ≡ form
  pub is_class : own.class ≡ class
  pub is_lag : own.lag ≡ lag
  pub is_range : IsRange streams form class own.range

abbrev pub held_sum : Held → HeldSum
held_sum own = record { form = weights_of own.sum; class = own.class; lag = own.lag }

-- these are the sums of the list, with their ranges over the streams
pub record AreHeld (streams : Streams) (sums : List HeldSum) (held : List Held) : Type 0 where
  pub same : map held_sum held ≡ sums
  pub each : (k : ℕ) (own : Held) → slice_get held k ≡ Some own → IsRange streams (weights_of own.sum) own.class own.range

-- the new list has these sums more
pub record AddsHeld (streams : Streams) (more : List HeldSum) (old new : List Held) : Type 0 where
  pub then_held : (sums : List HeldSum) → AreHeld streams sums old → AreHeld streams (sums ++ more) new
