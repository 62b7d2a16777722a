-- What is kept of the peaks of linear registers, and which registers and sums they are of.
use Rattle.std.specs.Prelude.{◌≡◌, ℕ, suc, ◌+◌, ◌*◌, ◌^◌, ◌<◌, ◌≤◌, nat_eq, if◌then◌else◌, Bool, true, false, List, [], ◌∷◌, ◌++◌, All, length, map, take, Some, slice_get, ℤ, pos}
use Rattle.mr_values.specs.declared.plan.Element.{Element}
use Rattle.mr_values.specs.declared.plan.Plan.{Plan}
use Rattle.mr_values.specs.Sequence.{samples, filter}
use Rattle.mr_values.specs.Timing.{Group}
use Rattle.mr_values.specs.Value.{size, chain}
use Rattle.mr_values.specs.Width.{FitsWidth}
use Rattle.net_graph.specs.declared.cell.Cell.{Cell}
use Rattle.net_graph.specs.declared.cell.Node.{Node}
use Rattle.net_graph.specs.declared.cell.Stream.{Stream}
use Rattle.net_graph.specs.declared.name.Name.{Name}
use Rattle.net_graph.specs.declared.name.NameKind.TheVariants.{Valid}
use Rattle.net_graph.specs.Cells.{cell_at}
use Rattle.net_graph.specs.Name.{written_name}
use Rattle.impulse_phase.specs.Reach.{extent}
use Rattle.impulse_phase.specs.Response.{AreLinear, responses}
use Rattle.stage_law.specs.Kinds.{is_linear}
use Rattle.stage_law.specs.Least.{named_peak}
use Rattle.stage_law.specs.Range.{InClass}
use Rattle.stage_law.specs.Registers.{HeldSum, NamedPeak, peaks_of, bits_for, needs_high}
use Rattle.stage_law.specs.Streams.{AreWithin, magnitudes}
use Rattle.stage_law.specs.Weights.{weights_of}
use Rattle.stage_law.specs.declared.ranges.Class.{Class}
use Rattle.stage_law.specs.declared.ranges.Range.{Range}
use Rattle.stage_law.specs.declared.stage.Peak.{Peak}
use Rattle.width_extreme.specs.declared.prefix.PrefixRanges.{PrefixRanges}
use Rattle.width_extreme.specs.Furthest.{end_of, IsEndReachable}
use Rattle.width_extreme.specs.Prefix.{IsStream}
use Rattle.width_extreme.specs.Walk.{HasFormRoom}
use Rattle.chain_build.specs.declared.extremes.LinearPeak.{LinearPeak}
use Rattle.chain_build.specs.declared.extremes.RegisterExtreme.{RegisterExtreme}
use Rattle.chain_build.specs.Built.{kind_of}
use Rattle.chain_build.specs.Extremes.{IsReached}
use Rattle.chain_build.specs.Linear.{LinearRegister, each_index, linear, output_register, prefix_range}
use Rattle.chain_build.specs.LinearOn.{output_registers}
use Rattle.chain_build.specs.Soon.{soon_after, ReadsFew}

-- ---- what is kept of a peak

-- the peak's class has indices, and its sums stay small
pub record HasPlace (ranges : PrefixRanges) (peak : Peak) : Type 0 where
  pub below : peak.class.residue < peak.class.modulus
  pub room : HasFormRoom ranges.table ranges.width (weights_of peak.sum)

pub record AreWithPlace (ranges : PrefixRanges) (peaks : List Peak) : Type 0 where
  pub each : (k : ℕ) (peak : Peak) → slice_get peaks k ≡ Some peak → HasPlace ranges peak

-- the same peak of the same register
pub record IsSamePeak (peak other : Peak) : Type 0 where
  pub register : other.register ≡ peak.register
  pub sum : weights_of other.sum ≡ weights_of peak.sum
  pub class : other.class ≡ peak.class
  pub lag : other.lag ≡ peak.lag
  pub high : other.high ≡ peak.high

-- the peak is kept, with a tick at which some samples make the register hold this value
pub record IsKeptOver (ranges : PrefixRanges) (from : Stream) (taken : ℕ) (peak : Peak) (kept : LinearPeak) : Type 0 where
  pub same : IsSamePeak peak kept.peak
  pub from_is : kept.from ≡ from
  pub taken_is : kept.taken ≡ taken
  pub index : ℕ
  pub tick : kept.tick ≡ from.offset + index * from.period + peak.lag
  pub reached : IsEndReachable ranges.table ranges.width ranges.longest peak.sum peak.class peak.high index kept.value

-- one is kept for each peak, in their order
abbrev pub AreKept : (Peak → LinearPeak → Type 0) → List Peak → List LinearPeak → Type 0
AreKept is [] [] = Unit {0}
AreKept is [] (k ∷ kept) = ⊥
AreKept is (p ∷ peaks) [] = ⊥
AreKept is (p ∷ peaks) (k ∷ kept) = is p k × AreKept is peaks kept

pub record AddsKeptOver (ranges : PrefixRanges) (from : Stream) (taken : ℕ) (peaks : List Peak) (old new : List LinearPeak) : Type 0 where
  pub own : List LinearPeak
  pub is : new ≡ old ++ own
  pub each : AreKept (IsKeptOver ranges from taken) peaks own

-- ---- over what elements make of samples

-- these samples reach the end that is meant of the sum over what the elements make of them, and soon; none is later than the newest in the
-- sum
pub record IsEndBy (width : ℕ) (elements : List Element) (form : List ℤ) (class : Class) (high : Bool) (xs : List ℤ) (index : ℕ) (value : ℤ) : Type 0 where
  pub fits : All (FitsWidth width) xs
  pub in_class : InClass class index
  pub is : filter form (chain elements (samples xs)) (pos index) ≡ value
  pub end : value ≡ end_of high (prefix_range width elements form class)
  pub soon : index ≤ soon_after elements form class
  pub few : length xs ≤ suc (size (responses elements (pos index)).newest)

-- the values are small enough for every sum of the form
pub record HasSumRoom (width : ℕ) (elements : List Element) (form : List ℤ) : Type 0 where
  pub most : ℕ
  pub within : AreWithin (IsStream (chain elements) width) most
  pub room : most * magnitudes form ≤ 2 ^ 126

pub record IsKeptPeak (width : ℕ) (elements : List Element) (from : Stream) (taken : ℕ) (peak : Peak) (kept : LinearPeak) : Type 0 where
  pub same : IsSamePeak peak kept.peak
  pub from_is : kept.from ≡ from
  pub taken_is : kept.taken ≡ taken
  pub below : peak.class.residue < peak.class.modulus
  pub room : HasSumRoom width elements (weights_of peak.sum)
  pub xs : List ℤ
  pub index : ℕ
  pub tick : kept.tick ≡ from.offset + index * from.period + peak.lag
  pub reached : IsEndBy width elements (weights_of peak.sum) peak.class peak.high xs index kept.value

-- the peaks of a linear group before any rounding are kept
abbrev pub keeps : Bool → Group → Bool
keeps true g = false
keeps false g = is_linear (kind_of g)

pub record AddsPeaks (told : Bool) (width : ℕ) (elements : List Element) (from : Stream) (taken : ℕ) (peaks : List Peak) (old new : List LinearPeak) : Type 0 where
  pub own : List LinearPeak
  pub is : new ≡ old ++ own
  pub none : told ≡ false → own ≡ []
  pub each : told ≡ true → AreKept (IsKeptPeak width elements from taken) peaks own

-- the exact range of the chain's values
abbrev pub exact_output : Plan → Range
exact_output plan = prefix_range (size plan.width) plan.elements (pos 1 ∷ []) each_index

-- the peak of a register that holds each value, by its name and the range of the values
abbrev pub listed_value : Name → Range → List NamedPeak
listed_value name range = if nat_eq (bits_for range) 1 then [] else record { name = Some name; sum = record { form = pos 1 ∷ []; class = each_index; lag = 1 }; high = needs_high range (bits_for range) } ∷ []

-- these are the peaks of the output's register, whatever its name is
pub record AreOutputPeaks (register : Node) (range : Range) (peaks : List Peak) : Type 0 where
  pub are : (cells : List Cell) (name : Name) → (cell_at cells register.place).name ≡ Some name → map (named_peak cells) peaks ≡ listed_value name range

-- the peak of the output's register is kept
pub record AddsOutputPeak (width : ℕ) (elements : List Element) (cells : List Cell) (from : Stream) (taken : ℕ) (old new : List LinearPeak) : Type 0 where
  pub peaks : List Peak
  pub are : map (named_peak cells) peaks ≡ peaks_of (prefix_range width elements) 0 (output_register ∷ [])
  pub adds : AddsPeaks true width elements from taken peaks old new

-- none is kept where a group rounds
abbrev pub AddsChainPeak : Bool → ℕ → List Element → List Cell → Stream → List LinearPeak → List LinearPeak → Type 0
AddsChainPeak true width elements cells from old new = new ≡ old
AddsChainPeak false width elements cells from old new = AddsOutputPeak width elements cells from (length elements) old new

-- ---- the register of a peak

-- This sum, over what so many elements of the plan make of samples, is the one that needs the register's width.
pub record IsPlaceOf (width ticks : ℕ) (whole : List Element) (r : LinearRegister) (s : HeldSum) (taken : ℕ) (from : Stream) (form : List ℤ) (class : Class) (lag : ℕ) (high : Bool) : Type 0 where
  pub within : taken ≤ length whole
  pub linear : AreLinear (take taken whole)
  pub elements : r.stream.elements ≡ take taken whole
  pub period : r.stream.period ≡ from.period
  pub offset : r.stream.offset ≡ from.offset
  pub balance : from.period * (extent (take taken whole)).up ≡ ticks * (extent (take taken whole)).down
  pub long : from.period < 2 ^ 31
  pub early : from.offset < 2 ^ 31
  pub form_is : s.form ≡ form
  pub class_is : s.class ≡ class
  pub lag_is : s.lag ≡ lag
  pub some : 2 ≤ r.width
  pub bits : bits_for (prefix_range width (take taken whole) form class) ≡ r.width
  pub high_is : high ≡ needs_high (prefix_range width (take taken whole) form class) r.width
  pub below : class.residue < class.modulus
  pub room : HasSumRoom width (take taken whole) form
  pub reads : ReadsFew (take taken whole) form class

-- the node of the peak is the register, and some samples reach the value
pub record IsPeakOf (width ticks : ℕ) (whole : List Element) (cells : List Cell) (r : LinearRegister) (s : HeldSum) (kept : LinearPeak) : Type 0 where
  pub place : IsPlaceOf width ticks whole r s kept.taken kept.from (weights_of kept.peak.sum) kept.peak.class kept.peak.lag kept.peak.high
  pub inside : kept.peak.register.place < length cells
  pub named : (cell_at cells kept.peak.register.place).name ≡ Some r.name
  pub reached : IsReached width ticks r s kept.tick kept.value

-- a peak of the list is that of this register and sum
pub record IsAmong (width ticks : ℕ) (whole : List Element) (cells : List Cell) (r : LinearRegister) (s : HeldSum) (peaks : List LinearPeak) : Type 0 where
  pub place : ℕ
  pub kept : LinearPeak
  pub there : slice_get peaks place ≡ Some kept
  pub is : IsPeakOf width ticks whole cells r s kept

-- the peak is that of a register of the list
pub record IsOneOf (width ticks : ℕ) (whole : List Element) (cells : List Cell) (registers : List LinearRegister) (kept : LinearPeak) : Type 0 where
  pub place : ℕ
  pub r : LinearRegister
  pub s : HeldSum
  pub there : slice_get registers place ≡ Some r
  pub needed : r.needed ≡ Some s
  pub is : IsPeakOf width ticks whole cells r s kept

-- these are the peaks of the registers for which one bit is too few
pub record ArePeaksOf (width ticks : ℕ) (whole : List Element) (cells : List Cell) (registers : List LinearRegister) (peaks : List LinearPeak) : Type 0 where
  pub each : (i : ℕ) (r : LinearRegister) (s : HeldSum) → slice_get registers i ≡ Some r → r.needed ≡ Some s → IsAmong width ticks whole cells r s peaks
  pub only : (j : ℕ) (kept : LinearPeak) → slice_get peaks j ≡ Some kept → IsOneOf width ticks whole cells registers kept

-- these are the peaks of the plan's groups
pub record HasGroupPeaks (width ticks : ℕ) (elements : List Element) (cells : List Cell) (peaks : List LinearPeak) : Type 0 where
  pub listed : List LinearRegister
  pub parts : listed ++ output_registers width ticks elements ≡ linear width ticks elements
  pub are : ArePeaksOf width ticks elements cells listed peaks

-- ---- what is told

abbrev pub as_extreme : LinearPeak → RegisterExtreme
as_extreme kept = record { register = kept.peak.register; tick = kept.tick; value = kept.value }

-- the node has a name that is written so, and is no node that is shown as `out_valid`
pub record HasText (cells : List Cell) (place : ℕ) (text : List ℕ) : Type 0 where
  pub name : Name
  pub is_named : (cell_at cells place).name ≡ Some name
  pub shown : name.kind ≡ Valid → ⊥
  pub written : written_name name ≡ text

-- the numbers of the node's name have at most 64 bits
pub record IsSmallNamed (cells : List Cell) (place : ℕ) : Type 0 where
  pub each : (name : Name) → (cell_at cells place).name ≡ Some name → (name.group < 2 ^ 64) × (name.number < 2 ^ 64)

-- each peak's register is a node of the net
pub record AreInside (cells : List Cell) (peaks : List LinearPeak) : Type 0 where
  pub each : (j : ℕ) (kept : LinearPeak) → slice_get peaks j ≡ Some kept → kept.peak.register.place < length cells

-- the register of the peak has the text, and its name is small
pub record IsPeakTo (cells : List Cell) (peaks : List LinearPeak) (place : ℕ) (text : List ℕ) : Type 0 where
  pub kept : LinearPeak
  pub there : slice_get peaks place ≡ Some kept
  pub has : HasText cells kept.peak.register.place text
  pub small : IsSmallNamed cells kept.peak.register.place

-- of the first peaks none is that of a register with the text
pub record HasNoneTo (cells : List Cell) (peaks : List LinearPeak) (count : ℕ) (text : List ℕ) : Type 0 where
  pub none : (j : ℕ) (kept : LinearPeak) → j < count → slice_get peaks j ≡ Some kept → HasText cells kept.peak.register.place text → ⊥

-- what is asked of a peak to find samples again
pub record IsKeptPlace (width : ℕ) (whole : List Element) (kept : LinearPeak) : Type 0 where
  pub within : kept.taken ≤ length whole
  pub linear : AreLinear (take kept.taken whole)
  pub long : kept.from.period < 2 ^ 31
  pub early : kept.from.offset < 2 ^ 31
  pub below : kept.peak.class.residue < kept.peak.class.modulus
  pub room : HasSumRoom width (take kept.taken whole) (weights_of kept.peak.sum)

-- samples drive the register of the peak to this value at this tick
pub record IsDriven (width : ℕ) (elements : List Element) (kept : LinearPeak) (xs : List ℤ) (tick : ℕ) (value : ℤ) : Type 0 where
  pub index : ℕ
  pub is_tick : tick ≡ kept.from.offset + index * kept.from.period + kept.peak.lag
  pub reached : IsEndBy width elements (weights_of kept.peak.sum) kept.peak.class kept.peak.high xs index value
