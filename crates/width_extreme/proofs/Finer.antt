-- The range of a class from the ends of its finer classes, one after another.
use Rattle.std.proofs.Common.{◌≡◌, ℕ, suc, ◌+◌, ◌-◌, ◌*◌, ◌/◌, ◌%◌, ◌<◌, ◌≤◌, List, length, ℤ, pos, arith, sym, ◌∙◌, ap, subst}
use Rattle.std.proofs.lemmas.Nat.{div-add-mod'}
use Rattle.std.specs.Int.{int_min, int_max}
use Rattle.mr_values.specs.Sequence.{Sequence, filter}
use Rattle.mr_values.specs.Timing.{low_end}
use Rattle.stage_law.specs.Range.{IsRange}
use Rattle.stage_law.specs.declared.ranges.Class.{Class}
use Rattle.stage_law.specs.declared.ranges.Range.{Range}
use Rattle.impulse_phase.specs.declared.table.Response.{Response as Table}
use Rattle.impulse_phase.specs.Response.{Response, through_filter, HasResponses}
use Rattle.plan_check.specs.Costs.{gcd}
use Rattle.impulse_phase.specs.Reading.{rows_of, responses_of}
use Rattle.impulse_phase.proofs.Ends.{high_end-turned}
use Rattle.impulse_phase.proofs.Prefix.{common-turns, common-positive, common-positive_right}
use Rattle.impulse_phase.proofs.Steps.{filter-keeps}
use Rattle.width_extreme.specs.Prefix.{IsStream, least_sample, greatest_sample, least_to, greatest_to, low_at, high_at, range_of, finer_classes}
use Rattle.width_extreme.specs.Walk.{transform_of, IsLawful}
use Rattle.width_extreme.proofs.Lawful.{table-law, rows-some}
use Rattle.width_extreme.proofs.Ranges.{later-at, range-is}

-- an index of the first round, in place of one with the same weights
pub same-weights : (table : Table) (form : List ℤ) (k : ℕ) → IsLawful table
    → (through_filter form (responses_of table) (pos (k % length (rows_of table)))).weights ≡ (through_filter form (responses_of table) (pos k)).weights
same-weights table form k law =
    let classes = length (rows_of table) in
    let f = through_filter form (responses_of table) in
    let transform : Sequence → Sequence = λ x. filter form (transform_of table x) in
    let form_law : HasResponses transform f classes table.step = filter-keeps form (transform_of table) (responses_of table) classes table.step (table-law table law) in
    let one : classes ≡ 1 * classes = omega arith in
    let split : k % classes + k / classes * classes ≡ k = omega (arith, div-add-mod' k classes) in
    sym (ap (λ (r : Response). r.weights) (later-at transform f classes table.step form_law classes 1 (k % classes) (k / classes) one))
    ∙ ap (λ (n : ℕ). (f (pos n)).weights) split

-- the range over the finer classes up to the last one
pub record Covers (table : Table) (width : ℕ) (form : List ℤ) (class : Class) (last : ℕ) (lo hi : ℤ) : Type 0 where
  pub low : lo ≡ least_to last (λ i. low_at width form (responses_of table) (class.residue + i * class.modulus))
  pub high : hi ≡ greatest_to last (λ i. high_at width form (responses_of table) (class.residue + i * class.modulus))

module _ (table : Table) (width : ℕ) (form : List ℤ) (law : IsLawful table) where
  pub low-here : (k index : ℕ) (lo : ℤ) → index ≡ k % length (rows_of table)
      → lo ≡ low_end (through_filter form (responses_of table) (pos index)).weights (least_sample width) (greatest_sample width) → lo ≡ low_at width form (responses_of table) k
  low-here k index lo is e =
      e ∙ ap (λ (n : ℕ). low_end (through_filter form (responses_of table) (pos n)).weights (least_sample width) (greatest_sample width)) is
      ∙ ap (λ (ws : List ℤ). low_end ws (least_sample width) (greatest_sample width)) (same-weights table form k law)

  pub high-here : (k index : ℕ) (hi : ℤ) → index ≡ k % length (rows_of table)
      → hi ≡ low_end (through_filter form (responses_of table) (pos index)).weights (greatest_sample width) (least_sample width) → hi ≡ high_at width form (responses_of table) k
  high-here k index hi is e =
      e ∙ ap (λ (n : ℕ). low_end (through_filter form (responses_of table) (pos n)).weights (greatest_sample width) (least_sample width)) is
      ∙ ap (λ (ws : List ℤ). low_end ws (greatest_sample width) (least_sample width)) (same-weights table form k law)
      ∙ high_end-turned (through_filter form (responses_of table) (pos k)).weights (least_sample width) (greatest_sample width)

pub covers-first : (table : Table) (width : ℕ) (form : List ℤ) (class : Class) (index : ℕ) (lo hi : ℤ) → IsLawful table → index ≡ class.residue % length (rows_of table)
    → lo ≡ low_end (through_filter form (responses_of table) (pos index)).weights (least_sample width) (greatest_sample width)
    → hi ≡ low_end (through_filter form (responses_of table) (pos index)).weights (greatest_sample width) (least_sample width) → Covers table width form class 0 lo hi
covers-first table width form class index lo hi law is low high =
    let at : class.residue ≡ class.residue + 0 * class.modulus = omega arith in
    record {
      low = low-here table width form law class.residue index lo is low ∙ ap (low_at width form (responses_of table)) at;
      high = high-here table width form law class.residue index hi is high ∙ ap (high_at width form (responses_of table)) at;
    }

pub covers-more : (table : Table) (width : ℕ) (form : List ℤ) (class : Class) (finer index : ℕ) (lo hi lo' hi' next_lo next_hi : ℤ) → IsLawful table → 1 ≤ finer
    → index ≡ (class.residue + finer * class.modulus) % length (rows_of table) → Covers table width form class (finer - 1) lo hi
    → next_lo ≡ low_end (through_filter form (responses_of table) (pos index)).weights (least_sample width) (greatest_sample width)
    → next_hi ≡ low_end (through_filter form (responses_of table) (pos index)).weights (greatest_sample width) (least_sample width)
    → lo' ≡ int_min next_lo lo → hi' ≡ int_max next_hi hi → Covers table width form class (finer + 1 - 1) lo' hi'
covers-more table width form class finer index lo hi lo' hi' next_lo next_hi law some is so_far low high wider_low wider_high =
    let lows : ℕ → ℤ = λ i. low_at width form (responses_of table) (class.residue + i * class.modulus) in
    let highs : ℕ → ℤ = λ i. high_at width form (responses_of table) (class.residue + i * class.modulus) in
    let one : finer ≡ suc (finer - 1) = omega arith in
    let last : suc (finer - 1) ≡ finer + 1 - 1 = omega arith in
    record {
      low = wider_low
          ∙ ap (λ (z : ℤ). int_min z lo) (low-here table width form law (class.residue + finer * class.modulus) index next_lo is low ∙ ap lows one)
          ∙ ap (int_min (lows (suc (finer - 1)))) so_far.low
          ∙ ap (λ (n : ℕ). least_to n lows) last;
      high = wider_high
          ∙ ap (λ (z : ℤ). int_max z hi) (high-here table width form law (class.residue + finer * class.modulus) index next_hi is high ∙ ap highs one)
          ∙ ap (int_max (highs (suc (finer - 1)))) so_far.high
          ∙ ap (λ (n : ℕ). greatest_to n highs) last;
    }

pub covers-all : (table : Table) (width : ℕ) (form : List ℤ) (class : Class) (count last : ℕ) (range : Range) → IsLawful table → class.residue < class.modulus
    → count ≡ finer_classes (length (rows_of table)) class.modulus → last ≡ count - 1 → Covers table width form class last range.lo range.hi
    → IsRange (IsStream (transform_of table) width) form class range
covers-all table width form class count last range law below many is covers =
    subst (IsRange (IsStream (transform_of table) width) form class) (sym whole)
    (range-is (transform_of table) (responses_of table) classes table.step width form (table-law table law) class (finer_classes classes class.modulus) (class.modulus / gcd classes class.modulus) below
    (common-positive classes class.modulus (rows-some table))
    (common-positive_right classes class.modulus (omega arith))
    (common-turns classes class.modulus))
  where
    classes : ℕ
    classes = length (rows_of table)

    at : last ≡ finer_classes classes class.modulus - 1
    at = is ∙ ap (λ (n : ℕ). n - 1) many

    whole : range ≡ range_of width form (responses_of table) class (finer_classes classes class.modulus)
    whole =
        let low = covers.low ∙ ap (λ (n : ℕ). least_to n (λ i. low_at width form (responses_of table) (class.residue + i * class.modulus))) at in
        let high = covers.high ∙ ap (λ (n : ℕ). greatest_to n (λ i. high_at width form (responses_of table) (class.residue + i * class.modulus))) at in
        ap (λ (z : ℤ). record { lo = z; hi = range.hi }) low ∙ ap (λ (z : ℤ). record { lo = least_to (finer_classes classes class.modulus - 1) (λ i. low_at width form (responses_of table) (class.residue + i * class.modulus)); hi = z }) high
