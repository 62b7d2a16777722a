-- The forms of registers are small.
use Rattle.std.proofs.Common.{◌≡◌, ℕ, zero, suc, ◌*◌, ◌^◌, ◌≤◌, List, length, drop, ◌∙◌, ap, arith, inl, inr, subst, false, Some, slice_get}
use Rattle.net_graph.specs.declared.name.NameKind.{NameKind}
use Rattle.net_graph.proofs.Lists.{slice_get_push_cases}
use Rattle.signed_digit.specs.declared.term_list.Term.{Term}
use Rattle.pipeline_balance.specs.Tree.{level_count}
use Rattle.stage_law.specs.Registers.{HeldSum, StageRegister}
use Rattle.stage_law.specs.Streams.{magnitudes}
use Rattle.fir_pieces.specs.declared.reading.Reading.{Reading}
use Rattle.fir_pieces.specs.Form.{one_value, reading_form}
use Rattle.stage_law.specs.declared.ranges.Class.{Class}
use Rattle.fir_pieces.specs.Listed.{every, window_sums, tree_sum, level_sums, class_tree_sums, tree_sums}
use Rattle.fir_pieces.specs.Placed.{all_minus, powers, term_segment}
use Rattle.fir_pieces.specs.Reading.{spread, terms_at}
use Rattle.fir_pieces.proofs.FormLemmas.{magnitudes-weights_by}
use Rattle.fir_pieces.proofs.ListLemmas.{single, each_appended, window_sums-at}
use Rattle.fir_pieces.proofs.ReadingLemmas.{powers-one_value, powers-spread_take, powers-spread_drop}
use Rattle.fir_pieces.proofs.UnitLemmas.{magnitudes-unit_form}

-- the form of each of these sums is no greater
abbrev pub AreFormsWithin : ℕ → List HeldSum → Type 0
AreFormsWithin most sums = (k : ℕ) (s : HeldSum) → slice_get sums k ≡ Some s → magnitudes s.form ≤ most

pub small_windows : (most depth : ℕ) → 1 ≤ most → AreFormsWithin most (window_sums depth)
small_windows most depth some k s is =
    let one = ap (λ (h : HeldSum). magnitudes h.form) (window_sums-at depth k s is) ∙ magnitudes-unit_form k in
    omega (arith, one)

pub small_reading : (r : Reading) → magnitudes (reading_form r) ≤ 2
small_reading r = let bound = magnitudes-weights_by false (terms_at r one_value) in let few = powers-one_value r in omega (arith, bound, few)

small_sum : (most : ℕ) (class : Class) (lag : ℕ) (readings : List Reading) (terms : List Term) (level j : ℕ) → powers (spread readings terms) ≤ most → magnitudes (tree_sum class lag readings terms level j).form ≤ most
small_sum most class lag readings terms level j few =
    let segment = term_segment (suc level) j terms in
    let sum = magnitudes-weights_by (all_minus segment) (spread readings segment) in
    let part = powers-spread_take readings (2 ^ suc level) (drop (j * 2 ^ suc level) terms) in
    let rest = powers-spread_drop readings (j * 2 ^ suc level) terms in
    omega (arith, sum, part, rest, few)

small_level : (most : ℕ) (class : Class) (lag : ℕ) (readings : List Reading) (terms : List Term) (level count : ℕ) → powers (spread readings terms) ≤ most → AreFormsWithin most (level_sums class lag readings terms level count)
small_level most class lag readings terms level zero few k s is = absurd (cc)
small_level most class lag readings terms level (suc j) few k s is = elim (slice_get_push_cases (level_sums class lag readings terms level j) (tree_sum class lag readings terms level j) k s is) [
  | inl before ↦ small_level most class lag readings terms level j few k s before
  | inr last ↦ let same = ap (λ (h : HeldSum). magnitudes h.form) last.1 in omega (arith, same, small_sum most class lag readings terms level j few)
]

pub small_class_trees : (most : ℕ) (class : Class) (lag : ℕ) (readings : List Reading) (terms : List Term) (levels : ℕ) → powers (spread readings terms) ≤ most → AreFormsWithin most (class_tree_sums class lag readings terms levels)
small_class_trees most class lag readings terms zero few k s is = absurd (cc)
small_class_trees most class lag readings terms (suc level) few k s is =
    each_appended (λ (h : HeldSum). magnitudes h.form ≤ most) (class_tree_sums class lag readings terms level) (level_sums class lag readings terms level (level_count (length terms) (suc level)))
    (small_class_trees most class lag readings terms level few) (small_level most class lag readings terms level (level_count (length terms) (suc level)) few) k s is

pub small_trees : (most : ℕ) (readings : List Reading) (ticks : ℕ) (terms : List Term) (levels : ℕ) → powers (spread readings terms) ≤ most → AreFormsWithin most (tree_sums readings ticks terms levels)
small_trees most readings ticks terms levels few = small_class_trees most every (suc ticks) readings terms levels few

-- the form of each sum of the register is no greater
abbrev pub IsFormWithin : ℕ → StageRegister → Type 0
IsFormWithin most r = (j : ℕ) (s : HeldSum) → slice_get r.sums j ≡ Some s → magnitudes s.form ≤ most

pub small_single : (most : ℕ) (kind : NameKind) (number : ℕ) (s : HeldSum) → magnitudes s.form ≤ most → IsFormWithin most (single kind number s)
small_single most kind number s h zero t is = let same : s ≡ t = cc in subst (λ (z : HeldSum). magnitudes z.form ≤ most) same h
small_single most kind number s h (suc j) t is = absurd (cc)
