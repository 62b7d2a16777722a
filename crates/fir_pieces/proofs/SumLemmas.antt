-- What a tree over nodes asks for.
use Rattle.std.proofs.Common.{◌≡◌, ℕ, zero, suc, ◌+◌, ◌-◌, ◌*◌, ◌^◌, ◌<◌, ◌≤◌, List, [], ◌∷◌, length, map, take, drop, get_or, refl, sym, ◌∙◌, ap, arith, inl, inr, subst, All, Some, slice_get}
use Rattle.std.proofs.lemmas.Bool.{cases_lt, cases_eq}
use Rattle.std.proofs.lemmas.List.Elements.{All-head, All-tail}
use Rattle.std.proofs.lemmas.List.{get_or_past, take_all}
use Rattle.net_graph.specs.declared.cell.Leaf.{Leaf}
use Rattle.signed_digit.specs.declared.term_list.Term.{Term}
use Rattle.net_graph.specs.WellFormed.{IsWidth}
use Rattle.pipeline_balance.specs.Tree.{level_count, count_to}
use Rattle.pipeline_balance.proofs.SegmentLemmas.{level_count_one, level_count-none}
use Rattle.stage_law.specs.Streams.{Streams}
use Rattle.fir_pieces.specs.declared.reading.Reading.{Reading}
use Rattle.fir_pieces.specs.Placed.{term_segment}
use Rattle.fir_pieces.specs.Form.{form_of}
use Rattle.fir_pieces.specs.Held.{IsFormWidth, AreTreeWidths}

-- what holds of each term's leaf holds of each leaf
pub mapped_all : (P : Leaf → Type 0) (f : Term → Leaf) (ts : List Term) → All (λ (t : Term). P (f t)) ts → (k : ℕ) (leaf : Leaf) → slice_get (map f ts) k ≡ Some leaf → P leaf
mapped_all P f [] h k leaf e = absurd (cc)
mapped_all P f (t ∷ ts) h zero leaf e = let same : f t ≡ leaf = cc in subst P same (All-head (λ (u : Term). P (f u)) t ts h)
mapped_all P f (t ∷ ts) h (suc k) leaf e = mapped_all P f ts (All-tail (λ (u : Term). P (f u)) t ts h) k leaf e

-- where a register stands
pub record Stands (n levels k : ℕ) : Type 0 where
  pub level : ℕ
  pub j : ℕ
  pub low : level < levels
  pub within : j < level_count n (suc level)
  pub at : k ≡ count_to n level + j

pub stands : (n levels k : ℕ) → k < count_to n levels → Stands n levels k
stands n zero k h = absurd (omega arith)
stands n (suc levels) k h = elim (cases_lt k (count_to n levels)) [
  | inl less ↦ let s = stands n levels k less in record { level = s.level; j = s.j; low = let l = s.low in omega arith; within = s.within; at = s.at }
  | inr ge ↦ record { level = levels; j = k - count_to n levels; low = omega arith; within = omega arith; at = omega arith }
]

-- each width is one
pub wide_all : (streams : Streams) (readings : List Reading) (terms : List Term) (levels : ℕ) (widths : List ℕ) → AreTreeWidths streams readings terms levels widths → (k : ℕ) → k < length widths → IsWidth (get_or widths k 0)
wide_all streams readings terms levels widths w k h =
    let count = w.count in
    let s = stands (length terms) levels k (omega arith) in
    let own = w.each s.level s.j s.low s.within in
    subst (λ (n : ℕ). IsWidth (get_or widths n 0)) (sym s.at) (own.least.positive, own.least.most)

whole_segment : (level : ℕ) (terms : List Term) → length terms ≤ 2 ^ level → term_segment level 0 terms ≡ terms
whole_segment level terms h = let none : 0 * 2 ^ level ≡ 0 = omega arith in ap (λ (n : ℕ). take (2 ^ level) (drop n terms)) none ∙ take_all (2 ^ level) terms h

-- the last width is that of all terms
pub root_narrow : (streams : Streams) (readings : List Reading) (terms : List Term) (levels : ℕ) (widths : List ℕ) → AreTreeWidths streams readings terms levels widths → length terms ≤ 2 ^ levels → 1 ≤ levels
    → ((width : ℕ) → IsFormWidth streams (form_of readings terms) width → width ≤ 127) → get_or widths (length widths - 1) 0 ≤ 127
root_narrow streams readings terms zero widths w deep some narrow = absurd (omega arith)
root_narrow streams readings terms (suc before) widths w deep some narrow = elim (cases_eq (length widths) 0) [
  | inl none ↦ let past : get_or widths (length widths - 1) 0 ≡ 0 = get_or_past widths (length widths - 1) 0 (omega arith) in omega arith
  | inr more ↦
      let count = w.count in
      let s = stands (length terms) (suc before) (length widths - 1) (omega arith) in
      elim (cases_eq (length terms) 0) [
        | inl empty ↦ absurd (let nothing = no_registers (length terms) (suc before) empty in omega arith)
        | inr filled ↦
            let one = level_count_one (length terms) (suc before) deep (omega arith) in
            let at : length widths - 1 ≡ count_to (length terms) before + 0 = omega arith in
            let own : IsFormWidth streams (form_of readings (term_segment (suc before) 0 terms)) (get_or widths (count_to (length terms) before + 0) 0) = w.each before 0 (omega arith) (omega arith) in
            let whole : IsFormWidth streams (form_of readings terms) (get_or widths (count_to (length terms) before + 0) 0) = subst (λ (ts : List Term). IsFormWidth streams (form_of readings ts) (get_or widths (count_to (length terms) before + 0) 0)) (whole_segment (suc before) terms deep) own in
            subst (λ (n : ℕ). get_or widths n 0 ≤ 127) (sym at) (narrow (get_or widths (count_to (length terms) before + 0) 0) whole)
      ]
]
  where
    no_level : (n level : ℕ) → n ≡ 0 → level_count n level ≡ 0
    no_level n level e = rw e (level_count-none level)

    no_registers : (n levels : ℕ) → n ≡ 0 → count_to n levels ≡ 0
    no_registers n zero e = refl
    no_registers n (suc levels) e = let first = no_registers n levels e in let last = no_level n (suc levels) e in omega arith
