-- The forms of a filter's registers: their lengths, and those of one value.
use Rattle.std.proofs.Common.{◌≡◌, ℕ, zero, suc, ◌+◌, ◌-◌, ◌*◌, ◌^◌, ◌<◌, ◌≤◌, List, [], ◌∷◌, length, get_or, replicate, refl, sym, ◌∙◌, ap, arith, inl, inr, subst, Bool, ℤ, pos, negsuc, ◌-ℤ◌, ◌+ℤ◌, All}
use Rattle.std.proofs.lemmas.Bool.{cases_lt}
use Rattle.std.proofs.lemmas.Int.{ints}
use Rattle.std.proofs.lemmas.List.{length-set, length-replicate}
use Rattle.std.proofs.lemmas.List.Elements.{All-head, All-tail}
use Rattle.mr_values.specs.Sequence.{Sequence, weighted_sum, filter}
use Rattle.mr_values.specs.Width.{FitsWidth}
use Rattle.mr_values.proofs.WidthLemmas.{FitsWidth-zero}
use Rattle.signed_digit.specs.declared.term_list.Term.{Term}
use Rattle.stage_law.specs.Range.{IsRange}
use Rattle.stage_law.specs.Streams.{Streams, AreCausal, magnitudes}
use Rattle.stage_law.specs.declared.ranges.Range.{Range}
use Rattle.fir_pieces.specs.Form.{power_of, with_term, with_terms, reach_of, weights_by}
use Rattle.fir_pieces.specs.Listed.{every, unit_form}
use Rattle.fir_pieces.specs.Held.{IsFormWidth}
use Rattle.fir_pieces.proofs.HeldLemmas.{between}

length-with_terms : (negated : Bool) (form : List ℤ) (ts : List Term) → length (with_terms negated form ts) ≡ length form
length-with_terms negated form [] = refl
length-with_terms negated form (t ∷ ts) = length-with_terms negated (with_term negated form t) ts ∙ length-set form t.index (get_or form t.index (pos 0) +ℤ power_of negated t)

pub length-weights_by : (negated : Bool) (ts : List Term) → length (weights_by negated ts) ≡ reach_of ts
length-weights_by negated ts = length-with_terms negated (replicate (reach_of ts) (pos 0)) ts ∙ length-replicate (reach_of ts) (pos 0)

reach_most : (depth : ℕ) (ts : List Term) → All (λ (u : Term). u.index < depth) ts → reach_of ts ≤ depth
reach_most depth [] h = omega arith
reach_most depth (t ∷ ts) h =
    let own = All-head (λ (u : Term). u.index < depth) t ts h in
    let rest = reach_most depth ts (All-tail (λ (u : Term). u.index < depth) t ts h) in
    omega arith

-- weights of places below one are as few
pub short_weights : (depth : ℕ) (negated : Bool) (ts : List Term) → All (λ (u : Term). u.index < depth) ts → length (weights_by negated ts) ≤ depth
short_weights depth negated ts h = let most = reach_most depth ts h in let long = length-weights_by negated ts in omega (arith, most, long)

-- ---- one value

pub unit_form-sum : (age : ℕ) (f : ℕ → ℤ) → weighted_sum (unit_form age) f ≡ f age
unit_form-sum zero f = omega (arith, ints)
unit_form-sum (suc age) f = let rest = unit_form-sum age (λ k. f (suc k)) in omega (arith, ints, rest)

pub length-unit_form : (age : ℕ) → length (unit_form age) ≡ age + 1
length-unit_form zero = refl
length-unit_form (suc age) = let rest = length-unit_form age in omega (arith, rest)

pub magnitudes-unit_form : (age : ℕ) → magnitudes (unit_form age) ≡ 1
magnitudes-unit_form zero = refl
magnitudes-unit_form (suc age) = let rest = magnitudes-unit_form age in omega (arith, rest)

pub unit_form_small : (age most : ℕ) (form : List ℤ) → form ≡ unit_form age → most ≤ 2 ^ 125 → most * magnitudes form ≤ 2 ^ 126
unit_form_small age most form e h = let one : magnitudes form ≡ 1 = ap magnitudes e ∙ magnitudes-unit_form age in let same : most * magnitudes form ≡ most * 1 = ap (λ (n : ℕ). most * n) one in omega (arith, same)

-- the width of the values of streams that are 0 before they begin is that of the values some values before
pub unit_form-width : (streams : Streams) → AreCausal streams → (age width : ℕ) → IsFormWidth streams (pos 1 ∷ []) width → (own : Range) → IsRange streams (unit_form age) every own → IsFormWidth streams (unit_form age) width
unit_form-width streams causal age width a own r = record {
  range = own;
  is_range = r;
  least = record {
    positive = a.least.positive;
    most = a.least.most;
    holds_low = holds own.lo r.low_reached.stream r.low_reached.is_one r.low_reached.index r.low_reached.is;
    holds_high = holds own.hi r.high_reached.stream r.high_reached.is_one r.high_reached.index r.high_reached.is;
    least = λ u some low high.
        a.least.least u some (reached u low high a.range.lo a.is_range.low_reached.stream a.is_range.low_reached.is_one a.is_range.low_reached.index a.is_range.low_reached.is)
        (reached u low high a.range.hi a.is_range.high_reached.stream a.is_range.high_reached.is_one a.is_range.high_reached.index a.is_range.high_reached.is);
  };
}
  where
    -- a value that is some values old is one of the values, or 0
    holds : (z : ℤ) (v : Sequence) → streams v → (k : ℕ) → filter (unit_form age) v (pos k) ≡ z → FitsWidth width z
    holds z v is k e = elim (cases_lt k age) [
      | inl early ↦
          let at : pos k -ℤ pos age ≡ negsuc (age - k - 1) = omega (arith, ints) in
          subst (FitsWidth width) (sym (ap v at ∙ causal.each v is (age - k - 1)) ∙ sym (unit_form-sum age (λ i. v (pos k -ℤ pos i))) ∙ e) (FitsWidth-zero width)
      | inr late ↦
          let first = unit_form-sum 0 (λ i. v (pos (k - age) -ℤ pos i)) in
          let at : pos (k - age) -ℤ pos 0 ≡ pos k -ℤ pos age = omega (arith, ints) in
          subst (FitsWidth width) (first ∙ ap v at ∙ sym (unit_form-sum age (λ i. v (pos k -ℤ pos i))) ∙ e)
          (between width a.range.lo (filter (pos 1 ∷ []) v (pos (k - age))) a.range.hi a.least.holds_low a.least.holds_high (a.is_range.low v is (k - age) (omega arith)) (a.is_range.high v is (k - age) (omega arith)))
    ]

    -- each value is some values old later
    reached : (u : ℕ) → FitsWidth u own.lo → FitsWidth u own.hi → (z : ℤ) (v : Sequence) → streams v → (k : ℕ) → filter (pos 1 ∷ []) v (pos k) ≡ z → FitsWidth u z
    reached u low high z v is k e =
        let first = unit_form-sum 0 (λ i. v (pos k -ℤ pos i)) in
        let later = unit_form-sum age (λ i. v (pos (k + age) -ℤ pos i)) in
        let at : pos (k + age) -ℤ pos age ≡ pos k -ℤ pos 0 = omega (arith, ints) in
        let same : filter (unit_form age) v (pos (k + age)) ≡ z = later ∙ ap v at ∙ sym first ∙ e in
        subst (FitsWidth u) same (between u own.lo (filter (unit_form age) v (pos (k + age))) own.hi low high (r.low v is (k + age) (omega arith)) (r.high v is (k + age) (omega arith)))
