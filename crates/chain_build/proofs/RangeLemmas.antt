-- There is one range of a form's sums.
use Rattle.std.proofs.Common.{◌≡◌, List, ◌∙◌, ap, subst, ℤ, ◌≤ℤ◌, arith}
use Rattle.std.proofs.lemmas.Int.{ints}
use Rattle.stage_law.specs.Range.{IsRange}
use Rattle.stage_law.specs.Streams.{Streams}
use Rattle.stage_law.specs.declared.ranges.Class.{Class}
use Rattle.stage_law.specs.declared.ranges.Range.{Range}

module _ {streams : Streams} {form : List ℤ} {class : Class} {r s : Range} (a : IsRange streams form class r) (b : IsRange streams form class s) where
  low-same : r.lo ≡ s.lo
  low-same =
      let p = a.low_reached in
      let q = b.low_reached in
      let le : s.lo ≤ℤ r.lo = subst (λ (z : ℤ). s.lo ≤ℤ z) p.is (b.low p.stream p.is_one p.index p.in_class) in
      let ge : r.lo ≤ℤ s.lo = subst (λ (z : ℤ). r.lo ≤ℤ z) q.is (a.low q.stream q.is_one q.index q.in_class) in
      omega (arith, ints, le, ge)

  high-same : r.hi ≡ s.hi
  high-same =
      let p = a.high_reached in
      let q = b.high_reached in
      let le : r.hi ≤ℤ s.hi = subst (λ (z : ℤ). z ≤ℤ s.hi) p.is (b.high p.stream p.is_one p.index p.in_class) in
      let ge : s.hi ≤ℤ r.hi = subst (λ (z : ℤ). z ≤ℤ r.hi) q.is (a.high q.stream q.is_one q.index q.in_class) in
      omega (arith, ints, le, ge)

  pub same_range : r ≡ s
  same_range = ap (λ (z : ℤ). record { lo = z; hi = r.hi }) low-same ∙ ap (λ (z : ℤ). record { lo = s.lo; hi = z }) high-same
