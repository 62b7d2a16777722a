-- The range around 0 of the single values.
use Rattle.std.proofs.Common.{◌≡◌, ℕ, ◌%◌, ◌≤◌, [], ◌∷◌, sym, ◌∙◌, ap, subst, arith, ◌⊎◌, inl, inr, ℤ, pos, negsuc, ◌-ℤ◌, ◌≤ℤ◌}
use Rattle.std.specs.Prelude.{unsigned_abs}
use Rattle.std.proofs.lemmas.Int.{ints}
use Rattle.mr_values.specs.Sequence.{Sequence, filter}
use Rattle.stage_law.specs.Range.{IsRange, IsReached}
use Rattle.stage_law.specs.Streams.{Streams, AreWithin, AreCausal}
use Rattle.stage_law.specs.declared.ranges.Class.{Class}
use Rattle.stage_law.specs.declared.ranges.Range.{Range}
use Rattle.distributed_table.specs.Around.{IsAround}

single : (v : Sequence) (n : ℤ) → filter (pos 1 ∷ []) v n ≡ v n
single v n = let at = ap v (same n) in omega (arith, ints, at)
  where
    same : (n : ℤ) → n -ℤ pos 0 ≡ n
    same n = omega (arith, ints)

abbrev pub every : Class
every = record { modulus = 1; residue = 0 }

reached_small : (streams : Streams) (end : ℤ) → IsReached streams (pos 1 ∷ []) every end → (most : ℕ) → AreWithin streams most → unsigned_abs end ≤ most
reached_small streams end r most within =
    let is : r.stream (pos r.index) ≡ end = sym (single r.stream (pos r.index)) ∙ r.is in
    subst (λ (z : ℤ). unsigned_abs z ≤ most) is (within.each r.stream r.is_one (pos r.index))

pub IsAround-widened : (streams : Streams) (range around : Range) → AreCausal streams → IsRange streams (pos 1 ∷ []) every range → around.lo ≤ℤ range.lo → range.hi ≤ℤ around.hi → around.lo ≤ℤ pos 0 → pos 0 ≤ℤ around.hi
    → (around.lo ≡ range.lo) ⊎ (around.lo ≡ pos 0) → (around.hi ≡ range.hi) ⊎ (around.hi ≡ pos 0) → IsAround streams around
IsAround-widened streams range around causal r low high negative positive low_one high_one = record {
  negative = negative;
  positive = positive;
  low = λ v is k. at_low v is k;
  high = λ v is k. at_high v is k;
  small = λ most within. let a = low_small most within low_one in let b = high_small most within high_one in omega (arith, a, b);
}
  where
    in_every : (k : ℕ) → k % 1 ≡ 0
    in_every k = omega arith

    at_low : (v : Sequence) → streams v → (k : ℤ) → around.lo ≤ℤ v k
    at_low v is (pos k) = let l = r.low v is k (in_every k) in let s = single v (pos k) in omega (arith, ints, l, s)
    at_low v is (negsuc k) = let z = causal.each v is k in omega (arith, ints, z)

    at_high : (v : Sequence) → streams v → (k : ℤ) → v k ≤ℤ around.hi
    at_high v is (pos k) = let h = r.high v is k (in_every k) in let s = single v (pos k) in omega (arith, ints, h, s)
    at_high v is (negsuc k) = let z = causal.each v is k in omega (arith, ints, z)

    low_small : (most : ℕ) → AreWithin streams most → (around.lo ≡ range.lo) ⊎ (around.lo ≡ pos 0) → unsigned_abs around.lo ≤ most
    low_small most within (inl e) = subst (λ (z : ℤ). unsigned_abs z ≤ most) (sym e) (reached_small streams range.lo r.low_reached most within)
    low_small most within (inr e) = subst (λ (z : ℤ). unsigned_abs z ≤ most) (sym e) (omega arith)

    high_small : (most : ℕ) → AreWithin streams most → (around.hi ≡ range.hi) ⊎ (around.hi ≡ pos 0) → unsigned_abs around.hi ≤ most
    high_small most within (inl e) = subst (λ (z : ℤ). unsigned_abs z ≤ most) (sym e) (reached_small streams range.hi r.high_reached most within)
    high_small most within (inr e) = subst (λ (z : ℤ). unsigned_abs z ≤ most) (sym e) (omega arith)
