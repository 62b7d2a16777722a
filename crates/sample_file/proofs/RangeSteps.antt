-- Ranges of numbers, and their patterns.
use Rattle.std.proofs.Common.{◌≡◌, ℕ, suc, ◌-◌, ◌%◌, ◌<◌, ◌^◌, Bool, true, false, ◌&&◌, ℤ, pos, negsuc, neg_ℤ, refl, sym, arith}
use Rattle.std.specs.Prelude.{◌↔◌, IsTrue, int_le, int_lt, unsigned_abs}
use borrow.Author.Tests.{ltb-true}
use Rattle.std.specs.Int.Signed.{le_z_yes, lt_z_yes}
use Rattle.std.proofs.Math.Dec.{T}
use Rattle.std.proofs.lemmas.Float.{T_from_true}
use Rattle.std.proofs.lemmas.Bool.{and_parts, false_from_ne_true, false≢true}
use Rattle.std.proofs.Math.Nat.{mod-eq_of_lt}
use Rattle.mr_values.specs.Width.{FitsWidth, pattern}
use Rattle.sample_file.specs.Fields.{is_held}

true_from : (b : Bool) → T b → b ≡ true
true_from true h = refl
true_from false h = absurd h

both : (a b : Bool) → a ≡ true → b ≡ true → (a && b) ≡ true
both true b h k = k
both false b h k = absurd (false≢true h)

held-from : (w : ℕ) (z : ℤ) → FitsWidth w z → is_held w z ≡ true
held-from w z h = both (int_le (neg_ℤ (pos (2 ^ (w - 1)))) z) (int_lt z (pos (2 ^ (w - 1)))) (true_from _ h.low.le) (true_from _ h.high.lt)

pub held-fits_width : (w : ℕ) (z : ℤ) → is_held w z ≡ true → FitsWidth w z
held-fits_width w z h =
    let (low, high) = and_parts (int_le (neg_ℤ (pos (2 ^ (w - 1)))) z) (int_lt z (pos (2 ^ (w - 1)))) h in
    record { low = le_z_yes (T_from_true _ low); high = lt_z_yes (T_from_true _ high) }

pub same-held : (w : ℕ) (z : ℤ) (r : Bool) → (IsTrue r ↔ FitsWidth w z) → r ≡ is_held w z
same-held w z true h = sym (held-from w z (h.0 refl))
same-held w z false h = sym (false_from_ne_true _ (λ held. false≢true (h.1 (held-fits_width w z held))))

pub pattern-positive : (w n : ℕ) → n < 2 ^ w → n ≡ pattern w (pos n)
unfolding pattern
pattern-positive w n small = sym (mod-eq_of_lt small)

pub pattern-negative : (w n : ℕ) → suc n < 2 ^ w → 2 ^ w - suc n ≡ pattern w (negsuc n)
unfolding pattern
pattern-negative w n small = let same : n % 2 ^ w ≡ n = mod-eq_of_lt (let h : n < 2 ^ w = omega arith in h) in omega (arith, same)

pub below-zero : (w : ℕ) (z : ℤ) (whole size : ℕ) → int_lt z (pos 0) ≡ true → unsigned_abs z < 2 ^ w → whole ≡ 2 ^ w → size ≡ unsigned_abs z → whole - size ≡ pattern w z
below-zero w (pos n) whole size h small is_whole is_size = absurd (omega (arith, ltb-true n 0 h))
below-zero w (negsuc n) whole size h small is_whole is_size = rw (is_whole, is_size) (pattern-negative w n small)

pub above-zero : (w : ℕ) (z : ℤ) (size : ℕ) → int_lt z (pos 0) ≡ false → unsigned_abs z < 2 ^ w → size ≡ unsigned_abs z → size ≡ pattern w z
above-zero w (pos n) size h small is_size = rw is_size (pattern-positive w n small)
above-zero w (negsuc n) size h small is_size = absurd (false≢true (sym h))
