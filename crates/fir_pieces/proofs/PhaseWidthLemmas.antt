-- The least width of all of a register's sums is what the law tells.
use Rattle.std.proofs.Common.{◌≡◌, ℕ, zero, suc, ◌-◌, ◌^◌, ◌<◌, ◌≤◌, ◌⊎◌, inl, inr, List, [], ◌∷◌, max, refl, sym, ◌∙◌, ap, arith, subst, ℤ, pos, negsuc, Some, slice_get}
use Rattle.std.proofs.lemmas.Bool.{cases_lt}
use Rattle.std.proofs.lemmas.Int.{ints}
use Rattle.mr_values.specs.Sequence.{filter}
use Rattle.mr_values.specs.Width.{FitsWidth, IsLeastWidth}
use Rattle.mr_values.proofs.WidthLemmas.{FitsWidth-more}
use Rattle.stage_law.specs.Range.{IsRange}
use Rattle.stage_law.specs.Registers.{HeldSum, Telling, TellsRanges, bits_for, bits_of}
use Rattle.stage_law.specs.Streams.{Streams}
use Rattle.stage_law.specs.declared.ranges.Range.{Range}
use Rattle.fir_pieces.specs.PhaseSums.{FitsSum, IsSumsWidth}
use Rattle.fir_pieces.proofs.HeldLemmas.{between}
use Rattle.fir_pieces.proofs.PeakLemmas.{range_same, bits_least}

-- ---- one width

fits_or : (w : ℕ) (z : ℤ) → FitsWidth w z ⊎ (FitsWidth w z → ⊥)
fits_or w (pos n) = elim (cases_lt n (2 ^ (w - 1))) [
  | inl less ↦ inl (record { low = omega (arith, ints); high = omega (arith, ints, less) })
  | inr more ↦ inr (λ f. let h = f.high in absurd (omega (arith, ints, h, more)))
]
fits_or w (negsuc n) = elim (cases_lt n (2 ^ (w - 1))) [
  | inl less ↦ inl (record { low = omega (arith, ints, less); high = omega (arith, ints) })
  | inr more ↦ inr (λ f. let l = f.low in absurd (omega (arith, ints, l, more)))
]

-- where some width holds both ends there is a least one
least_width : (lo hi : ℤ) (w : ℕ) → FitsWidth (suc w) lo → FitsWidth (suc w) hi → suc w ≤ 128 → (u : ℕ) × IsLeastWidth lo hi u
least_width lo hi zero p q small = (1, record { positive = omega arith; most = small; holds_low = p; holds_high = q; least = λ v some l h. some })
least_width lo hi (suc w) p q small = elim (fits_or (suc w) lo) [
  | inl a ↦ elim (fits_or (suc w) hi) [
    | inl b ↦ least_width lo hi w a b (omega arith)
    | inr apart ↦ (suc (suc w), this (λ v less l h. apart (FitsWidth-more v (suc w) hi less h)))
  ]
  | inr apart ↦ (suc (suc w), this (λ v less l h. apart (FitsWidth-more v (suc w) lo less l)))
]
  where
    this : ((v : ℕ) → v ≤ suc w → FitsWidth v lo → FitsWidth v hi → ⊥) → IsLeastWidth lo hi (suc (suc w))
    this fewer = record {
      positive = omega arith;
      most = small;
      holds_low = p;
      holds_high = q;
      least = λ v some l h. elim (cases_lt v (suc (suc w))) [ inl less ↦ absurd (fewer v (omega arith) l h) | inr more ↦ more ];
    }

-- the bits of a range that some width holds
bits_width : (range : Range) (w : ℕ) → 1 ≤ w → w ≤ 128 → FitsWidth w range.lo → FitsWidth w range.hi → (bits_for range ≤ w) × FitsWidth (bits_for range) range.lo × FitsWidth (bits_for range) range.hi
bits_width range zero some small low high = absurd (omega arith)
bits_width range (suc w) some small low high =
    let l = least_width range.lo range.hi w low high small in
    let bits : bits_for range ≡ l.0 = bits_least range l.0 l.1 in
    let most : l.0 ≤ suc w = l.1.least (suc w) some low high in
    (omega (arith, bits, most), subst (λ (n : ℕ). FitsWidth n range.lo) (sym bits) l.1.holds_low, subst (λ (n : ℕ). FitsWidth n range.hi) (sym bits) l.1.holds_high)

-- ---- all sums

-- the bits of all sums are as many as those of each, and no more than any number that each has at most
bits_each : (range : Telling) (sums : List HeldSum) (j : ℕ) (s : HeldSum) → slice_get sums j ≡ Some s → bits_for (range s.form s.class) ≤ bits_of range sums
bits_each range [] j s e = absurd (cc)
bits_each range (r ∷ sums) zero s e = let same : r ≡ s = cc in subst (λ (z : HeldSum). bits_for (range z.form z.class) ≤ bits_of range (r ∷ sums)) same (omega arith)
bits_each range (r ∷ sums) (suc j) s e = let rest = bits_each range sums j s e in omega (arith, rest)

bits_most : (range : Telling) (sums : List HeldSum) (most : ℕ) → 1 ≤ most → ((j : ℕ) (s : HeldSum) → slice_get sums j ≡ Some s → bits_for (range s.form s.class) ≤ most) → bits_of range sums ≤ most
bits_most range [] most some h = some
bits_most range (s ∷ sums) most some h = let own = h 0 s refl in let rest = bits_most range sums most some (λ j r e. h (suc j) r e) in omega (arith, own, rest)

bits_some_of : (range : Telling) (sums : List HeldSum) → 1 ≤ bits_of range sums
bits_some_of range [] = omega arith
bits_some_of range (s ∷ sums) = let rest = bits_some_of range sums in omega (arith, rest)

same_from : (a b : ℕ) → a ≤ b → b ≤ a → a ≡ b
same_from a b p q = omega arith

-- the ends of a range fit where all its sums do
fits_ends : (streams : Streams) (w : ℕ) (s : HeldSum) (range : Range) → IsRange streams s.form s.class range → FitsSum streams w s → FitsWidth w range.lo × FitsWidth w range.hi
fits_ends streams w s range r f =
    let a = r.low_reached in
    let b = r.high_reached in
    (subst (FitsWidth w) a.is (f.each a.stream a.is_one a.index a.in_class), subst (FitsWidth w) b.is (f.each b.stream b.is_one b.index b.in_class))

-- and all sums do where the ends do
pub FitsSum-range : (streams : Streams) (w : ℕ) (s : HeldSum) (range : Range) → IsRange streams s.form s.class range → FitsWidth w range.lo → FitsWidth w range.hi → FitsSum streams w s
FitsSum-range streams w s range r low high = record { each = λ v is k in_class. between w range.lo (filter s.form v (pos k)) range.hi low high (r.low v is k in_class) (r.high v is k in_class) }

-- the least width of all sums is what any ranges of them tell
pub sums_bits : (streams : Streams) (sums : List HeldSum) (width : ℕ) → IsSumsWidth streams sums width → ((j : ℕ) (s : HeldSum) → slice_get sums j ≡ Some s → s.class.residue < s.class.modulus)
    → (range : Telling) → TellsRanges streams range → width ≡ bits_of range sums
sums_bits streams sums width w proper range tells =
    same_from width (bits_of range sums)
    (w.least (bits_of range sums) (bits_some_of range sums) (λ j s e.
    let t = told j s e in
    let fewer = bits_each range sums j s e in
    FitsSum-range streams (bits_of range sums) s (range s.form s.class) (tells.each s.form s.class (proper j s e))
    (FitsWidth-more (bits_for (range s.form s.class)) (bits_of range sums) (range s.form s.class).lo fewer t.1)
    (FitsWidth-more (bits_for (range s.form s.class)) (bits_of range sums) (range s.form s.class).hi fewer t.2)))
    (bits_most range sums width w.positive (λ j s e. (told j s e).0))
  where
    told : (j : ℕ) (s : HeldSum) → slice_get sums j ≡ Some s → (bits_for (range s.form s.class) ≤ width) × FitsWidth (bits_for (range s.form s.class)) (range s.form s.class).lo × FitsWidth (bits_for (range s.form s.class)) (range s.form s.class).hi
    told j s e =
        let ends = fits_ends streams width s (range s.form s.class) (tells.each s.form s.class (proper j s e)) (w.holds j s e) in
        bits_width (range s.form s.class) width w.positive w.most ends.0 ends.1

-- what any ranges tell of one sum, from its range and its least width: so the first sum that needs a width is found among those that are known
pub told_bits : (streams : Streams) (s : HeldSum) (own : Range) (width : ℕ) → s.class.residue < s.class.modulus → IsRange streams s.form s.class own → IsLeastWidth own.lo own.hi width → (range : Telling) → TellsRanges streams range
    → (range s.form s.class ≡ own) × (bits_for (range s.form s.class) ≡ width)
told_bits streams s own width proper is_range l range tells =
    let same : range s.form s.class ≡ own = range_same streams s.form s.class (range s.form s.class) own (tells.each s.form s.class proper) is_range in
    (same, ap bits_for same ∙ bits_least own width l)

-- ---- sum by sum

-- no sums need one bit
pub IsSumsWidth-none : (streams : Streams) → IsSumsWidth streams [] 1
IsSumsWidth-none streams = record { positive = omega arith; most = omega arith; holds = λ j s e. absurd (cc); least = λ w some h. some }

pub FitsSum-more : (streams : Streams) (w more : ℕ) (s : HeldSum) → w ≤ more → FitsSum streams w s → FitsSum streams more s
FitsSum-more streams w more s less f = record { each = λ v is k in_class. FitsWidth-more w more (filter s.form v (pos k)) less (f.each v is k in_class) }

-- with one sum more the width is the greater of both
pub IsSumsWidth-more : (streams : Streams) (sums : List HeldSum) (width : ℕ) → IsSumsWidth streams sums width → (s : HeldSum) (range : Range) (own : ℕ) → IsRange streams s.form s.class range → IsLeastWidth range.lo range.hi own → IsSumsWidth streams (s ∷ sums) (max own width)
IsSumsWidth-more streams sums width w s range own is_range l = record {
  positive = let a = w.positive in omega (arith, a);
  most = let a = w.most in let b = l.most in omega (arith, a, b);
  holds = here;
  least = λ u some h.
      let ends = fits_ends streams u s range is_range (h 0 s refl) in
      let a : own ≤ u = l.least u some ends.0 ends.1 in
      let b : width ≤ u = w.least u some (λ j r e. h (suc j) r e) in
      omega (arith, a, b);
}
  where
    here : (j : ℕ) (r : HeldSum) → slice_get (s ∷ sums) j ≡ Some r → FitsSum streams (max own width) r
    here zero r e =
        let same : s ≡ r = cc in
        subst (FitsSum streams (max own width)) same
        (FitsSum-range streams (max own width) s range is_range (FitsWidth-more own (max own width) range.lo (omega arith) l.holds_low) (FitsWidth-more own (max own width) range.hi (omega arith) l.holds_high))
    here (suc j) r e = FitsSum-more streams width (max own width) r (omega arith) (w.holds j r e)

-- a sum that is known to fit changes nothing, whatever its range
pub IsSumsWidth-skip : (streams : Streams) (sums : List HeldSum) (width : ℕ) → IsSumsWidth streams sums width → (s : HeldSum) → FitsSum streams width s → IsSumsWidth streams (s ∷ sums) width
IsSumsWidth-skip streams sums width w s f = record { positive = w.positive; most = w.most; holds = here; least = λ u some h. w.least u some (λ j r e. h (suc j) r e) }
  where
    here : (j : ℕ) (r : HeldSum) → slice_get (s ∷ sums) j ≡ Some r → FitsSum streams width r
    here zero r e = let same : s ≡ r = cc in subst (FitsSum streams width) same f
    here (suc j) r e = w.holds j r e

-- the order of the sums tells nothing
pub IsSumsWidth-among : (streams : Streams) (sums others : List HeldSum) (width : ℕ) → ((j : ℕ) (s : HeldSum) → slice_get others j ≡ Some s → (i : ℕ) × (slice_get sums i ≡ Some s)) → ((j : ℕ) (s : HeldSum) → slice_get sums j ≡ Some s → (i : ℕ) × (slice_get others i ≡ Some s))
    → IsSumsWidth streams sums width → IsSumsWidth streams others width
IsSumsWidth-among streams sums others width there back w = record {
  positive = w.positive;
  most = w.most;
  holds = λ j s e. let at = there j s e in w.holds at.0 s at.1;
  least = λ u some h. w.least u some (λ j s e. let at = back j s e in h at.0 s at.1);
}
