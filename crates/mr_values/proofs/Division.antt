-- Division that rounds down, by its one law.
use Rattle.std.proofs.Common.{◌≡◌, ℕ, zero, suc, ◌+◌, ◌-◌, ◌*◌, ◌^◌, ◌<◌, ◌≤◌, ℤ, pos, negsuc, ◌+ℤ◌, ◌*ℤ◌, arith, sym}
use Rattle.std.proofs.lemmas.Int.{ints}
use Rattle.std.proofs.lemmas.Nat.{div-add-mod', mod_below, same_from_place}
use Rattle.std.proofs.Math.Nat.{pow-suc}
use borrow.Author.Differences.{up, down}
use Rattle.mr_values.specs.Width.{floor_quotient, floor_remainder}

pub floor_remainder_below : (z : ℤ) (d : ℕ) → 0 < d → floor_remainder z d < d
floor_remainder_below (pos a) d h = mod_below a d h
floor_remainder_below (negsuc a) d h = omega (arith, mod_below a d h)

pub floor_split : (z : ℤ) (d : ℕ) → 0 < d → z ≡ floor_quotient z d *ℤ pos d +ℤ pos (floor_remainder z d)
floor_split (pos a) d h = omega (arith, ints, div-add-mod' a d)
floor_split (negsuc a) d h = omega (arith, ints, div-add-mod' a d, mod_below a d h)

-- the law has one solution
pub floor_unique : (z q : ℤ) (d r : ℕ) → r < d → z ≡ q *ℤ pos d +ℤ pos r → (floor_quotient z d ≡ q) × (floor_remainder z d ≡ r)
floor_unique z q d r h e =
    let positive : 0 < d = omega arith in
    let split = floor_split z d positive in
    let below = floor_remainder_below z d positive in
    let places : (up q + down (floor_quotient z d)) * d + r ≡ (up (floor_quotient z d) + down q) * d + floor_remainder z d =
    omega (arith, ints, e, split) in
    let same = same_from_place _ _ _ _ d h below places in
    (omega (arith, ints, same.0), sym same.1)

-- a power of two is two halves
pub pow_halves : (w : ℕ) → 1 ≤ w → 2 ^ w ≡ 2 ^ (w - 1) + 2 ^ (w - 1)
pow_halves zero h = absurd (omega arith)
pow_halves (suc k) h = let e : suc k - 1 ≡ k = omega arith in rw e (omega (arith, pow-suc 2 k))
