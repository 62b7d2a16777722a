-- Bits that are extended, shifted to the right or selected, against the numbers that they stand for.
use Rattle.std.proofs.Common.{◌≡◌, ℕ, ◌+◌, ◌-◌, ◌*◌, ◌/◌, ◌%◌, ◌^◌, ◌<◌, ◌≤◌, Bool, true, false, cond, ℤ, pos, negsuc, ◌+ℤ◌, ◌*ℤ◌, refl, sym, ◌∙◌, ap, arith, inl, inr}
use Rattle.std.specs.Prelude.{nat_lt, nat_le}
use Rattle.std.proofs.lemmas.Int.{ints}
use Rattle.std.proofs.lemmas.Bool.{cases_lt}
use Rattle.std.proofs.lemmas.Bool.Decides.{nat_tests}
use Rattle.std.proofs.lemmas.Nat.{pow_pos, pow-add, shr_le}
use Rattle.std.proofs.Math.Nat.{mod-eq_of_lt, mod-lt, div-add-mod', div-eq_of_lt, mul-add-div, mul-add, mul_comm, div-lt_iff_lt-mul}
use Rattle.mr_values.specs.Width.{FitsWidth, pattern, extended, floor_quotient, floor_remainder}
use Rattle.mr_values.proofs.Ring.{+ℤ-*ℤ, *ℤ_assoc}
use Rattle.mr_values.proofs.Division.{floor_split, floor_unique, pow_halves}
use Rattle.mr_values.proofs.WidthLemmas.{fits_out}
use Rattle.verilog_tree.specs.declared.tree.ShiftOp.TheVariants.{ArithRight}
use Rattle.verilog_tree.specs.Meaning.{extension, shifted}

-- in a signed context the top bit is repeated
pub extension-true : (w l n : ℕ) → extension w l true n ≡ extended w l n
unfolding extended
extension-true w l n = by (nat_lt n (2 ^ (w - 1))) (nat_le (2 ^ (w - 1)) n) refl refl
  where
    by : (s t : Bool) → nat_lt n (2 ^ (w - 1)) ≡ s → nat_le (2 ^ (w - 1)) n ≡ t → cond t (n + (2 ^ l - 2 ^ w)) n ≡ cond s n (n + (2 ^ l - 2 ^ w))
    by true false p q = refl
    by false true p q = refl
    by true true p q = absurd (grind (arith, nat_tests))
    by false false p q = absurd (grind (arith, nat_tests))

-- ---- a shift to the right

quotient_of : (m x y : ℕ) → y < m → (m * x + y) / m ≡ x
quotient_of m x y lt =
    let some : 0 < m = omega arith in
    let none : y / m ≡ 0 = div-eq_of_lt lt in
    mul-add-div some x y ∙ omega (arith, none)

-- what is left below a power, from a quotient and a remainder
parts_of : (m q d r n whole : ℕ) → whole ≡ m * (q + 1 + d) → n ≡ m * q + r → r < m → whole - 1 - n ≡ m * d + (m - 1 - r)
parts_of m q d r n whole is split lt = omega (arith, mul-add m (q + 1) d, mul-add m q 1)

low_shift : (l by k : ℕ) → k < 2 ^ (l - 1) → shifted ArithRight true l by k ≡ k / 2 ^ by
low_shift l by k lt = test (nat_le (2 ^ (l - 1)) k) refl
  where
    test : (t : Bool) → nat_le (2 ^ (l - 1)) k ≡ t → cond t (k / 2 ^ by + (2 ^ l - 2 ^ (l - by))) (k / 2 ^ by) ≡ k / 2 ^ by
    test true e = absurd (grind (arith, nat_tests))
    test false e = refl

high_shift : (l by k : ℕ) → 2 ^ (l - 1) ≤ k → shifted ArithRight true l by k ≡ k / 2 ^ by + (2 ^ l - 2 ^ (l - by))
high_shift l by k le = test (nat_le (2 ^ (l - 1)) k) refl
  where
    test : (t : Bool) → nat_le (2 ^ (l - 1)) k ≡ t → cond t (k / 2 ^ by + (2 ^ l - 2 ^ (l - by))) (k / 2 ^ by) ≡ k / 2 ^ by + (2 ^ l - 2 ^ (l - by))
    test true e = refl
    test false e = absurd (grind (arith, nat_tests))

within : (l by n : ℕ) → by < l → n < 2 ^ l → (2 ^ l - 1 - n) / 2 ^ by + (2 ^ l - 2 ^ (l - by)) ≡ 2 ^ l - 1 - n / 2 ^ by
within l by n lt below =
    let m = 2 ^ by in
    let k = 2 ^ (l - by) in
    let q = n / m in
    let more : by + (l - by) ≡ l = omega arith in
    let power : 2 ^ l ≡ m * k = ap (λ (e : ℕ). 2 ^ e) (sym more) ∙ pow-add 2 by (l - by) in
    let some = pow_pos by in
    let swapped : 2 ^ l ≡ k * m = power ∙ mul_comm m k in
    let less : n < k * m = omega arith in
    let above : q < k = (div-lt_iff_lt-mul some).1 less in
    let rest : n % m < m = mod-lt n some in
    let split : n ≡ m * q + n % m = omega (arith, div-add-mod' n m, mul_comm m q) in
    let d = k - q - 1 in
    let whole : 2 ^ l ≡ m * (q + 1 + d) = power ∙ ap (λ (e : ℕ). m * e) (let is : k ≡ q + 1 + d = omega arith in is) in
    let parts = parts_of m q d (n % m) n (2 ^ l) whole split rest in
    let short : m - 1 - n % m < m = omega arith in
    let quotient : (2 ^ l - 1 - n) / m ≡ d = ap (λ (e : ℕ). e / m) parts ∙ quotient_of m d (m - 1 - n % m) short in
    let order : k ≤ 2 ^ l = omega (arith, swapped, mul-add k 1 (m - 1), ap (λ (e : ℕ). k * e) (let is : m ≡ 1 + (m - 1) = omega arith in is)) in
    omega (arith, quotient, above, order)

beyond : (l by n : ℕ) → l ≤ by → n < 2 ^ l → 2 ^ l ≤ 2 ^ by → (2 ^ l - 1 - n) / 2 ^ by + (2 ^ l - 2 ^ (l - by)) ≡ 2 ^ l - 1 - n / 2 ^ by
beyond l by n le below wider =
    let a : 2 ^ l - 1 - n < 2 ^ by = omega arith in
    let b : n < 2 ^ by = omega arith in
    let none : l - by ≡ 0 = omega arith in
    let one : 2 ^ (l - by) ≡ 1 = ap (λ (e : ℕ). 2 ^ e) none in
    omega (arith, div-eq_of_lt a, div-eq_of_lt b, one)

-- the bits of a number shifted to the right, its top bit repeated
pub shifted-pattern : (l by : ℕ) (x : ℤ) → 1 ≤ l → (l ≤ by → 2 ^ l ≤ 2 ^ by) → FitsWidth l x → shifted ArithRight true l by (pattern l x) ≡ pattern l (floor_quotient x (2 ^ by))
unfolding pattern
shifted-pattern l by (pos n) wide wider f =
    let o = fits_out l (pos n) f in
    let double = pow_halves l wide in
    let below : n < 2 ^ l = omega arith in
    let same : n % 2 ^ l ≡ n = mod-eq_of_lt below in
    let less = shr_le n by in
    let smaller : n / 2 ^ by < 2 ^ l = omega arith in
    low_shift l by (n % 2 ^ l) (omega arith) ∙ ap (λ (k : ℕ). k / 2 ^ by) same ∙ sym (mod-eq_of_lt smaller)
shifted-pattern l by (negsuc n) wide wider f =
    let o = fits_out l (negsuc n) f in
    let double = pow_halves l wide in
    let below : n < 2 ^ l = omega arith in
    let same : n % 2 ^ l ≡ n = mod-eq_of_lt below in
    let less = shr_le n by in
    let smaller : n / 2 ^ by < 2 ^ l = omega arith in
    high_shift l by (2 ^ l - 1 - n % 2 ^ l) (omega arith)
    ∙ ap (λ (k : ℕ). (2 ^ l - 1 - k) / 2 ^ by + (2 ^ l - 2 ^ (l - by))) same
    ∙ (elim (cases_lt by l) [ inl lt ↦ within l by n lt below | inr le ↦ beyond l by n le below (wider le) ])
    ∙ ap (λ (k : ℕ). 2 ^ l - 1 - k) (sym (mod-eq_of_lt smaller))

-- ---- a selection

-- a number is a multiple of the power and its pattern
pattern_whole : (w : ℕ) (x : ℤ) → x ≡ floor_quotient x (2 ^ w) *ℤ pos (2 ^ w) +ℤ pos (pattern w x)
unfolding pattern
pattern_whole w (pos n) = floor_split (pos n) (2 ^ w) (pow_pos w)
pattern_whole w (negsuc n) = floor_split (negsuc n) (2 ^ w) (pow_pos w)

-- a quotient by a power, of a number that is known up to a multiple of a higher power
quotient_up_to : (x c : ℤ) (p m k : ℕ) → 0 < m → x ≡ c *ℤ pos (m * k) +ℤ pos p → (floor_quotient x m ≡ c *ℤ pos k +ℤ pos (p / m)) × (floor_remainder x m ≡ p % m)
quotient_up_to x c p m k some is =
    floor_unique x (c *ℤ pos k +ℤ pos (p / m)) m (p % m) (mod-lt p some)
    (let power : pos k *ℤ pos m ≡ pos (m * k) = omega (arith, ints, mul_comm m k) in
    omega (arith, ints, is, +ℤ-*ℤ (c *ℤ pos k) (pos (p / m)) (pos m), *ℤ_assoc c (pos k) (pos m), ap (λ (z : ℤ). c *ℤ z) power, div-add-mod' p m))

-- the selected bits of a pattern are those of its number
pub selected-pattern : (w high low : ℕ) (x : ℤ) → high < w → low ≤ high
    → pattern w x / 2 ^ low % 2 ^ (high - low + 1) ≡ floor_remainder (floor_quotient x (2 ^ low)) (2 ^ (high - low + 1))
selected-pattern w high low x inside order =
    let bits = high - low + 1 in
    let above = w - low - bits in
    let c = floor_quotient x (2 ^ w) in
    let p = pattern w x in
    let rest = 2 ^ (bits + above) in
    let whole : 2 ^ w ≡ 2 ^ low * rest = ap (λ (e : ℕ). 2 ^ e) (let is : w ≡ low + (bits + above) = omega arith in is) ∙ pow-add 2 low (bits + above) in
    let first = quotient_up_to x c p (2 ^ low) rest (pow_pos low) (pattern_whole w x ∙ ap (λ (e : ℕ). c *ℤ pos e +ℤ pos p) whole) in
    let second = quotient_up_to (floor_quotient x (2 ^ low)) c (p / 2 ^ low) (2 ^ bits) (2 ^ above) (pow_pos bits)
    (first.0 ∙ ap (λ (e : ℕ). c *ℤ pos e +ℤ pos (p / 2 ^ low)) (pow-add 2 bits above)) in
    sym second.1
