-- What follows for the parts of an expression that fits.
use Rattle.std.proofs.Common.{◌≡◌, ℕ, ◌+◌, ◌-◌, ◌*◌, ◌<◌, ◌≤◌, ◌^◌, Bool, true, false, ◌&&◌, refl, ap, ◌∙◌, arith, subst}
use Rattle.std.specs.Prelude.{IsTrue, nat_le, nat_lt}
use Rattle.std.proofs.lemmas.Bool.Decides.{nat_tests}
use Rattle.std.proofs.Math.Nat.{add-mul, mul_assoc}
use Rattle.std.proofs.lemmas.Nat.{pow-add, mul-add-lt}
use Rattle.verilog_tree.specs.Tree.{Tree, Trees, Name, Bit, Part, Plain, Based, Cat, Not, Binary, Shift, Choice}
use Rattle.verilog_tree.specs.Meaning.{Shapes, length_of, total_length, fits, all_fit, is_width, IsFitting, binary_length, is_comparison, operand_length}
use Rattle.verilog_tree.proofs.Powers.{bit_small, power_order}

pub and_parts : (a b : Bool) → IsTrue (a && b) → IsTrue a × IsTrue b
and_parts a b h = grind (arith, nat_tests)

width_range : (n : ℕ) → IsTrue (is_width n) → (1 ≤ n) × (n ≤ 128)
width_range n h = grind (arith, nat_tests)

range_of : (n : ℕ) → IsTrue (is_width n) → IsFitting n
range_of n h = let r = width_range n h in record { least = r.0; most = r.1 }

below_of : (a b : ℕ) → IsTrue (nat_lt a b) → a < b
below_of a b h = grind (arith, nat_tests)

most_of : (a b : ℕ) → IsTrue (nat_le a b) → a ≤ b
most_of a b h = grind (arith, nat_tests)

part_range : (width high low : ℕ) → IsTrue (nat_lt high width && (nat_le low high && is_width width)) → IsFitting (high - low + 1)
part_range width high low h =
    let first = and_parts (nat_lt high width) (nat_le low high && is_width width) h in
    let second = and_parts (nat_le low high) (is_width width) first.1 in
    let lt : high < width = below_of high width first.0 in
    let range : IsFitting width = range_of width second.1 in
    record { least = omega arith; most = omega arith }

binary_range : (k : Bool) (a b : ℕ) → IsFitting a → IsFitting b → IsFitting (binary_length k a b)
binary_range true a b f g = record { least = omega arith; most = omega arith }
binary_range false a b f g = record { least = omega arith; most = omega arith }

-- what fits has 1 to 128 bits
pub fits_range : (shapes : Shapes) (e : Tree) → IsTrue (fits shapes e) → IsFitting (length_of shapes e)
fits_range shapes (Name n) h = range_of _ h
fits_range shapes (Bit n place) h = record { least = omega arith; most = omega arith }
fits_range shapes (Part n high low) h = part_range (shapes.width n) high low h
fits_range shapes (Plain n) h = record { least = omega arith; most = omega arith }
fits_range shapes (Based width signed bits) h = range_of _ (and_parts _ _ h).1
fits_range shapes (Cat members) h = range_of _ (and_parts _ _ h).1
fits_range shapes (Not a) h = fits_range shapes a h
fits_range shapes (Binary op a b) h =
    binary_range (is_comparison op) _ _ (fits_range shapes a (and_parts _ _ h).0) (fits_range shapes b (and_parts _ _ h).1)
fits_range shapes (Shift op a amount) h = fits_range shapes a (and_parts _ _ h).0
fits_range shapes (Choice c a b) h =
    let both = and_parts (fits shapes a) (fits shapes b) (and_parts _ _ h).1 in
    binary_range false _ _ (fits_range shapes a both.0) (fits_range shapes b both.1)

-- the members of a concatenation that fits
pub cat_fits : (shapes : Shapes) (es : Trees) → IsTrue (fits shapes (Cat es)) → IsTrue (all_fit shapes es) × IsFitting (total_length shapes es)
cat_fits shapes es h = ((and_parts _ _ h).0, range_of _ (and_parts _ _ h).1)

small_by : (k : Bool) (a b n inner r : ℕ) → binary_length k a b ≤ n → inner ≡ operand_length k a b n → r < 2 ^ inner → (k ≡ true → r < 2) → r < 2 ^ n
small_by true a b n inner r le is small bit = bit_small r n (bit refl) le
small_by false a b n inner r le is small bit = subst (λ (m : ℕ). r < 2 ^ m) is small

-- a binary operator's result has no more bits than its context
pub binary_small : (shapes : Shapes) (a b : Tree) (k : Bool) (n inner r : ℕ) → binary_length k (length_of shapes a) (length_of shapes b) ≤ n
    → inner ≡ operand_length k (length_of shapes a) (length_of shapes b) n → r < 2 ^ inner → (k ≡ true → r < 2) → r < 2 ^ n
binary_small shapes a b k n inner r le is small bit = small_by k (length_of shapes a) (length_of shapes b) n inner r le is small bit

-- one more member below the higher ones
pub append_small : (high low h l : ℕ) → high < 2 ^ h → low < 2 ^ l → high * 2 ^ l + low < 2 ^ (h + l)
append_small high low h l first second = omega (arith, mul-add-lt high (2 ^ l) low (2 ^ h) first second, pow-add 2 h l)

pub append_fits : (high low h l : ℕ) → high < 2 ^ h → low < 2 ^ l → h + l ≤ 128 → high * 2 ^ l + low < 2 ^ 128
append_fits high low h l first second le = omega (arith, append_small high low h l first second, (power_order (h + l) 128 le).0)

-- the bits of one member more: w of its own, r behind it
pub next_joined : (bits added w r t old new whole : ℕ) → t ≡ w + r → old ≡ added * 2 ^ r + new → bits * 2 ^ t + old ≡ whole → (bits * 2 ^ w + added) * 2 ^ r + new ≡ whole
next_joined bits added w r t old new whole sum is all =
    let power = ap (λ (n : ℕ). bits * 2 ^ n) sum ∙ ap (λ (x : ℕ). bits * x) (pow-add 2 w r) in
    omega (arith, power, mul_assoc bits (2 ^ w) (2 ^ r), add-mul (bits * 2 ^ w) added (2 ^ r), is, all)
