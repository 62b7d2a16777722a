-- The length, the sign and the value of an expression: IEEE 1364-2001, 4.4 and 4.5, over bits that are 0 or 1.
use Rattle.std.specs.Prelude.{ℕ, zero, suc, ◌+◌, ◌-◌, ◌*◌, ◌/◌, ◌%◌, ◌^◌, ◌<◌, ◌≤◌, ◌==◌, max, nat_lt, nat_le, bit_and, bit_or, bit_xor, Bool, true, false, not, ◌&&◌, if◌then◌else◌}
use Rattle.verilog_tree.specs.declared.tree.Op.{Op}
use Rattle.verilog_tree.specs.declared.tree.Op.TheVariants.{Add, Sub, Less, LessEqual, Greater, GreaterEqual, Equal, NotEqual, And, Xor, Or}
use Rattle.verilog_tree.specs.declared.tree.ShiftOp.{ShiftOp}
use Rattle.verilog_tree.specs.declared.tree.ShiftOp.TheVariants.{Left, Right, ArithLeft, ArithRight}
use Rattle.verilog_tree.specs.Tree.{Tree, Trees, Name, Bit, Part, Plain, Based, Cat, Not, Binary, Shift, Choice, none, more}

-- the declared lengths and signs, by the number of a name
pub record Shapes : Type 0 where
  pub width : ℕ → ℕ
  pub signed : ℕ → Bool

-- the patterns of all signals, by the numbers of their names
abbrev pub Values : Type 0
Values = ℕ → ℕ

-- ---- lengths

abbrev pub is_comparison : Op → Bool
is_comparison Less = true
is_comparison LessEqual = true
is_comparison Greater = true
is_comparison GreaterEqual = true
is_comparison Equal = true
is_comparison NotEqual = true
is_comparison Add = false
is_comparison Sub = false
is_comparison And = false
is_comparison Xor = false
is_comparison Or = false

abbrev pub binary_length : Bool → ℕ → ℕ → ℕ
binary_length true a b = 1
binary_length false a b = max a b

abbrev mutual
  -- an expression's own length, in bits
  pub length_of : Shapes → Tree → ℕ
  length_of shapes (Name n) = shapes.width n
  length_of shapes (Bit n place) = 1
  length_of shapes (Part n high low) = high - low + 1
  length_of shapes (Plain n) = 32
  length_of shapes (Based width signed bits) = width
  length_of shapes (Cat members) = total_length shapes members
  length_of shapes (Not a) = length_of shapes a
  length_of shapes (Binary op a b) = binary_length (is_comparison op) (length_of shapes a) (length_of shapes b)
  length_of shapes (Shift op a amount) = length_of shapes a
  length_of shapes (Choice condition a b) = max (length_of shapes a) (length_of shapes b)

  pub total_length : Shapes → Trees → ℕ
  total_length shapes none = 0
  total_length shapes (more first rest) = length_of shapes first + total_length shapes rest

-- ---- signs

abbrev pub binary_signed : Bool → Bool → Bool → Bool
binary_signed true a b = false
binary_signed false a b = a && b

-- an expression's own sign
abbrev pub signed_of : Shapes → Tree → Bool
signed_of shapes (Name n) = shapes.signed n
signed_of shapes (Bit n place) = false
signed_of shapes (Part n high low) = false
signed_of shapes (Plain n) = true
signed_of shapes (Based width signed bits) = signed
signed_of shapes (Cat members) = false
signed_of shapes (Not a) = signed_of shapes a
signed_of shapes (Binary op a b) = binary_signed (is_comparison op) (signed_of shapes a) (signed_of shapes b)
signed_of shapes (Shift op a amount) = signed_of shapes a
signed_of shapes (Choice condition a b) = signed_of shapes a && signed_of shapes b

-- ---- bits

-- the top one of so many bits is 1
abbrev pub top_bit : ℕ → ℕ → Bool
top_bit length bits = nat_le (2 ^ (length - 1)) bits

-- from a length to one that is not less: the top bit is repeated in a signed context
abbrev pub extension : ℕ → ℕ → Bool → ℕ → ℕ
extension from length signed bits = if signed && top_bit from bits then bits + (2 ^ length - 2 ^ from) else bits

-- the number that the bits are in two's complement, raised by half of the range so that it is natural
abbrev pub order_place : Bool → ℕ → ℕ → ℕ
order_place false length bits = bits
order_place true length bits = (bits + 2 ^ (length - 1)) % 2 ^ length

abbrev pub bit_of : Bool → ℕ
bit_of b = if b then 1 else 0

-- an operator on bits of one length
abbrev pub operation : Op → Bool → ℕ → ℕ → ℕ → ℕ
operation Add signed length a b = (a + b) % 2 ^ length
operation Sub signed length a b = (a + (2 ^ length - b)) % 2 ^ length
operation And signed length a b = bit_and a b
operation Xor signed length a b = bit_xor a b
operation Or signed length a b = bit_or a b
operation Less signed length a b = bit_of (nat_lt (order_place signed length a) (order_place signed length b))
operation LessEqual signed length a b = bit_of (nat_le (order_place signed length a) (order_place signed length b))
operation Greater signed length a b = bit_of (nat_lt (order_place signed length b) (order_place signed length a))
operation GreaterEqual signed length a b = bit_of (nat_le (order_place signed length b) (order_place signed length a))
operation Equal signed length a b = bit_of (a == b)
operation NotEqual signed length a b = bit_of (not (a == b))

-- a shift of bits of one length
abbrev pub shifted : ShiftOp → Bool → ℕ → ℕ → ℕ → ℕ
shifted Left signed length amount a = (a * 2 ^ amount) % 2 ^ length
shifted ArithLeft signed length amount a = (a * 2 ^ amount) % 2 ^ length
shifted Right signed length amount a = a / 2 ^ amount
shifted ArithRight signed length amount a =
    if signed && top_bit length a then a / 2 ^ amount + (2 ^ length - 2 ^ (length - amount)) else a / 2 ^ amount

-- ---- values

-- the operands of a comparison have a length and a sign of their own, those of other operators take what is handed down
abbrev pub operand_length : Bool → ℕ → ℕ → ℕ → ℕ
operand_length true a b length = max a b
operand_length false a b length = length

abbrev pub operand_signed : Bool → Bool → Bool → Bool → Bool
operand_signed true a b signed = a && b
operand_signed false a b signed = signed

-- a condition holds where its value isn't 0
abbrev pub picked : ℕ → ℕ → ℕ → ℕ
picked zero a b = b
picked (suc n) a b = a

-- an operator in a context: a comparison's bit is extended with 0
abbrev pub binary_value : Op → Bool → ℕ → (ℕ → Bool → ℕ) → (ℕ → Bool → ℕ) → ℕ
binary_value op signed length a b = operation op signed length (a length signed) (b length signed)

abbrev mutual
  -- the bits of an expression, at a length and a sign that are handed down
  pub value : Shapes → Tree → Values → ℕ → Bool → ℕ
  value shapes (Name n) values length signed = extension (shapes.width n) length signed (values n)
  value shapes (Bit n place) values length signed = extension 1 length signed (values n / 2 ^ place % 2)
  value shapes (Part n high low) values length signed = extension (high - low + 1) length signed (values n / 2 ^ low % 2 ^ (high - low + 1))
  value shapes (Plain n) values length signed = extension 32 length signed n
  value shapes (Based width sign bits) values length signed = extension width length signed bits
  value shapes (Cat members) values length signed = extension (total_length shapes members) length signed (joined_bits shapes members values)
  value shapes (Not a) values length signed = 2 ^ length - 1 - value shapes a values length signed
  value shapes (Binary op a b) values length signed =
      binary_value op (operand_signed (is_comparison op) (signed_of shapes a) (signed_of shapes b) signed) (operand_length (is_comparison op) (length_of shapes a) (length_of shapes b) length)
      (value shapes a values) (value shapes b values)
  value shapes (Shift op a amount) values length signed = shifted op signed length amount (value shapes a values length signed)
  value shapes (Choice condition a b) values length signed =
      picked (value shapes condition values (length_of shapes condition) (signed_of shapes condition)) (value shapes a values length signed) (value shapes b values length signed)

  -- the bits of the members, the first the highest
  pub joined_bits : Shapes → Trees → Values → ℕ
  joined_bits shapes none values = 0
  joined_bits shapes (more first rest) values =
      value shapes first values (length_of shapes first) (signed_of shapes first) * 2 ^ total_length shapes rest + joined_bits shapes rest values

-- an expression by itself
abbrev pub alone : Shapes → Values → Tree → ℕ
alone shapes values e = value shapes e values (length_of shapes e) (signed_of shapes e)

-- a right side: evaluated at the greater of its own length and the target's, and cut to the target's
abbrev pub assigned : Shapes → Values → ℕ → Tree → ℕ
assigned shapes values target e = value shapes e values (max (length_of shapes e) (shapes.width target)) (signed_of shapes e) % 2 ^ shapes.width target

-- ---- what can be evaluated

-- 1 to 128 bits
abbrev pub is_width : ℕ → Bool
is_width n = nat_le 1 n && nat_le n 128

abbrev mutual
  -- an expression and all its parts have 1 to 128 bits, selects lie within their signals, shift amounts are at most 127
  pub fits : Shapes → Tree → Bool
  fits shapes (Name n) = is_width (shapes.width n)
  fits shapes (Bit n place) = nat_lt place (shapes.width n) && is_width (shapes.width n)
  fits shapes (Part n high low) = nat_lt high (shapes.width n) && (nat_le low high && is_width (shapes.width n))
  fits shapes (Plain n) = nat_lt n (2 ^ 32)
  fits shapes (Based width signed bits) = nat_lt bits (2 ^ width) && is_width width
  fits shapes (Cat members) = all_fit shapes members && is_width (total_length shapes members)
  fits shapes (Not a) = fits shapes a
  fits shapes (Binary op a b) = fits shapes a && fits shapes b
  fits shapes (Shift op a amount) = fits shapes a && nat_le amount 127
  fits shapes (Choice condition a b) = fits shapes condition && (fits shapes a && fits shapes b)

  pub all_fit : Shapes → Trees → Bool
  all_fit shapes none = true
  all_fit shapes (more first rest) = fits shapes first && all_fit shapes rest

-- the value of each name has no more bits than its declared length
pub record FitNames (shapes : Shapes) (values : Values) : Type 0 where
  pub each : (n : ℕ) → values n < 2 ^ shapes.width n

-- 1 to 128 bits
pub record IsFitting (length : ℕ) : Type 0 where
  pub least : 1 ≤ length
  pub most : length ≤ 128
