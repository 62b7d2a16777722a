-- The run of a module in which no data name is ever cut: every name that does not begin with `ctl_` has a whole number.
-- Names that begin with `ctl_`, and the inputs, have the numbers that their patterns stand for by their declared signs.
use Rattle.std.specs.Prelude.{◌≡◌, ℕ, zero, suc, ◌+◌, ◌-◌, ◌*◌, ◌^◌, Bool, true, false, not, nat_eq, bit_and, bit_or, bit_xor, List, [], ◌∷◌, Option, None, Some, slice_get, ℤ, pos, negsuc, ◌+ℤ◌, ◌-ℤ◌, ◌*ℤ◌, int_lt, int_le, if◌then◌else◌}
use Rattle.std.specs.Option.{unwrap_or}
use Rattle.mr_values.specs.Width.{floor_quotient, floor_remainder, chosen}
use Rattle.verilog_tree.specs.declared.tree.Op.{Op}
use Rattle.verilog_tree.specs.declared.tree.Op.TheVariants.{Add, Sub, Less, LessEqual, Greater, GreaterEqual, Equal, NotEqual, And, Xor, Or}
use Rattle.verilog_tree.specs.declared.tree.ShiftOp.{ShiftOp}
use Rattle.verilog_tree.specs.declared.tree.ShiftOp.TheVariants.{Left, Right, ArithLeft, ArithRight}
use Rattle.verilog_tree.specs.declared.tree.Kind.TheVariants.{Input}
use Rattle.verilog_tree.specs.Tree.{Tree, Trees, Name, Bit, Part, Plain, Based, Cat, Not, Binary, Shift, Choice, none, more, Action, Assignment, Design}
use Rattle.verilog_tree.specs.Meaning.{Shapes, Values, length_of, total_length}
use Rattle.verilog_tree.specs.Names.{shapes_of, text_of, kind_of, is_control}
use Rattle.verilog_tree.specs.Circuit.{later}
use Rattle.verilog_tree.specs.Cycle.{given_with}
use Rattle.verilog_tree.specs.Shown.{signed_value}

-- ---- bit operators on endless two's complement: -1 - n has the bits of n, each turned

abbrev pub whole_not : ℤ → ℤ
whole_not (pos n) = negsuc n
whole_not (negsuc n) = pos n

abbrev pub whole_and : ℤ → ℤ → ℤ
whole_and (pos a) (pos b) = pos (bit_and a b)
whole_and (pos a) (negsuc b) = pos (a - bit_and a b)
whole_and (negsuc a) (pos b) = pos (b - bit_and a b)
whole_and (negsuc a) (negsuc b) = negsuc (bit_or a b)

abbrev pub whole_or : ℤ → ℤ → ℤ
whole_or (pos a) (pos b) = pos (bit_or a b)
whole_or (pos a) (negsuc b) = negsuc (b - bit_and a b)
whole_or (negsuc a) (pos b) = negsuc (a - bit_and a b)
whole_or (negsuc a) (negsuc b) = negsuc (bit_and a b)

abbrev pub whole_xor : ℤ → ℤ → ℤ
whole_xor (pos a) (pos b) = pos (bit_xor a b)
whole_xor (pos a) (negsuc b) = negsuc (bit_xor a b)
whole_xor (negsuc a) (pos b) = negsuc (bit_xor a b)
whole_xor (negsuc a) (negsuc b) = pos (bit_xor a b)

abbrev pub whole_bit : Bool → ℤ
whole_bit b = if b then pos 1 else pos 0

abbrev pub whole_equal : ℤ → ℤ → Bool
whole_equal (pos a) (pos b) = nat_eq a b
whole_equal (pos a) (negsuc b) = false
whole_equal (negsuc a) (pos b) = false
whole_equal (negsuc a) (negsuc b) = nat_eq a b

abbrev pub whole_operation : Op → ℤ → ℤ → ℤ
whole_operation Add a b = a +ℤ b
whole_operation Sub a b = a -ℤ b
whole_operation And a b = whole_and a b
whole_operation Xor a b = whole_xor a b
whole_operation Or a b = whole_or a b
whole_operation Less a b = whole_bit (int_lt a b)
whole_operation LessEqual a b = whole_bit (int_le a b)
whole_operation Greater a b = whole_bit (int_lt b a)
whole_operation GreaterEqual a b = whole_bit (int_le b a)
whole_operation Equal a b = whole_bit (whole_equal a b)
whole_operation NotEqual a b = whole_bit (not (whole_equal a b))

abbrev pub whole_shift : ShiftOp → ℕ → ℤ → ℤ
whole_shift Left amount a = a *ℤ pos (2 ^ amount)
whole_shift ArithLeft amount a = a *ℤ pos (2 ^ amount)
whole_shift Right amount a = floor_quotient a (2 ^ amount)
whole_shift ArithRight amount a = floor_quotient a (2 ^ amount)

-- the bits from a high place down to a low one
abbrev pub whole_part : ℤ → ℕ → ℕ → ℤ
whole_part a high low = pos (floor_remainder (floor_quotient a (2 ^ low)) (2 ^ (high - low + 1)))

-- ---- values

-- the whole numbers of all names
abbrev pub Numbers : Type 0
Numbers = ℕ → ℤ

abbrev mutual
  -- the whole number of an expression
  pub whole : Shapes → Tree → Numbers → ℤ
  whole shapes (Name n) numbers = numbers n
  whole shapes (Bit n place) numbers = whole_part (numbers n) place place
  whole shapes (Part n high low) numbers = whole_part (numbers n) high low
  whole shapes (Plain n) numbers = pos n
  whole shapes (Based width sign bits) numbers = signed_value sign width bits
  whole shapes (Cat members) numbers = pos (whole_joined shapes members numbers)
  whole shapes (Not a) numbers = whole_not (whole shapes a numbers)
  whole shapes (Binary op a b) numbers = whole_operation op (whole shapes a numbers) (whole shapes b numbers)
  whole shapes (Shift op a amount) numbers = whole_shift op amount (whole shapes a numbers)
  whole shapes (Choice condition a b) numbers = chosen (whole shapes condition numbers) (whole shapes a numbers) (whole shapes b numbers)

  -- the lowest bits of the members, as many as each is long, the first the highest
  pub whole_joined : Shapes → Trees → Numbers → ℕ
  whole_joined shapes none numbers = 0
  whole_joined shapes (more first rest) numbers =
      floor_remainder (whole shapes first numbers) (2 ^ length_of shapes first) * 2 ^ total_length shapes rest + whole_joined shapes rest numbers

abbrev pub is_not_zero : ℤ → Bool
is_not_zero (pos zero) = false
is_not_zero (pos (suc n)) = true
is_not_zero (negsuc n) = true

-- the whole number that a statement gives a register, if it gives it one
abbrev pub whole_given : Shapes → Numbers → Action → ℕ → Option ℤ
whole_given shapes numbers = given_with (λ condition. is_not_zero (whole shapes condition numbers)) (λ target e. whole shapes e numbers)

abbrev pub whole_given_by : Shapes → Numbers → List Action → ℕ → Option ℤ
whole_given_by shapes numbers [] register = None
whole_given_by shapes numbers (s ∷ ss) register = later (whole_given shapes numbers s register) (whole_given_by shapes numbers ss register)

abbrev pub whole_next : Design → Numbers → Numbers
whole_next d numbers register = unwrap_or (whole_given_by (shapes_of d) numbers d.blocks register) (numbers register)

-- ---- the uncut run

-- the number that a name's pattern stands for by its declared sign
abbrev pub number_at : Design → Values → ℕ → ℤ
number_at d values n = signed_value ((shapes_of d).signed n) ((shapes_of d).width n) (values n)

-- the whole numbers of a cycle: beside its settled patterns, from the whole numbers of the registers
pub record IsUncut (d : Design) (content : Numbers) (values : Values) (numbers : Numbers) : Type 0 where
  pub control : (n : ℕ) → is_control (text_of d n) ≡ true → numbers n ≡ number_at d values n
  pub inputs : (n : ℕ) → kind_of d n ≡ Some Input → numbers n ≡ number_at d values n
  pub wires : (k : ℕ) (a : Assignment) → slice_get d.assigns k ≡ Some a → is_control (text_of d a.target) ≡ false → numbers a.target ≡ whole (shapes_of d) a.value numbers
  pub registers : (n : ℕ) → is_control (text_of d n) ≡ false → (kind_of d n ≡ Some Input → ⊥)
      → ((k : ℕ) (a : Assignment) → slice_get d.assigns k ≡ Some a → a.target ≡ n → ⊥) → numbers n ≡ content n

-- the whole numbers of every cycle of a run, from its settled patterns; it begins at a reset cycle
abbrev pub IsUncutRun : Design → Numbers → List Values → List Numbers → Type 0
IsUncutRun d content [] uncut = uncut ≡ []
IsUncutRun d content (values ∷ settled) uncut =
    (numbers : Numbers) × (rest : List Numbers) × (uncut ≡ numbers ∷ rest) × IsUncut d content values numbers × IsUncutRun d (whole_next d numbers) settled rest
