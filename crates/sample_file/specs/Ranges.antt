-- Rows as samples and as cycles of a stimulus: the first line that is out of its range is refused.
use Rattle.std.specs.Prelude.{ℕ, zero, suc, ◌^◌, ℤ, pos, negsuc, nat_lt, Bool, true, false, if◌then◌else◌, List, [], ◌∷◌, Option, None, Some, Result, Ok, Err, slice_index_or}
use Rattle.mr_values.specs.Width.{pattern}
use Rattle.sample_file.specs.declared.fault.LineFault.{LineFault}
use Rattle.sample_file.specs.declared.fault.LineFault.TheVariants.{OutOfRange}
use Rattle.sample_file.specs.declared.row.Row.{Row}
use Rattle.sample_file.specs.declared.ranges.Stimulus.{Stimulus}
use Rattle.sample_file.specs.Fields.{is_held}
use Rattle.sample_file.specs.Reading.{Reading}

-- the value in this place of a row
abbrev pub value_at : Row → ℕ → ℤ
value_at row place = slice_index_or row.values place (pos 0)

-- the sample of a row, which so many bits hold
abbrev pub sample_of : ℕ → Row → Result ℤ LineFault
sample_of width row = if is_held width (value_at row 0) then Ok (value_at row 0) else Err (OutOfRange row.line)

-- 0 or 1
abbrev pub flag_of : ℤ → Option Bool
flag_of (pos zero) = Some false
flag_of (pos (suc zero)) = Some true
flag_of (pos (suc (suc n))) = None
flag_of (negsuc n) = None

-- a number that isn't negative and below 2 ^ width
abbrev pub is_unsigned : ℕ → ℤ → Bool
is_unsigned width (pos n) = nat_lt n (2 ^ width)
is_unsigned width (negsuc n) = false

-- the pattern of a number at a port of so many bits, signed or not, which hold it
abbrev pub pattern_of : ℕ → Bool → ℤ → Option ℕ
pattern_of width true number = if is_held width number then Some (pattern width number) else None
pattern_of width false number = if is_unsigned width number then Some (pattern width number) else None

abbrev pub stimulus_at : ℕ → Option Bool → Option Bool → Option ℕ → Result Stimulus LineFault
stimulus_at number (Some rst) (Some ce) (Some in_data) = Ok (record { rst = rst; ce = ce; in_data = in_data })
stimulus_at number _ _ _ = Err (OutOfRange number)

-- `rst`, `ce` and `in_data` of a row, the last for a port of so many bits
abbrev pub stimulus_of : ℕ → Bool → Row → Result Stimulus LineFault
stimulus_of width signed row = stimulus_at row.line (flag_of (value_at row 0)) (flag_of (value_at row 1)) (pattern_of width signed (value_at row 2))

-- ---- whole files

-- what the rows before the first refused line stand for, and its fault where there is one
pub record Checked (A : Type 0) : Type 0 where
  pub items : List A
  pub fault : Option LineFault

abbrev pub item_then : {A : Type 0} → Result A LineFault → Checked A → Checked A
item_then (Ok item) others = record { items = item ∷ others.items; fault = others.fault }
item_then (Err fault) others = record { items = []; fault = Some fault }

abbrev pub checked : {A : Type 0} → (Row → Result A LineFault) → List Row → Option LineFault → Checked A
checked item_of [] fault = record { items = []; fault = fault }
checked item_of (row ∷ rows) fault = item_then (item_of row) (checked item_of rows fault)

-- rows as samples of so many bits
abbrev pub samples_of : ℕ → Reading → Checked ℤ
samples_of width reading = checked (sample_of width) reading.rows reading.fault

-- rows as cycles of a stimulus
abbrev pub stimuli_of : ℕ → Bool → Reading → Checked Stimulus
stimuli_of width signed reading = checked (stimulus_of width signed) reading.rows reading.fault
