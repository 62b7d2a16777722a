-- Tap files: rows of fields, each a whole number of 64 bits.
use Rattle.std.specs.Prelude.{◌≡◌, ℕ, suc, ◌==◌, ◌^◌, ◌-◌, ℤ, pos, neg_ℤ, int_le, Bool, true, false, not, ◌&&◌, ◌||◌, if◌then◌else◌, List, [], ◌∷◌, ◌++◌, take, drop, Result, Ok, Err}
use Rattle.std.specs.List.{prefix_len, list_all}
use Rattle.std.specs.Char.{is_ascii_digit}
use Rattle.std.specs.Str.Parse.{digits_value}
use Rattle.csv.specs.Reading.{AreRecords, default_config, strip_bom}
use Rattle.csv.specs.declared.parser.State.TheVariants.{StartRecord}
use Rattle.plan_reader.specs.declared.fault.TapWhy.{TapWhy}
use Rattle.plan_reader.specs.declared.fault.TapWhy.TheVariants.{NotNumber, TooLarge}
use Rattle.plan_reader.specs.declared.fault.TapFault.{TapFault}
use Rattle.plan_reader.specs.declared.fault.TapFault.TheVariants.{Bad, Memory}

-- ---- a field: blanks, a sign, digits, blanks

-- a space or a tab
abbrev pub is_blank : ℕ → Bool
is_blank byte = byte == 32 || byte == 9

abbrev pub after_blanks : List ℕ → List ℕ
after_blanks bytes = drop (prefix_len is_blank bytes) bytes

-- the digits in front, and what stands behind them
abbrev pub front_digits : List ℕ → List ℕ
front_digits bytes = take (prefix_len is_ascii_digit bytes) bytes

abbrev pub after_digits : List ℕ → List ℕ
after_digits bytes = drop (prefix_len is_ascii_digit bytes) bytes

-- one or more digits, and then blanks alone
abbrev pub is_unsigned : List ℕ → Bool
is_unsigned bytes = not (prefix_len is_ascii_digit bytes == 0) && list_all is_blank (after_digits bytes)

-- 64 bits hold it
abbrev pub held : ℤ → Result ℤ TapWhy
held number = if int_le (neg_ℤ (pos (2 ^ 63))) number && int_le number (pos (2 ^ 63 - 1)) then Ok number else Err TooLarge

abbrev pub with_sign : Bool → ℕ → ℤ
with_sign negative magnitude = if negative then neg_ℤ (pos magnitude) else pos magnitude

abbrev pub signed_tap : Bool → List ℕ → Result ℤ TapWhy
signed_tap negative bytes = if is_unsigned bytes then held (with_sign negative (digits_value 10 (front_digits bytes))) else Err NotNumber

abbrev pub tap_behind : List ℕ → Result ℤ TapWhy
tap_behind [] = Err NotNumber
tap_behind (byte ∷ bytes) = if byte == 45 then signed_tap true bytes else if byte == 43 then signed_tap false bytes else signed_tap false (byte ∷ bytes)

-- the number of a field
abbrev pub tap_of : List ℕ → Result ℤ TapWhy
tap_of field = tap_behind (after_blanks field)

-- ---- rows

-- a number in this row, or the fault of its field
abbrev pub at_row : ℕ → Result ℤ TapWhy → Result ℤ TapFault
at_row row (Ok tap) = Ok tap
at_row row (Err why) = Err (Bad row why)

-- numbers before those that follow
abbrev pub behind : List ℤ → Result (List ℤ) TapFault → Result (List ℤ) TapFault
behind taps (Ok others) = Ok (taps ++ others)
behind taps (Err fault) = Err fault

abbrev pub tap_then : Result ℤ TapFault → Result (List ℤ) TapFault → Result (List ℤ) TapFault
tap_then (Ok tap) others = behind (tap ∷ []) others
tap_then (Err fault) others = Err fault

abbrev pub row_then : Result (List ℤ) TapFault → Result (List ℤ) TapFault → Result (List ℤ) TapFault
row_then (Ok taps) others = behind taps others
row_then (Err fault) others = Err fault

-- the numbers of a row of this number, or its first field that is none
abbrev pub row_taps : ℕ → List (List ℕ) → Result (List ℤ) TapFault
row_taps row [] = Ok []
row_taps row (field ∷ fields) = tap_then (at_row row (tap_of field)) (row_taps row fields)

-- the numbers of all rows, counted from this number on, or the first field that is none
abbrev pub rows_taps : ℕ → List (List (List ℕ)) → Result (List ℤ) TapFault
rows_taps row [] = Ok []
rows_taps row (fields ∷ rows) = row_then (row_taps row fields) (rows_taps (suc row) rows)

-- these are the rows of a file
abbrev pub AreRows : List ℕ → List (List (List ℕ)) → Type 0
AreRows bytes rows = AreRecords default_config StartRecord (strip_bom bytes) rows

-- the bytes are a tap file of these taps, or have this first field that is no number
pub record SaysTaps (bytes : List ℕ) (answer : Result (List ℤ) TapFault) : Type 0 where
  pub rows : List (List (List ℕ))
  pub are_rows : AreRows bytes rows
  pub says : rows_taps 1 rows ≡ answer

abbrev pub IsTapRefusal : List ℕ → TapFault → Type 0
IsTapRefusal bytes (Bad row why) = SaysTaps bytes (Err (Bad row why))
IsTapRefusal bytes Memory = Unit {0}
