-- The fields of a line, and the numbers that they are.
use Rattle.std.specs.Prelude.{ℕ, ◌==◌, ◌^◌, ◌-◌, ℤ, pos, neg_ℤ, int_le, int_lt, Bool, true, false, not, ◌&&◌, ◌||◌, if◌then◌else◌, List, [], ◌∷◌, length, filter, find, Option, None, Some, option_map}
use Rattle.std.specs.List.{slice_split, list_all}
use Rattle.std.specs.Char.{is_ascii_digit}
use Rattle.std.specs.Str.Parse.{without_leading_sign, signed_digits_value}

-- a space or a tab
abbrev pub is_blank : ℕ → Bool
is_blank byte = byte == 32 || byte == 9

-- any other byte
abbrev pub is_other : ℕ → Bool
is_other byte = not (is_blank byte)

abbrev pub is_filled : List ℕ → Bool
is_filled [] = false
is_filled (byte ∷ bytes) = true

-- the fields of a line: what stands between blanks, where that is anything
abbrev pub fields_of : List ℕ → List (List ℕ)
fields_of content = filter is_filled (slice_split is_blank content)

-- nothing, or a #
abbrev pub begins_no_field : Option ℕ → Bool
begins_no_field None = true
begins_no_field (Some byte) = byte == 35

-- a line of blanks alone, and one whose first other byte is a #, is skipped
abbrev pub is_skipped : List ℕ → Bool
is_skipped content = begins_no_field (find is_other content)

-- one or more digits behind a sign or none
abbrev pub is_numeral : List ℕ → Bool
is_numeral field = not (length (without_leading_sign field) == 0) && list_all is_ascii_digit (without_leading_sign field)

-- so many bits of two's complement hold it
abbrev pub is_held : ℕ → ℤ → Bool
is_held bits number = int_le (neg_ℤ (pos (2 ^ (bits - 1)))) number && int_lt number (pos (2 ^ (bits - 1)))

-- the number of such a field, where 128 bits hold it
abbrev pub number_of : List ℕ → Option ℤ
number_of field = if is_held 128 (signed_digits_value 10 field) then Some (signed_digits_value 10 field) else None

abbrev pub three_of : Option ℤ → Option ℤ → Option ℤ → Option (List ℤ)
three_of (Some a) (Some b) (Some c) = Some (a ∷ b ∷ c ∷ [])
three_of _ _ _ = None

-- the numbers of one field or of three, with 0 in place of those that aren't there
abbrev pub values_of : List (List ℕ) → Option (List ℤ)
values_of (a ∷ []) = option_map (λ x. x ∷ pos 0 ∷ pos 0 ∷ []) (number_of a)
values_of (a ∷ b ∷ c ∷ []) = three_of (number_of a) (number_of b) (number_of c)
values_of _ = None
