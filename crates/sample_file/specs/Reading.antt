-- The rows of a file, line by line, up to the first refused line.
use Rattle.std.specs.Prelude.{ℕ, suc, ◌+◌, ◌*◌, ◌^◌, ◌==◌, nat_lt, nat_le, ℤ, not, if◌then◌else◌, List, [], ◌∷◌, ◌++◌, length, Option, None, Some, Result, Ok, Err}
use Rattle.std.specs.List.{list_all}
use Rattle.sample_file.specs.declared.fault.LineFault.{LineFault}
use Rattle.sample_file.specs.declared.fault.LineFault.TheVariants.{NotNumber, OutOfRange, Fields, LongLine, TooManyLines}
use Rattle.sample_file.specs.declared.row.Row.{Row}
use Rattle.sample_file.specs.Lines.{lines_of, content_of}
use Rattle.sample_file.specs.Fields.{fields_of, is_skipped, is_numeral, values_of}

-- the rows before the first refused line, and its fault where there is one
pub record Reading : Type 0 where
  pub rows : List Row
  pub fault : Option LineFault

abbrev pub no_rows : Reading
no_rows = record { rows = []; fault = None }

abbrev pub refused : LineFault → Reading
refused fault = record { rows = []; fault = Some fault }

-- ---- a line

-- numbers that 128 bits hold are a row
abbrev pub row_at : ℕ → Option (List ℤ) → Result (Option Row) LineFault
row_at number None = Err (OutOfRange number)
row_at number (Some values) = Ok (Some (record { line = number; values = values }))

-- the row of so many fields
abbrev pub row_of : ℕ → ℕ → List (List ℕ) → Result (Option Row) LineFault
row_of fields number found =
    if not (length found == fields) then Err (Fields number (length found))
    else if not (list_all is_numeral found) then Err (NotNumber number)
    else row_at number (values_of found)

abbrev pub content_row : ℕ → ℕ → List ℕ → Result (Option Row) LineFault
content_row fields number content =
    if nat_lt 4096 (length content) then Err (LongLine number)
    else if is_skipped content then Ok None
    else row_of fields number (fields_of content)

-- the row of the line of this number, none where it is skipped, or why it is refused
abbrev pub line_row : ℕ → ℕ → List ℕ → Result (Option Row) LineFault
line_row fields number line = if nat_le (2 ^ 32) number then Err TooManyLines else content_row fields number (content_of line)

-- ---- all lines

-- what a line gives, before what the others give
abbrev pub row_then : Result (Option Row) LineFault → Reading → Reading
row_then (Ok None) others = others
row_then (Ok (Some row)) others = record { rows = row ∷ others.rows; fault = others.fault }
row_then (Err fault) others = refused fault

-- the rows of lines that are numbered from this number on
abbrev pub rows_of : ℕ → ℕ → List (List ℕ) → Reading
rows_of fields number [] = no_rows
rows_of fields number (line ∷ lines) = row_then (line_row fields number line) (rows_of fields (suc number) lines)

-- the rows of a file whose lines have so many fields
abbrev pub file_rows : ℕ → List ℕ → Reading
file_rows fields bytes = rows_of fields 1 (lines_of bytes)

-- ---- from the midst of a file

-- how far a file was read: how many lines have ended, the bytes of the one that hasn't, and the fault that was found
pub record Place : Type 0 where
  pub fields : ℕ
  pub ended : ℕ
  pub begun : List ℕ
  pub fault : Option LineFault

abbrev pub start : ℕ → Place
start fields = record { fields = fields; ended = 0; begun = []; fault = None }

abbrev pub unless : Option LineFault → Reading → Reading
unless None reading = reading
unless (Some fault) reading = refused fault

-- the rows from a place on, where these bytes follow
abbrev pub rows_from : Place → List ℕ → Reading
rows_from place bytes = unless place.fault (rows_of place.fields (suc place.ended) (lines_of (place.begun ++ bytes)))

-- the most bytes that may stand before a place: a line has at most 4,098 with its end
abbrev pub most_before : Place → ℕ
most_before place = place.ended * 4098 + length place.begun
