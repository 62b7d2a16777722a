-- A file as lines.
use Rattle.std.specs.Prelude.{ℕ, ◌==◌, ◌-◌, if◌then◌else◌, List, [], ◌∷◌, length, take, slice_index}
use Rattle.std.specs.List.{onto_first}

-- a byte before lines: LF ends a line, and another byte stands in the first line
abbrev pub line_before : ℕ → List (List ℕ) → List (List ℕ)
line_before byte lines = if byte == 10 then [] ∷ lines else onto_first byte lines

-- the lines of a file: what stands before each LF, and what stands behind the last one, where that is anything
abbrev pub lines_of : List ℕ → List (List ℕ)
lines_of [] = []
lines_of (byte ∷ bytes) = line_before byte (lines_of bytes)

-- a line without its end, to which one CR belongs
abbrev pub content_of : List ℕ → List ℕ
content_of line = if slice_index line (length line - 1) == 13 then take (length line - 1) line else line
