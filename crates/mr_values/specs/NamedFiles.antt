-- A list of files, as files by their names.
use Rattle.std.specs.Prelude.{ℕ, ◌+◌, Bool, true, false, not, ◌&&◌, List, [], ◌∷◌, map, string_bytes, vec_capacity, slice_get, unwrap_or}
use Rattle.std.specs.List.{list_any}
use Rattle.std.specs.Ordering.{nat_cmp, eq_by_cmp}
use Rattle.std.specs.Cmp.Lexicographic.{slice_cmp}
use Rattle.std.specs.FinMap.{from_entries}
use Rattle.mr_values.specs.declared.named_file.NamedFile.{NamedFile}
use Rattle.mr_values.specs.Files.{Files}

abbrev pub name_of : NamedFile → List ℕ
name_of file = string_bytes file.name

abbrev pub entry_of : NamedFile → List ℕ × List ℕ
entry_of file = (name_of file, file.bytes.items)

abbrev pub names_of : List NamedFile → List (List ℕ)
names_of files = map name_of files

abbrev pub files_of : List NamedFile → Files
files_of files = from_entries (map entry_of files)

-- the two names are the same
abbrev pub same_name : List ℕ → List ℕ → Bool
same_name = eq_by_cmp (slice_cmp nat_cmp)

-- no name stands twice
abbrev pub are_distinct : List (List ℕ) → Bool
are_distinct [] = true
are_distinct (name ∷ names) = not (list_any (same_name name) names) && are_distinct names

-- the name and the bytes of the file at a place
abbrev pub name_in : List (List ℕ) → ℕ → List ℕ
name_in names at = unwrap_or (slice_get names at) []

abbrev pub name_at : List NamedFile → ℕ → List ℕ
name_at files at = name_in (names_of files) at

abbrev pub bytes_at : List NamedFile → ℕ → List ℕ
bytes_at files at = unwrap_or (slice_get (map (λ file. file.bytes.items) files) at) []

-- how many bytes the memory of the file at a place has room for
abbrev pub capacity_at : List NamedFile → ℕ → ℕ
capacity_at files at = unwrap_or (slice_get (map (λ file. vec_capacity file.bytes) files) at) 0

-- a count, where it is wanted
abbrev pub count_where : Bool → ℕ → ℕ
count_where true count = count
count_where false count = 0

-- how often the file of this name, which stands at most once, was read to its end
abbrev pub ends_in : List NamedFile → List ℕ → ℕ
ends_in [] name = 0
ends_in (file ∷ files) name = count_where (same_name name (name_of file)) file.ends + ends_in files name
