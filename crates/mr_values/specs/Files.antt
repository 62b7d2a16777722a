-- Files by their names.
use Rattle.std.specs.Prelude.{ℕ, List, [], unwrap_or}
use Rattle.std.specs.Ordering.{nat_cmp}
use Rattle.std.specs.Cmp.Lexicographic.{slice_cmp}
use Rattle.std.specs.FinMap.{FinMap, get}

-- the bytes of each file, by its name
abbrev pub Files : Type 0
Files = FinMap (slice_cmp nat_cmp) (List ℕ)

-- the bytes of a file, or none where there is no such file
abbrev pub bytes_of : Files → List ℕ → List ℕ
bytes_of files name = unwrap_or (get files name) []
