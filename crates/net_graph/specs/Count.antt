-- How many adders, window registers and tables a group has.
use Rattle.std.specs.Prelude.{ℕ, ◌+◌, List, [], ◌∷◌, Option, Some, None, Bool, true, false, ◌&&◌, nat_eq}
use Rattle.net_graph.specs.declared.cell.Cell.{Cell}
use Rattle.net_graph.specs.declared.cell.Item.{Item}
use Rattle.net_graph.specs.declared.cell.Item.TheVariants.{Add, Sub}
use Rattle.net_graph.specs.declared.name.Name.{Name}
use Rattle.net_graph.specs.declared.name.NameKind.{NameKind}
use Rattle.net_graph.specs.declared.name.NameKind.TheVariants.{Window, Table}

-- the sum of a count over the nodes
abbrev pub total : (Cell → ℕ) → List Cell → ℕ
total count [] = 0
total count (cell ∷ cells) = count cell + total count cells

abbrev pub is_adder : Option Item → Bool
is_adder (Some (Add a b)) = true
is_adder (Some (Sub a b)) = true
is_adder _ = false

abbrev pub is_window : NameKind → Bool
is_window Window = true
is_window _ = false

abbrev pub is_table : NameKind → Bool
is_table Table = true
is_table _ = false

abbrev pub has_kind : (NameKind → Bool) → ℕ → Option Name → Bool
has_kind is group None = false
has_kind is group (Some name) = nat_eq name.group group && is name.kind

abbrev pub one_if : Bool → ℕ
one_if true = 1
one_if false = 0

-- 1 for a sum or a difference of the group
abbrev pub adder : ℕ → Cell → ℕ
adder group cell = one_if (nat_eq cell.group group && is_adder cell.item)

-- 1 for a register that is named as a window's of the group
abbrev pub window : ℕ → Cell → ℕ
window group cell = one_if (has_kind is_window group cell.name)

-- 1 for a node that is named as a table of the group
abbrev pub table : ℕ → Cell → ℕ
table group cell = one_if (has_kind is_table group cell.name)

abbrev pub adders_in : ℕ → List Cell → ℕ
adders_in group cells = total (adder group) cells

abbrev pub windows_in : ℕ → List Cell → ℕ
windows_in group cells = total (window group) cells

abbrev pub tables_in : ℕ → List Cell → ℕ
tables_in group cells = total (table group) cells
