-- Signals and names, by their numbers and by their texts.
use Rattle.std.specs.Prelude.{ℕ, ◌==◌, ◌&&◌, ◌++◌, nat_eq, nat_le, Bool, false, List, [], ◌∷◌, Option, find, bytes_eq, slice_get, codes, decimal, length, drop}
use Rattle.std.specs.List.{position_or_len, list_all, starts_with}
use Rattle.std.specs.Option.{option_map, option_map_or, unwrap_or}
use Rattle.verilog_tree.specs.declared.tree.Signal.{Signal}
use Rattle.verilog_tree.specs.declared.tree.Kind.{Kind}
use Rattle.verilog_tree.specs.Tree.{Design}
use Rattle.verilog_tree.specs.Meaning.{Shapes}

-- the first declaration of a name
abbrev pub declaration_in : List Signal → ℕ → Option Signal
declaration_in signals n = find (λ s. s.name == n) signals

-- a name without a declaration has length 1 and no sign
abbrev pub shapes_in : List Signal → Shapes
shapes_in signals = record {
  width = λ n. option_map_or (λ s. s.width) (declaration_in signals n) 1;
  signed = λ n. option_map_or (λ s. s.signed) (declaration_in signals n) false;
}

abbrev pub shapes_of : Design → Shapes
shapes_of d = shapes_in d.signals

-- what a name is declared as
abbrev pub kind_of : Design → ℕ → Option Kind
kind_of d n = option_map (λ s. s.kind) (declaration_in d.signals n)

-- the text of a name; none past the last
abbrev pub text_of : Design → ℕ → List ℕ
text_of d n = unwrap_or (slice_get d.names n) []

-- the number of the first name with this text; past the last where there is none
abbrev pub number_of : Design → List ℕ → ℕ
number_of d text = position_or_len (bytes_eq text) d.names

-- ---- names of the emitted text, by how they begin

-- a control name
abbrev pub is_control : List ℕ → Bool
is_control text = starts_with nat_eq text (codes "ctl_")

-- how the names of a group begin
abbrev pub group_prefix : ℕ → List ℕ
group_prefix group = codes "s" ++ decimal group ++ codes "_"

abbrev pub is_in_group : ℕ → List ℕ → Bool
is_in_group group text = starts_with nat_eq text (group_prefix group)

abbrev pub is_digit : ℕ → Bool
is_digit c = nat_le 48 c && nat_le c 57

-- at least one decimal digit and nothing else
abbrev pub is_number : List ℕ → Bool
is_number [] = false
is_number (c ∷ cs) = is_digit c && list_all is_digit cs

-- a name of a group that is numbered behind this letter
abbrev pub is_numbered : ℕ → List ℕ → List ℕ → Bool
is_numbered group letter text =
    starts_with nat_eq text (group_prefix group ++ letter) && is_number (drop (length (group_prefix group ++ letter)) text)

-- a register of a window; a table
abbrev pub is_window : ℕ → List ℕ → Bool
is_window group = is_numbered group (codes "w")

abbrev pub is_table : ℕ → List ℕ → Bool
is_table group = is_numbered group (codes "t")
