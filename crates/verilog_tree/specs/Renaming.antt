-- Names by their texts, and modules with other numbers for their names.
use Rattle.std.specs.Prelude.{◌≡◌, ℕ, ◌+◌, List, [], ◌∷◌, length, slice_index_or, if◌then◌else◌}
use Rattle.std.specs.Str.{bytes_eq}
use Rattle.verilog_tree.specs.declared.tree.Signal.{Signal}
use Rattle.verilog_tree.specs.Tree as tree
use Rattle.verilog_tree.specs.Tree.{Tree, Trees, Action, Actions, Assignment}

-- the text of a name, none past the last
abbrev pub name_in : List (List ℕ) → ℕ → List ℕ
name_in names n = slice_index_or names n []

-- the number of a text among the names, their count where it is none of them
abbrev pub number_in : List (List ℕ) → List ℕ → ℕ
number_in [] text = 0
number_in (name ∷ names) text = if bytes_eq name text then 0 else number_in names text + 1

-- no name stands twice
abbrev pub AreDistinct : List (List ℕ) → Type 0
AreDistinct [] = Unit {0}
AreDistinct (name ∷ names) = (number_in names name ≡ length names) × AreDistinct names

-- a tree with other numbers for its names
abbrev mutual
  pub tree_in : (ℕ → ℕ) → Tree → Tree
  tree_in to (tree.Name name) = tree.Name (to name)
  tree_in to (tree.Bit name place) = tree.Bit (to name) place
  tree_in to (tree.Part name high low) = tree.Part (to name) high low
  tree_in to (tree.Plain value) = tree.Plain value
  tree_in to (tree.Based width signed bits) = tree.Based width signed bits
  tree_in to (tree.Cat members) = tree.Cat (trees_in to members)
  tree_in to (tree.Not operand) = tree.Not (tree_in to operand)
  tree_in to (tree.Binary op left right) = tree.Binary op (tree_in to left) (tree_in to right)
  tree_in to (tree.Shift op operand amount) = tree.Shift op (tree_in to operand) amount
  tree_in to (tree.Choice condition on_true on_false) = tree.Choice (tree_in to condition) (tree_in to on_true) (tree_in to on_false)

  pub trees_in : (ℕ → ℕ) → Trees → Trees
  trees_in to tree.none = tree.none
  trees_in to (tree.more first rest) = tree.more (tree_in to first) (trees_in to rest)

abbrev mutual
  pub action_in : (ℕ → ℕ) → Action → Action
  action_in to (tree.Block members) = tree.Block (actions_in to members)
  action_in to (tree.When condition on_true) = tree.When (tree_in to condition) (action_in to on_true)
  action_in to (tree.Either condition on_true on_false) = tree.Either (tree_in to condition) (action_in to on_true) (action_in to on_false)
  action_in to (tree.Give register value) = tree.Give (to register) (tree_in to value)

  pub actions_in : (ℕ → ℕ) → Actions → Actions
  actions_in to tree.no_action = tree.no_action
  actions_in to (tree.action first rest) = tree.action (action_in to first) (actions_in to rest)

abbrev pub assignment_in : (ℕ → ℕ) → Assignment → Assignment
assignment_in to a = record { target = to a.target; value = tree_in to a.value }

abbrev pub signal_in : (ℕ → ℕ) → Signal → Signal
signal_in to s = record s { name = to s.name }
