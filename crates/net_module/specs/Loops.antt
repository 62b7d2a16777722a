-- What each node adds to the lists of a module that is being written.
use Rattle.std.specs.Prelude.{◌≡◌, ℕ, ◌+◌, ◌<◌, not, List, [], ◌∷◌, ◌++◌, length, map, drop, slice_index}
use Rattle.net_graph.specs.declared.cell.Cell.{Cell}
use Rattle.net_graph.specs.Name.{is_input}
use Rattle.verilog_tree.specs.declared.tree.Assign.{Assign}
use Rattle.verilog_tree.specs.declared.tree.Stmt.{Stmt}
use Rattle.verilog_tree.specs.declared.tree.Signal.{Signal}
use Rattle.verilog_tree.specs.Tree.{Name}
use Rattle.verilog_tree.specs.View.{assignment_view, action_view}
use Rattle.net_module.specs.Written.{out_valid_name, out_data_name, is_wire, is_register, unless, own_number, number_in, number_of, node_text, node_texts, node_signal, node_signals, node_assigns, node_blocks, tree_for, block_for}

-- the texts of names, the declarations, and the numbers of the names of the nodes so far
pub record Listed : Type 0 where
  pub names : List (List ℕ)
  pub signals : List Signal
  pub numbers : List ℕ

-- a node's name and its declaration are added, and the number of its name
pub record AddsNode (cell : Cell) (place : ℕ) (old new : Listed) : Type 0 where
  pub names : new.names ≡ old.names ++ unless (is_input cell.item) (node_text cell place) []
  pub signals : new.signals ≡ old.signals ++ unless (is_input cell.item) (node_signal cell (length old.names)) []
  pub numbers : new.numbers ≡ old.numbers ++ own_number (is_input cell.item) (length old.names) ∷ []

-- the first nodes are declared behind what stood there
pub record IsDeclaredTo (cells : List Cell) (count : ℕ) (old new : Listed) : Type 0 where
  pub names : new.names ++ node_texts (drop count cells) count ≡ old.names ++ node_texts cells 0
  pub signals : new.signals ++ node_signals (drop count cells) (length new.names) ≡ old.signals ++ node_signals cells 7
  pub count_of : length new.numbers ≡ count
  pub numbers : (k : ℕ) → k < count → slice_index new.numbers k ≡ number_of cells k
  pub later : (k : ℕ) → number_in (drop count cells) (length new.names) k ≡ number_of cells (count + k)

-- all nodes are declared
pub record Declares (cells : List Cell) (old new : Listed) : Type 0 where
  pub names : new.names ≡ old.names ++ node_texts cells 0
  pub signals : new.signals ≡ old.signals ++ node_signals cells 7
  pub count : length new.numbers ≡ length cells
  pub numbers : (k : ℕ) → slice_index new.numbers k ≡ number_of cells k

-- the number of a node's name, from a list of numbers
abbrev pub listed_number : List ℕ → ℕ → ℕ
listed_number numbers = λ k. slice_index numbers k

-- a node's assignment or its block is added
pub record AddsDriver (numbers : List ℕ) (cell : Cell) (place : ℕ) (old_assigns new_assigns : List Assign) (old_blocks new_blocks : List Stmt) : Type 0 where
  pub assigns : map assignment_view new_assigns
      ≡ map assignment_view old_assigns ++ unless (not (is_wire cell.item)) (record { target = slice_index numbers place; value = tree_for (listed_number numbers) cell.width cell.item }) []
  pub blocks : map action_view new_blocks
      ≡ map action_view old_blocks ++ unless (not (is_register cell.item)) (block_for (slice_index numbers place) cell.width (tree_for (listed_number numbers) cell.width cell.item)) []

-- the first nodes are driven, behind what stood there
pub record IsDrivenTo (numbers : List ℕ) (cells : List Cell) (count : ℕ) (old_assigns new_assigns : List Assign) (old_blocks new_blocks : List Stmt) : Type 0 where
  pub assigns : map assignment_view new_assigns ++ node_assigns (listed_number numbers) (drop count cells) count ≡ map assignment_view old_assigns ++ node_assigns (listed_number numbers) cells 0
  pub blocks : map action_view new_blocks ++ node_blocks (listed_number numbers) (drop count cells) count ≡ map action_view old_blocks ++ node_blocks (listed_number numbers) cells 0

-- all nodes are driven
pub record Drives (numbers : List ℕ) (cells : List Cell) (old_assigns new_assigns : List Assign) (old_blocks new_blocks : List Stmt) : Type 0 where
  pub assigns : map assignment_view new_assigns ≡ map assignment_view old_assigns ++ node_assigns (listed_number numbers) cells 0
  pub blocks : map action_view new_blocks ≡ map action_view old_blocks ++ node_blocks (listed_number numbers) cells 0

-- the outputs have their assignments, and nothing else is driven
pub record IsHead (numbers : List ℕ) (valid output : ℕ) (head_assigns : List Assign) (head_blocks : List Stmt) : Type 0 where
  pub assigns : map assignment_view head_assigns
      ≡ record { target = out_valid_name; value = Name (slice_index numbers valid) } ∷ record { target = out_data_name; value = Name (slice_index numbers output) } ∷ []
  pub blocks : map action_view head_blocks ≡ []
