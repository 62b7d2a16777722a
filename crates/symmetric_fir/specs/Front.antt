-- The nodes behind the window: registers over the pairs and the centre, and the tree.
use Rattle.std.specs.Prelude.{◌≡◌, ℕ, List, ◌++◌, ℤ}
use Rattle.net_graph.specs.declared.cell.Node.{Node}
use Rattle.net_graph.specs.declared.name.NameKind.TheVariants.{PreAdder, Register}
use Rattle.net_graph.specs.Cells.{NetView}
use Rattle.stage_law.specs.Streams.{Streams}
use Rattle.fir_pieces.specs.declared.held.Held.{Held}
use Rattle.fir_pieces.specs.Readers.{AddsReaders}
use Rattle.fir_pieces.specs.Sums.{AddsTree}
use Rattle.symmetric_fir.specs.Pairs.{pairs, centres, readings, mirror_terms}

-- the new net has registers over the pairs and the centre of a window
pub record AddsFront (streams : Streams) (old new : NetView) (window : List Node) (anti : ℕ) (taps : List ℤ) (pair_held centre_held : List Held) (pair_nodes centre_nodes : List Node) : Type 0 where
  pub between : NetView
  pub pairs_added : AddsReaders streams old between window PreAdder (pairs anti taps) pair_held pair_nodes
  pub centres_added : AddsReaders streams between new window Register (centres taps) centre_held centre_nodes

-- and then the tree over these
pub record AddsSums (streams : Streams) (old new : NetView) (window : List Node) (anti : ℕ) (taps : List ℤ) (levels : ℕ) (pair_held held : List Held) (pair_nodes registers : List Node) (root : Node) : Type 0 where
  pub middle : NetView
  pub centre_held : List Held
  pub centre_nodes : List Node
  pub tree_held : List Held
  pub tree_registers : List Node
  pub front : AddsFront streams old middle window anti taps pair_held centre_held pair_nodes centre_nodes
  pub tree : AddsTree streams middle new (pair_nodes ++ centre_nodes) (readings anti taps) 1 (mirror_terms taps) levels tree_held tree_registers root
  pub held_are : held ≡ centre_held ++ tree_held
  pub registers_are : registers ≡ centre_nodes ++ tree_registers
