-- Signed sums of leaves.
use Rattle.std.specs.Prelude.{ℕ, zero, suc, ◌*◌, ◌^◌, ◌≤◌, ◌+◌, ◌<◌, ℤ, pos, neg_ℤ, ◌+ℤ◌, ◌*ℤ◌, List, [], ◌∷◌, length, take, drop, Bool, true, false, if◌then◌else◌}
use Rattle.net_graph.specs.declared.cell.Cell.{Cell}
use Rattle.net_graph.specs.declared.cell.Leaf.{Leaf}
use Rattle.net_graph.specs.Cells.{cell_at}
use Rattle.net_graph.specs.Run.{Values}

-- a sequence some ticks before, and 0 where there was none
abbrev pub delayed : ℕ → ℕ → (ℕ → ℤ) → ℤ
delayed zero t sequence = sequence t
delayed (suc ticks) zero sequence = pos 0
delayed (suc ticks) (suc t) sequence = delayed ticks t sequence

-- a number, negated where this is so
abbrev pub signed_by : Bool → ℤ → ℤ
signed_by true z = neg_ℤ z
signed_by false z = z

-- a leaf's value at a tick
abbrev pub leaf_value : Values → ℕ → Leaf → ℤ
leaf_value values t leaf = signed_by leaf.negative (values t leaf.node.place *ℤ pos (2 ^ leaf.place))

-- the sum of the leaves at a tick
abbrev pub signed_sum : Values → ℕ → List Leaf → ℤ
signed_sum values t [] = pos 0
signed_sum values t (leaf ∷ leaves) = leaf_value values t leaf +ℤ signed_sum values t leaves

-- each leaf is negative
abbrev pub all_negative : List Leaf → Bool
all_negative [] = true
all_negative (leaf ∷ leaves) = if leaf.negative then all_negative leaves else false

-- what a register over these leaves holds: their sum, or the sum of their negations where all are negative
abbrev pub held_sum : Values → ℕ → List Leaf → ℤ
held_sum values t leaves = signed_by (all_negative leaves) (signed_sum values t leaves)

-- the leaves under the register number j of a level: those from j * 2 ^ level to (j + 1) * 2 ^ level
abbrev pub segment : ℕ → ℕ → List Leaf → List Leaf
segment level j leaves = take (2 ^ level) (drop (j * 2 ^ level) leaves)

-- the leaf's node is of the net, and the shifted leaf has at most 128 bits
pub record IsLeaf (cells : List Cell) (leaf : Leaf) : Type 0 where
  pub within : leaf.node.place < length cells
  pub wide : 1 ≤ (cell_at cells leaf.node.place).width
  pub shifts : (cell_at cells leaf.node.place).width + leaf.place ≤ 128

-- the negated shifted leaf has at most 128 bits
pub record IsNegatable (cells : List Cell) (leaf : Leaf) : Type 0 where
  pub room : (cell_at cells leaf.node.place).width + leaf.place ≤ 127
