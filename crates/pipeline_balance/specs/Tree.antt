-- What an adder tree holds in every run in which its sums fit.
use Rattle.std.specs.Prelude.{◌≡◌, ℕ, zero, suc, ◌+◌, ◌-◌, ◌/◌, ◌^◌, ◌<◌, ℤ, pos, List, [], ◌∷◌, length, get_or, Some, slice_get, ◌*◌, nat_lt, false, if◌then◌else◌}
use Rattle.net_graph.specs.declared.cell.Cell.{Cell}
use Rattle.net_graph.specs.declared.cell.Node.{Node}
use Rattle.net_graph.specs.declared.cell.Leaf.{Leaf}
use Rattle.net_graph.specs.declared.name.NameKind.TheVariants.{Register}
use Rattle.net_graph.specs.Cells.{NetView, cell_at}
use Rattle.net_graph.specs.Cut.{Cut, IsCut}
use Rattle.net_graph.specs.Run.{Values, IsRun}
use Rattle.net_graph.specs.Grow.{Grows}
use Rattle.net_graph.specs.Count.{one_if, adders_in}
use Rattle.pipeline_balance.specs.Numbered.{IsRegister, IsCounted, IsTouched, LeavesFree, name_of}
use Rattle.pipeline_balance.specs.Costs.{SameNamed}
use Rattle.net_graph.specs.Depth.{IsPlain}
use Rattle.net_graph.specs.WellFormed.{IsBound, IsLeastFree}
use Rattle.pipeline_balance.specs.Shallow.{HasPlainLeaves, SumsLeaves}
use Rattle.pipeline_balance.specs.Shapes.{KeepsShapes}
use Rattle.pipeline_balance.specs.Leaves.{delayed, signed_sum, all_negative, held_sum, segment}

-- a node has this value at each tick of each run, cut or uncut
pub record Computes (cells : List Cell) (node : Node) (value : Cut → Values → ℕ → ℤ) : Type 0 where
  pub within : node.place < length cells
  pub holds : (cut : Cut) → IsCut cut → (inputs : ℕ → ℤ) (values : Values) → IsRun cut cells inputs values → (t : ℕ) → values t node.place ≡ value cut values t

-- the new net has such a node, so many adders more in its group, and the same names
pub record AddsNode (old new : NetView) (adders : ℕ) (node : Node) (value : Cut → Values → ℕ → ℤ) : Type 0 where
  pub grows : Grows old new
  pub counts : adders_in old.group new.cells ≡ adders_in old.group old.cells + adders
  pub same_named : SameNamed old.cells new.cells
  pub names : LeavesFree old.cells new.cells (λ name. ⊥)
  pub computes : Computes new.cells node value

-- The term is a register with the sum of these leaves a tick before, where the cut to its width keeps it, and it is negative where they
-- all are.
pub record IsSum (cells : List Cell) (leaves : List Leaf) (width : ℕ) (term : Leaf) : Type 0 where
  pub place : term.place ≡ 0
  pub negative : term.negative ≡ all_negative leaves
  pub within : term.node.place < length cells
  pub wide : (cell_at cells term.node.place).width ≡ width
  pub starts : (cut : Cut) → IsCut cut → (inputs : ℕ → ℤ) (values : Values) → IsRun cut cells inputs values → values 0 term.node.place ≡ pos 0
  pub holds : (cut : Cut) → IsCut cut → (inputs : ℕ → ℤ) (values : Values) → IsRun cut cells inputs values → (t : ℕ) → cut false width (held_sum values t leaves) ≡ held_sum values t leaves → values (suc t) term.node.place ≡ held_sum values t leaves

-- the new net has one more register of this width, with the next free number, that takes the node's value, cut to the width
pub record TakesNode (old new : NetView) (from : Node) (width : ℕ) (to : Node) : Type 0 where
  pub grows : Grows old new
  pub counts : adders_in old.group new.cells ≡ adders_in old.group old.cells
  pub same_named : SameNamed old.cells new.cells
  pub number : ℕ
  pub least : IsLeastFree old.cells old.group Register number
  pub register : IsRegister new.cells to.place old.group (name_of old.group Register number) width
  pub names : LeavesFree old.cells new.cells (λ name. name ≡ name_of old.group Register number)
  pub linear : KeepsShapes old.cells new.cells
  pub starts : (cut : Cut) → IsCut cut → (inputs : ℕ → ℤ) (values : Values) → IsRun cut new.cells inputs values → values 0 to.place ≡ pos 0
  pub steps : (cut : Cut) → IsCut cut → (inputs : ℕ → ℤ) (values : Values) → IsRun cut new.cells inputs values → (t : ℕ) → values (suc t) to.place ≡ cut false width (values t from.place)

-- what one call adds: the sum of these leaves, with so many adders and none before another, in a register with the next free number
pub record AddsSum (old new : NetView) (leaves : List Leaf) (width adders : ℕ) (term : Leaf) : Type 0 where
  pub grows : Grows old new
  pub counts : adders_in old.group new.cells ≡ adders_in old.group old.cells + adders
  pub same_named : SameNamed old.cells new.cells
  pub sum : IsSum new.cells leaves width term
  pub sums : SumsLeaves old new leaves
  pub plain : IsPlain new.cells old.group term.node.place
  pub named : (count : ℕ) → IsCounted old.cells old.group Register count → IsRegister new.cells term.node.place old.group (name_of old.group Register count) width
  pub counted : (count : ℕ) → IsCounted old.cells old.group Register count → IsCounted new.cells old.group Register (suc count)
  pub names : LeavesFree old.cells new.cells (IsTouched old.group Register)

-- one adder for a pair that is whole, and none for a last leaf by itself
abbrev pub pair_adders : ℕ → ℕ → ℕ
pair_adders count j = one_if (nat_lt (j * 2 + 1) count)

-- The terms are the sums of the leaves in pairs, and the last by itself where their number is odd; the widths are those from `first`
-- on. No adder stands before another.
pub record IsLevel (old new : NetView) (leaves : List Leaf) (widths : List ℕ) (first : ℕ) (terms : List Leaf) : Type 0 where
  pub grows : Grows old new
  pub many : length terms ≡ (length leaves + 1) / 2
  pub counts : adders_in old.group new.cells + length terms ≡ adders_in old.group old.cells + length leaves
  pub same_named : SameNamed old.cells new.cells
  pub sums : SumsLeaves old new leaves
  pub plain : IsBound old.cells → HasPlainLeaves new.cells old.group terms
  pub each : (j : ℕ) (term : Leaf) → slice_get terms j ≡ Some term → IsSum new.cells (segment 1 j leaves) (get_or widths (first + j) 0) term
  pub named : (count : ℕ) → IsCounted old.cells old.group Register count → (j : ℕ) (term : Leaf) → slice_get terms j ≡ Some term → IsRegister new.cells term.node.place old.group (name_of old.group Register (count + j)) (get_or widths (first + j) 0)
  pub counted : (count : ℕ) → IsCounted old.cells old.group Register count → IsCounted new.cells old.group Register (count + length terms)
  pub names : LeavesFree old.cells new.cells (IsTouched old.group Register)

-- how many registers a level has over n leaves: n / 2 ^ level, rounded up
abbrev pub level_count : ℕ → ℕ → ℕ
level_count n level = (n + (2 ^ level - 1)) / 2 ^ level

-- how many registers the levels from 1 to this one have
abbrev pub count_to : ℕ → ℕ → ℕ
count_to n zero = 0
count_to n (suc level) = count_to n level + level_count n (suc level)

-- in this run the cut to the width of its register keeps the sum of each register of the levels from 1 to this one
abbrev pub SumsFit : Cut → Values → List Leaf → List ℕ → ℕ → Type 0
SumsFit cut values leaves widths levels =
    (level j : ℕ) → level < levels → j < level_count (length leaves) (suc level) → (t : ℕ)
    → cut false (get_or widths (count_to (length leaves) level + j) 0) (held_sum values t (segment (suc level) j leaves)) ≡ held_sum values t (segment (suc level) j leaves)

-- it keeps them where the leaves are those of one tick
abbrev pub SumsFitAt : Cut → Values → List Leaf → List ℕ → ℕ → ℕ → Type 0
SumsFitAt cut values leaves widths levels t =
    (level j : ℕ) → level < levels → j < level_count (length leaves) (suc level)
    → cut false (get_or widths (count_to (length leaves) level + j) 0) (held_sum values t (segment (suc level) j leaves)) ≡ held_sum values t (segment (suc level) j leaves)

-- The registers stand level by level, each level from the left. Each holds the sum of the leaves under it, as many ticks before as its level says.
-- Where the sums of one tick fit, each holds that of this tick, whatever the leaves are at others.
pub record AreRegisters (cells : List Cell) (leaves : List Leaf) (widths : List ℕ) (levels : ℕ) (registers : List Node) : Type 0 where
  pub count : length registers ≡ count_to (length leaves) levels
  pub each_wide : (k : ℕ) (register : Node) → slice_get registers k ≡ Some register → (register.place < length cells) × ((cell_at cells register.place).width ≡ get_or widths k 0)
  pub holds : (cut : Cut) → IsCut cut → (inputs : ℕ → ℤ) (values : Values) → IsRun cut cells inputs values → SumsFit cut values leaves widths levels
      → (level j : ℕ) (register : Node) → level < levels → j < level_count (length leaves) (suc level) → slice_get registers (count_to (length leaves) level + j) ≡ Some register
      → (t : ℕ) → values t register.place ≡ delayed (suc level) t (λ s. held_sum values s (segment (suc level) j leaves))
  pub holds_at : (cut : Cut) → IsCut cut → (inputs : ℕ → ℤ) (values : Values) → IsRun cut cells inputs values → (t : ℕ) → SumsFitAt cut values leaves widths levels t
      → (level j : ℕ) (register : Node) → level < levels → j < level_count (length leaves) (suc level) → slice_get registers (count_to (length leaves) level + j) ≡ Some register
      → values (t + suc level) register.place ≡ held_sum values t (segment (suc level) j leaves)

-- how many adders a tree has: one fewer than leaves, and one more where all are negative
abbrev pub tree_adders : List Leaf → ℕ
tree_adders [] = 0
tree_adders (leaf ∷ leaves) = if all_negative (leaf ∷ leaves) then suc (length leaves) else length leaves

-- The root is the signed sum of all leaves, `levels` ticks before, where the sums of the registers fit, or where those of that tick do. No adder stands before another
-- without a register between them.
pub record IsTree (old new : NetView) (leaves : List Leaf) (widths : List ℕ) (levels : ℕ) (registers : List Node) (root : Node) : Type 0 where
  pub grows : Grows old new
  pub within : root.place < length new.cells
  pub held : AreRegisters new.cells leaves widths levels registers
  pub sums : (cut : Cut) → IsCut cut → (inputs : ℕ → ℤ) (values : Values) → IsRun cut new.cells inputs values → SumsFit cut values leaves widths levels
      → (t : ℕ) → values t root.place ≡ delayed levels t (λ s. signed_sum values s leaves)
  pub sums_at : (cut : Cut) → IsCut cut → (inputs : ℕ → ℤ) (values : Values) → IsRun cut new.cells inputs values → (t : ℕ) → SumsFitAt cut values leaves widths levels t
      → values (t + levels) root.place ≡ signed_sum values t leaves
  pub adders : adders_in old.group new.cells ≡ adders_in old.group old.cells + tree_adders leaves
  pub shallow : SumsLeaves old new leaves
  pub same_named : SameNamed old.cells new.cells
  pub named : (count : ℕ) → IsCounted old.cells old.group Register count → (k : ℕ) (node : Node) → slice_get registers k ≡ Some node → IsRegister new.cells node.place old.group (name_of old.group Register (count + k)) (get_or widths k 0)
  pub counted : (count : ℕ) → IsCounted old.cells old.group Register count → IsCounted new.cells old.group Register (count + length registers)
  pub names : LeavesFree old.cells new.cells (IsTouched old.group Register)
