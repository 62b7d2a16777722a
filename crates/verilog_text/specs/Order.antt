-- The order of declarations in a written text, and modules that are read back as they were.
use Rattle.std.specs.Prelude.{◌≡◌, ℕ, ◌+◌, List, [], ◌∷◌, ◌++◌, map, length}
use Rattle.verilog_tree.specs.declared.tree.Signal.{Signal}
use Rattle.verilog_tree.specs.Tree as tree
use Rattle.verilog_tree.specs.Tree.{Action, Actions, Design}
use Rattle.verilog_text.specs.Shortest.{ports_in, stores_in, AllFormed}

-- two lists whose elements are related one by one
pub data Along {X : Type 0} (R : X → X → Type 0) : List X → List X → Type 0 where
  ends : Along R [] []
  goes : {x y : X} {xs ys : List X} → R x y → Along R xs ys → Along R (x ∷ xs) (y ∷ ys)

-- the ports first, and then the wires and registers
abbrev pub ordered_signals : Design → List Signal
ordered_signals d = ports_in d.signals ++ stores_in d.signals

-- 1 where a later `else` would belong to an `if` in the statement, and 0 else
abbrev pub open_count : Action → ℕ
open_count (tree.Block members) = 0
open_count (tree.When condition on_true) = 1
open_count (tree.Either condition on_true on_false) = open_count on_false
open_count (tree.Give register value) = 0

-- no statement would take a later `else`
abbrev mutual
  pub IsUntangled : Action → Type 0
  IsUntangled (tree.Block members) = AreUntangled members
  IsUntangled (tree.When condition on_true) = IsUntangled on_true
  IsUntangled (tree.Either condition on_true on_false) = (open_count on_true ≡ 0) × IsUntangled on_true × IsUntangled on_false
  IsUntangled (tree.Give register value) = Unit {0}

  pub AreUntangled : Actions → Type 0
  AreUntangled tree.no_action = Unit {0}
  AreUntangled (tree.action first rest) = IsUntangled first × AreUntangled rest

abbrev pub AreNumbered : ℕ → List Signal → Type 0
AreNumbered n [] = Unit {0}
AreNumbered n (s ∷ ss) = (s.name ≡ n) × AreNumbered (n + 1) ss

-- each name but the module's is declared, in the order of the names: first the ports, then the wires and registers; and no statement would take a later `else`
pub record IsInOrder (d : Design) : Type 0 where
  pub name_first : d.name ≡ 0
  pub in_turn : AreNumbered 1 d.signals
  pub all_declared : length d.names ≡ 1 + length d.signals
  pub ports_first : ordered_signals d ≡ d.signals
  pub untangled : AllFormed IsUntangled d.blocks

-- a declaration wherever it stands
abbrev pub unplaced : Signal → Signal
unplaced s = record s { place = 0 }

-- the same module, but for the places of its declarations
pub record IsSameButPlaces (a b : Design) : Type 0 where
  pub same_name : a.name ≡ b.name
  pub same_names : a.names ≡ b.names
  pub same_signals : map unplaced a.signals ≡ map unplaced b.signals
  pub same_assigns : a.assigns ≡ b.assigns
  pub same_blocks : a.blocks ≡ b.blocks
