-- Tables of lengths and signs.
use Rattle.std.specs.Prelude.{◌≡◌, ◌<◌, ℕ, List, All}
use Rattle.verilog_tree.specs.declared.tree.Signal.{Signal}
use Rattle.verilog_tree.specs.Meaning.{Shapes}

-- all declarations are of the first `count` names
pub record AreNumbered (count : ℕ) (signals : List Signal) : Type 0 where
  pub each : All (λ (s : Signal). s.name < count) signals

-- the shapes are these
pub record TellsShapes (table shapes : Shapes) : Type 0 where
  pub same : table ≡ shapes
