-- The registers of a stage that has registers of one width alone. Hogenauer 1981, V: every register of a cascade is as wide as its output.
use Rattle.std.specs.Prelude.{◌≡◌, ℕ, ◌<◌, ◌≤◌, List, pos}
use Rattle.mr_values.specs.Sequence.{Sequence}
use Rattle.mr_values.specs.Width.{FitsWidth}
use Rattle.net_graph.specs.declared.cell.Cell.{Cell}
use Rattle.net_graph.specs.declared.name.NameKind.{NameKind}
use Rattle.net_graph.specs.declared.name.NameKind.TheVariants.{Register, Control}
use Rattle.net_graph.specs.WellFormed.{IsFree}
use Rattle.pipeline_balance.specs.Numbered.{IsCounted, IsRegister, name_of}
use Rattle.stage_law.specs.Streams.{Streams}

-- the least width that holds each value that is made of these streams
pub record IsOutputWidth (streams : Streams) (made : Sequence → Sequence) (width : ℕ) : Type 0 where
  pub holds : (v : Sequence) → streams v → (n : ℕ) → FitsWidth width (made v (pos n))
  pub least : (fewer : ℕ) → 1 ≤ fewer → ((v : Sequence) → streams v → (n : ℕ) → FitsWidth fewer (made v (pos n))) → width ≤ fewer

-- a register of the group has this number and this width
pub record HasRegister (cells : List Cell) (group number width : ℕ) : Type 0 where
  pub place : ℕ
  pub register : IsRegister cells place group (name_of group Register number) width

-- the group has exactly so many registers, all of this width
pub record HasRegistersOf (cells : List Cell) (group count width : ℕ) : Type 0 where
  pub counted : IsCounted cells group Register count
  pub each : (number : ℕ) → number < count → HasRegister cells group number width
  pub only : (kind : NameKind) (number : ℕ) → (kind ≡ Register → ⊥) → (kind ≡ Control → ⊥) → IsFree cells (name_of group kind number)

-- the group has exactly so many registers, all of the least width for what is made of these streams
pub record HasAlike (streams : Streams) (made : Sequence → Sequence) (cells : List Cell) (group count : ℕ) : Type 0 where
  pub width : ℕ
  pub least : IsOutputWidth streams made width
  pub registers : HasRegistersOf cells group count width
