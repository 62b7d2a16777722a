-- Part of the registers of a stage, as a list, with their peaks.
use Rattle.std.specs.Prelude.{◌≡◌, ℕ, suc, ◌+◌, ◌*◌, ◌<◌, ◌≤◌, max, List, [], ◌∷◌, length, map, Some, slice_get}
use Rattle.net_graph.specs.declared.cell.Cell.{Cell}
use Rattle.net_graph.specs.declared.cell.Node.{Node}
use Rattle.net_graph.specs.declared.cell.Stream.{Stream}
use Rattle.net_graph.specs.declared.name.NameKind.{NameKind}
use Rattle.pipeline_balance.specs.Numbered.{IsCounted, name_of}
use Rattle.stage_law.specs.Facts.{StageFacts}
use Rattle.stage_law.specs.Least.{HasStageRegister, IsListed, IsTimely, named_peak}
use Rattle.stage_law.specs.Registers.{HeldSum, StageRegister, Telling, TellsRanges, peaks_of}
use Rattle.stage_law.specs.Streams.{Streams, magnitudes}
use Rattle.stage_law.specs.declared.stage.Peak.{Peak}
use Rattle.fir_pieces.specs.Moment.{Pace}
use Rattle.fir_pieces.specs.PhaseSums.{IsPhasesDue}

-- The net has each of these registers. Each holds its sums, and in time where these are small. The peaks are theirs, in their order.
pub record AreRegisters (facts : StageFacts) (streams : Streams) (cells : List Cell) (group : ℕ) (from : Stream) (registers : List StageRegister) (peaks : List Peak) : Type 0 where
  pub some : (i : ℕ) (r : StageRegister) → slice_get registers i ≡ Some r → 1 ≤ length r.sums
  pub timely : (i j : ℕ) (r : StageRegister) (s : HeldSum) → slice_get registers i ≡ Some r → slice_get r.sums j ≡ Some s → magnitudes s.form ≤ max 1 (2 * facts.gain) → IsTimely facts from.period s
  pub each : (i : ℕ) (r : StageRegister) → slice_get registers i ≡ Some r → HasStageRegister streams cells group from r
  pub told : (range : Telling) → TellsRanges streams range → map (named_peak cells) peaks ≡ peaks_of range group registers

-- the net's registers of a kind are those of the list
pub record AreCounted (cells : List Cell) (group : ℕ) (registers : List StageRegister) (kind : NameKind) : Type 0 where
  pub count : ℕ
  pub counted : IsCounted cells group kind count
  pub listed : (number : ℕ) → number < count → IsListed registers kind number

-- ---- registers of one kind with several sums each

-- numbered on
abbrev pub numbered_all : NameKind → ℕ → List (List HeldSum) → List StageRegister
numbered_all kind number [] = []
numbered_all kind number (sums ∷ all) = record { kind = kind; number = number; sums = sums } ∷ numbered_all kind (suc number) all

-- registers of one kind, numbered from 0, that hold these sums at a pace
pub record AreHeldAt (streams : Streams) (cells : List Cell) (group : ℕ) (from : Stream) (pace : Pace) (depth levels : ℕ) (kind : NameKind) (all : List (List HeldSum)) (nodes : List Node) : Type 0 where
  pub many : length nodes ≡ length all
  pub due : (k : ℕ) (sums : List HeldSum) (node : Node) → slice_get all k ≡ Some sums → slice_get nodes k ≡ Some node → IsPhasesDue streams cells from pace depth levels group (name_of group kind (0 + k)) sums node
  pub counted : IsCounted cells group kind (length all)
