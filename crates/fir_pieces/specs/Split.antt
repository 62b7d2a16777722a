-- Windows over every so manieth value of a stream.
use Rattle.std.specs.Prelude.{◌≡◌, ℕ, zero, suc, ◌+◌, ◌-◌, ◌*◌, ◌%◌, ◌<◌, ℤ, pos, negsuc, List, Some, slice_get}
use Rattle.mr_values.specs.Sequence.{Sequence}
use Rattle.mr_values.specs.Timing.{ceil_div}
use Rattle.net_graph.specs.declared.cell.Cell.{Cell}
use Rattle.net_graph.specs.declared.cell.Node.{Node}
use Rattle.net_graph.specs.declared.cell.Stream.{Stream}
use Rattle.net_graph.specs.Cut.{Cut, IsCut}
use Rattle.net_graph.specs.Run.{Values, IsRun}
use Rattle.pipeline_balance.specs.Gate.{Carries, Holds}
use Rattle.stage_law.specs.Streams.{Streams}
use Rattle.fir_pieces.specs.Moment.{Moment, Pace, Forms}
use Rattle.fir_pieces.specs.Listed.{unit_form}

-- ---- the pace

-- when so many values have been taken, with the phase of the last
abbrev pub moment_after : ℕ → ℕ → Moment
moment_after modulus zero = record { newest = negsuc 0; phase = 0 }
moment_after modulus (suc k) = record { newest = pos k; phase = k % modulus }

-- how many of the ticks first, first + period, .. lie before this one
abbrev pub taken_before : ℕ → ℕ → ℕ → ℕ
taken_before period first t = ceil_div (t - first) period

-- the values of a stream by their indices modulo a number
abbrev pub split_pace : Stream → ℕ → Pace
split_pace from modulus = record {
  phases = modulus;
  class = λ φ. record { modulus = modulus; residue = φ };
  lag = λ φ. 1;
  at = λ t. moment_after modulus (taken_before from.period from.offset t);
}

-- ---- the windows

-- of every so manieth value from `residue` on, the one that came `age` before the last, counted in values of the stream from a value of a phase
abbrev pub split_age : ℕ → ℕ → ℕ → ℕ → ℕ
split_age modulus residue age φ = age * modulus + (φ + (modulus - residue)) % modulus

abbrev pub split_forms : ℕ → ℕ → ℕ → Forms
split_forms modulus residue age φ = unit_form (split_age modulus residue age φ)

-- every so manieth value of a sequence
abbrev pub every_value : ℕ → ℕ → Sequence → ℕ → ℤ
every_value modulus residue v k = v (pos (residue + k * modulus))

-- the nodes are a window over such a part of the stream
pub record IsSplitWindow (streams : Streams) (cells : List Cell) (from : Stream) (modulus residue : ℕ) (nodes : List Node) : Type 0 where
  pub taken : Stream
  pub inside : residue < modulus
  pub period : taken.period ≡ modulus * from.period
  pub offset : taken.offset ≡ from.offset + residue * from.period
  pub carries : (cut : Cut) → IsCut cut → (inputs : ℕ → ℤ) (values : Values) (v : Sequence) → streams v → IsRun cut cells inputs values → Carries values from v
      → (k : ℕ) → values (taken.offset + k * taken.period) taken.node.place ≡ every_value modulus residue v k
  pub holds : (age : ℕ) (node : Node) → slice_get nodes age ≡ Some node → Holds cells taken age node
