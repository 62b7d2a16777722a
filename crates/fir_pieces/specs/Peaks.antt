-- The peaks of registers, and what the registers hold.
use Rattle.std.specs.Prelude.{◌≡◌, ℕ, suc, ◌≤◌, nat_eq, if◌then◌else◌, List, [], ◌∷◌, ◌++◌, length, ℤ}
use Rattle.net_graph.specs.declared.cell.Cell.{Cell}
use Rattle.net_graph.specs.declared.cell.Node.{Node}
use Rattle.net_graph.specs.declared.cell.Stream.{Stream}
use Rattle.net_graph.specs.declared.name.Name.{Name}
use Rattle.pipeline_balance.specs.Numbered.{IsRegister}
use Rattle.stage_law.specs.Registers.{HeldSum, needs_high}
use Rattle.stage_law.specs.Streams.{Streams}
use Rattle.stage_law.specs.declared.stage.Peak.{Peak}
use Rattle.fir_pieces.specs.declared.held.Held.{Held}
use Rattle.fir_pieces.specs.Widest.{widest}
use Rattle.fir_pieces.specs.Listed.{every}
use Rattle.fir_pieces.specs.Held.{IsFormWidth}
use Rattle.fir_pieces.specs.Moment.{HoldsForms}
use Rattle.fir_pieces.specs.Split.{split_pace}

-- the peak of a register that holds this: none where one bit is wide enough
abbrev pub peak_at : Node → Held → List Peak
peak_at node own = if nat_eq own.width 1 then [] else record { register = node; sum = own.sum; class = own.class; lag = own.lag; high = needs_high own.range own.width } ∷ []

-- the peaks of these registers, in their order
abbrev pub peaks_at : List Held → List Node → List Peak
peaks_at [] nodes = []
peaks_at (own ∷ held) [] = []
peaks_at (own ∷ held) (node ∷ nodes) = peak_at node own ++ peaks_at held nodes

-- the peak of the first of these sums that needs so many bits
abbrev pub widest_peak : Node → ℕ → List Held → List Peak
widest_peak node width [] = []
widest_peak node width (own ∷ held) = if nat_eq own.width width then peak_at node own else widest_peak node width held

-- the peaks of registers with several sums, in their order
abbrev pub all_peaks_at : List (List Held) → List Node → List Peak
all_peaks_at [] nodes = []
all_peaks_at (held ∷ all) [] = []
all_peaks_at (held ∷ all) (node ∷ nodes) = widest_peak node (widest held) held ++ all_peaks_at all nodes

-- the node holds this one form at each value of the stream, so many ticks after it was taken
abbrev pub HoldsForm : Streams → List Cell → Stream → List ℤ → ℕ → Node → Type 0
HoldsForm streams cells from form ticks node = HoldsForms streams cells from (split_pace from 1) (λ φ. form) ticks node

-- the node is a register of this name that holds this sum over at most so many values, so many levels later, and has the least width for it
pub record IsDue (streams : Streams) (cells : List Cell) (from : Stream) (depth levels group : ℕ) (name : Name) (s : HeldSum) (node : Node) : Type 0 where
  pub width : ℕ
  pub register : IsRegister cells node.place group name width
  pub is_class : s.class ≡ every
  pub short : length s.form ≤ depth
  pub ticks : ℕ
  pub is_lag : s.lag ≡ suc ticks
  pub soon : ticks ≤ levels
  pub holds : HoldsForm streams cells from s.form ticks node
  pub least : IsFormWidth streams s.form width
