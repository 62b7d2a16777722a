-- The registers of a plan's cascades. Hogenauer 1981.
use Rattle.std.specs.Prelude.{ℕ, ◌+◌, Bool, true, false, if◌then◌else◌, List, [], ◌∷◌, take}
use Rattle.mr_values.specs.declared.plan.Element.{Element}
use Rattle.mr_values.specs.Sequence.{Sequence, cic_down, cic_up}
use Rattle.mr_values.specs.Timing.{Group, Fir, DownCic, UpCic, Rounding, Clipping, Stream, groups, input, after}
use Rattle.net_graph.specs.declared.cell.Cell.{Cell}
use Rattle.plan_check.specs.Groups.{size_of}
use Rattle.cic_chain.specs.Facts.{cascade_registers}
use Rattle.stage_law.specs.Alike.{HasAlike}
use Rattle.stage_law.specs.Streams.{Streams}
use Rattle.chain_build.specs.Built.{rounds}
use Rattle.chain_build.specs.Prefixes.{streams_before}

-- what may be said of a cascade: by the streams before it, what it makes of them, the number of its group and how many registers it has
abbrev pub OfCascade : Type 1
OfCascade = Streams → (Sequence → Sequence) → ℕ → ℕ → Type 0

-- it holds of the group, where that is a cascade: of a register for each integrator, and one more than its delay for each comb
abbrev pub HoldsOfCascade : OfCascade → Streams → Group → ℕ → Type 0
HoldsOfCascade has streams (Fir up filter down) number = Unit {0}
HoldsOfCascade has streams (DownCic factor stages delay) number = has streams (cic_down factor stages delay) number (cascade_registers stages delay)
HoldsOfCascade has streams (UpCic factor stages delay) number = has streams (cic_up factor stages delay) number (cascade_registers stages delay)
HoldsOfCascade has streams (Rounding shift mode) number = Unit {0}
HoldsOfCascade has streams (Clipping bits) number = Unit {0}

-- of the groups that are left, numbered from here, after so many elements and on this stream, before which a group rounded or not
abbrev pub HoldsOfCascades : OfCascade → ℕ → List Element → ℕ → ℕ → Bool → Stream → List Group → Type 0
HoldsOfCascades has width elements number taken rounded s [] = Unit {0}
HoldsOfCascades has width elements number taken rounded s (g ∷ gs) =
    HoldsOfCascade has (streams_before rounded width (take taken elements) s.low s.high) g number
    × HoldsOfCascades has width elements (number + 1) (taken + size_of g) (if rounded then true else rounds g) (after g s) gs

-- of each cascade of a plan
abbrev pub HoldsOfEachCascade : OfCascade → ℕ → ℕ → List Element → Type 0
HoldsOfEachCascade has width ticks elements = HoldsOfCascades has width elements 1 0 false (input width ticks) (groups elements)

-- the net has the registers of the cascade, all of the least width for what it makes of these streams, and no others of its group
abbrev pub in_net : List Cell → OfCascade
in_net cells streams made group count = HasAlike streams made cells group count

-- the net has the registers of each cascade of the plan
abbrev pub HasCascades : ℕ → ℕ → List Element → List Cell → Type 0
HasCascades width ticks elements cells = HoldsOfEachCascade (in_net cells) width ticks elements
