-- What a module shows over cycles of its inputs: the value of `out_data` at each tick at which `out_valid` is 1.
use Rattle.std.specs.Prelude.{◌≡◌, ◌<◌, ◌^◌, ◌-◌, ℕ, ◌+◌, ◌==◌, nat_le, Bool, true, false, ◌&&◌, not, if◌then◌else◌, List, [], ◌∷◌, ◌++◌, map, codes, ℤ, pos, ◌-ℤ◌}
use Rattle.verilog_tree.specs.Tree.{Design}
use Rattle.verilog_tree.specs.Meaning.{Shapes, Values, bit_of}
use Rattle.verilog_tree.specs.Names.{shapes_of, number_of}
use Rattle.verilog_tree.specs.Circuit.{Input, IsRun}
use Rattle.verilog_tree.specs.Cycle.{circuit_of}

-- the inputs of one cycle: `in_data` is the pattern at the port
pub record Cycle : Type 0 where
  pub rst : Bool
  pub ce : Bool
  pub in_data : ℕ

-- the names of the ports that a run sets and reads, found by their texts
pub record Ports : Type 0 where
  pub rst : ℕ
  pub ce : ℕ
  pub in_data : ℕ
  pub out_valid : ℕ
  pub out_data : ℕ

abbrev pub ports_of : Design → Ports
ports_of d = record {
  rst = number_of d (codes "rst");
  ce = number_of d (codes "ce");
  in_data = number_of d (codes "in_data");
  out_valid = number_of d (codes "out_valid");
  out_data = number_of d (codes "out_data");
}

abbrev pub inputs_of : Ports → Cycle → List Input
inputs_of ports c =
    record { name = ports.rst; value = bit_of c.rst } ∷ record { name = ports.ce; value = bit_of c.ce } ∷ record { name = ports.in_data; value = c.in_data } ∷ []

-- the settled values of every cycle of a run of the module from these registers
abbrev pub RunsOver : Design → Values → List Cycle → List Values → Type 0
RunsOver d content cycles settled = IsRun (circuit_of d) content (map (inputs_of (ports_of d)) cycles) settled

-- a pattern by the sign of its name
abbrev pub signed_value : Bool → ℕ → ℕ → ℤ
signed_value false width bits = pos bits
signed_value true width bits = if nat_le (2 ^ (width - 1)) bits then pos bits -ℤ pos (2 ^ width) else pos bits

-- a value that is shown: the place of its cycle among the cycles, and the number of its tick since the last reset
pub record Event : Type 0 where
  pub cycle : ℕ
  pub tick : ℕ
  pub value : ℤ

-- a cycle with `rst` 0 and `ce` 1
abbrev pub is_tick : Cycle → Bool
is_tick c = c.ce && not c.rst

-- the ticks since the last reset cycle, after one more cycle
abbrev pub ticks_after : Cycle → ℕ → ℕ
ticks_after c ticks = if c.rst then 0 else (if c.ce then ticks + 1 else ticks)

abbrev pub event_of : Shapes → Ports → Cycle → Values → ℕ → ℕ → List Event
event_of shapes ports c values cycle tick =
    if is_tick c && not (values ports.out_valid == 0)
    then record { cycle = cycle; tick = tick; value = signed_value (shapes.signed ports.out_data) (shapes.width ports.out_data) (values ports.out_data) } ∷ []
    else []

-- what is shown in these cycles, from the settled values of each; the first is number `cycle`, after so many ticks
abbrev pub events_of : Shapes → Ports → List Cycle → List Values → ℕ → ℕ → List Event
events_of shapes ports [] settled cycle tick = []
events_of shapes ports (c ∷ cs) [] cycle tick = []
events_of shapes ports (c ∷ cs) (values ∷ settled) cycle tick =
    event_of shapes ports c values cycle tick ++ events_of shapes ports cs settled (cycle + 1) (ticks_after c tick)

-- the run from these registers over these cycles shows these events
pub record Shows (d : Design) (content : Values) (cycles : List Cycle) (events : List Event) : Type 0 where
  pub settled : List Values
  pub run : RunsOver d content cycles settled
  pub shown : events ≡ events_of (shapes_of d) (ports_of d) cycles settled 0 0

-- the input of every cycle fits its port
abbrev pub EachFits : ℕ → List Cycle → Type 0
EachFits width [] = Unit {0}
EachFits width (c ∷ cs) = (c.in_data < 2 ^ width) × EachFits width cs
