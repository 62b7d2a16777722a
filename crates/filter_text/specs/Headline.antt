-- What the text of a plan has to show: each value of the chain at its tick, and nothing at any other tick.
use Rattle.std.specs.Prelude.{◌≡◌, ℕ, zero, suc, ◌+◌, ◌-◌, ◌*◌, ◌/◌, ◌%◌, ◌≤◌, ◌==◌, nat_le, Bool, true, ◌&&◌, List, All, [], ◌∷◌, ◌++◌, length, map, take, drop, codes, Some, slice_get, ℤ, pos}
use Rattle.mr_values.specs.Sequence.{phase}
use Rattle.mr_values.specs.Width.{FitsWidth, IsLeastWidth}
use Rattle.mr_values.specs.Timing.{Group, ceil_div, groups}
use Rattle.mr_values.specs.Value.{val}
use Rattle.mr_values.specs.declared.plan.Element.{Element}
use Rattle.verilog_tree.specs.Checks.{Passes}
use Rattle.verilog_tree.specs.Counted.{counted, HasDepth}
use Rattle.verilog_tree.specs.Meaning.{Values}
use Rattle.module_laws.specs.Running.{HasRuns}
use Rattle.uncut_runs.specs.Exists.{HasOneUncutRun}
use Rattle.verilog_tree.specs.Names.{shapes_of, number_of}
use Rattle.verilog_tree.specs.Shown.{Cycle, Event, ports_of, events_of}
use Rattle.verilog_tree.specs.Tree.{Design}
use Rattle.verilog_tree.specs.Uncut.{Numbers, IsUncutRun, number_at}
use Rattle.verilog_text.specs.Reading.{Reads}
use Rattle.net_module.specs.Steps.{ticks_in, pair_of}
use Rattle.filter_text.specs.Runs.{samples_in, IsRunFrom}
use Rattle.filter_text.specs.Registers.{HasLinearRegisters, AreNeverCut, AreLeastRegisters}
use Rattle.filter_text.specs.Cascades.{in_module}
use Rattle.plan_check.specs.StageCosts.{cost}
use Rattle.chain_build.specs.Alike.{HoldsOfEachCascade}
use Rattle.chain_build.specs.Built.{ArePlainGroups, kind_of}
use Rattle.chain_build.specs.Linear.{output_range}
use Rattle.stage_law.specs.Kinds.{has_linear_shape}
use Rattle.module_names.specs.Control.{HasControl}
use Rattle.module_names.specs.Names.{HasNames}
use Rattle.module_names.specs.Outputs.{HasPlainOutputs}
use Rattle.module_names.specs.Ports.{HasPorts}
use Rattle.module_names.specs.Registers.{HasHeldBlocks, HasReset}
use Rattle.module_shapes.specs.Shapes.{HasLinearShapes}
use Rattle.shown_module.specs.Shown.{ShowsInEach}

-- output n stands at the tick latency + n * period: so many outputs from one on, each with its tick
abbrev pub outputs_from : ℕ → ℕ → (ℕ → ℤ) → ℕ → ℕ → List (ℕ × ℤ)
outputs_from latency period value n zero = []
outputs_from latency period value n (suc count) = (latency + n * period, value n) ∷ outputs_from latency period value (suc n) count

-- all outputs whose ticks lie below a number of ticks
abbrev pub outputs_within : ℕ → ℕ → (ℕ → ℤ) → ℕ → List (ℕ × ℤ)
outputs_within latency period value ticks = outputs_from latency period value 0 (ceil_div (ticks - latency) period)

-- what is shown in the cycles before a reset cycle, and in those after it
abbrev pub events_before : Design → List Cycle → List Values → List Event
events_before d before settled = events_of (shapes_of d) (ports_of d) before settled 0 0

abbrev pub events_after : Design → List Cycle → List Cycle → List Values → List Event
events_after d before after settled = events_of (shapes_of d) (ports_of d) after (drop (length before + 1) settled) (length before + 1) 0

-- `in_data` has as many bits as a sample. For every content of the registers and every list of cycles with a reset, whatever the samples
-- and clock enables: what is shown after the last reset cycle is exactly value n of the chain over the samples since then, at the tick
-- latency + n * period, for each n whose tick has come, and nothing at any other tick.
pub record ShowsChain (elements : List Element) (width ticks latency period : ℕ) (d : Design) : Type 0 where
  pub takes : (shapes_of d).width (ports_of d).in_data ≡ width
  pub parts : (content : Values) (before after : List Cycle) (reset : Cycle) (settled : List Values) → IsRunFrom d width content before after reset settled
      → events_of (shapes_of d) (ports_of d) (before ++ reset ∷ after) settled 0 0 ≡ events_before d before settled ++ events_after d before after settled
  pub shows : (content : Values) (before after : List Cycle) (reset : Cycle) (settled : List Values) → IsRunFrom d width content before after reset settled
      → map pair_of (events_after d before after settled) ≡ outputs_within latency period (λ n. val elements (samples_in width ticks after) (pos n)) (ticks_in after)

-- whether output n stands at this tick for some n
abbrev pub is_output_tick : ℕ → ℕ → ℕ → Bool
is_output_tick latency period t = nat_le latency t && ((t - latency) % period == 0)

-- the output there, over the numbers at all ticks, of which every so many is a sample
abbrev pub output_at_tick : List Element → ℕ → ℕ → ℕ → List ℤ → ℕ → ℤ
output_at_tick elements ticks latency period numbers t = val elements (phase ticks 0 numbers) (pos ((t - latency) / period))

-- In each cycle after the last reset cycle, whatever `ce` is, `out_valid` isn't 0 exactly where an output stands at the tick that comes next,
-- and there `out_data` is that output.
abbrev pub ShowsOutputs : List Element → ℕ → ℕ → ℕ → ℕ → Design → Type 0
ShowsOutputs elements width ticks latency period = ShowsInEach width (is_output_tick latency period) (output_at_tick elements ticks latency period)

-- the number of the name of the output register
abbrev pub output_register : Design → ℕ
output_register d = number_of d (codes "out_q")

-- For every content of the registers and every list of cycles with a reset: in each cycle after the last reset cycle that has
-- latency + n * period ticks before it, the output register has value n of the chain over the samples since then, as the number that its
-- bits stand for.
pub record KeepsOutput (elements : List Element) (width ticks latency period : ℕ) (d : Design) : Type 0 where
  pub bits : (content : Values) (before after : List Cycle) (reset : Cycle) (settled : List Values) → IsRunFrom d width content before after reset settled
      → (n j : ℕ) (now : Values) → slice_get settled (length before + 1 + j) ≡ Some now → ticks_in (take j after) ≡ latency + n * period
      → number_at d now (output_register d) ≡ val elements (samples_in width ticks after) (pos n)

-- It has this value also as its whole number in every uncut run that begins at that reset cycle.
pub record KeepsWhole (elements : List Element) (width ticks latency period : ℕ) (d : Design) : Type 0 where
  pub whole : (content : Values) (before after : List Cycle) (reset : Cycle) (settled : List Values) → IsRunFrom d width content before after reset settled
      → (begins : Numbers) (uncut : List Numbers) → IsUncutRun d begins (drop (length before) settled) uncut
      → (n j : ℕ) (now : Numbers) → slice_get uncut (suc j) ≡ Some now → ticks_in (take j after) ≡ latency + n * period
      → now (output_register d) ≡ val elements (samples_in width ticks after) (pos n)

-- So many bits hold each value of the chain, whatever samples of the width it gets, and no smaller number of bits, but at least 1, does.
pub record IsLeastOutput (elements : List Element) (width bits : ℕ) : Type 0 where
  pub holds : (xs : List ℤ) → All (FitsWidth width) xs → (n : ℕ) → FitsWidth bits (val elements xs (pos n))
  pub least : (fewer : ℕ) → 1 ≤ fewer → ((xs : List ℤ) → All (FitsWidth width) xs → (n : ℕ) → FitsWidth fewer (val elements xs (pos n))) → bits ≤ fewer

-- counted in the module's statements, the group of this number costs what the plan's group costs as a stage, and at most one of its
-- adders stands between two registers
pub record IsCounted (g : Group) (number : ℕ) (d : Design) : Type 0 where
  pub counts : counted d number ≡ record { adders = (cost g).adders; windows = (cost g).windows; tables = (cost g).tables }
  pub depth : HasDepth d number 1

-- so do the groups, numbered from here
abbrev pub AreCounted : ℕ → List Group → Design → Type 0
AreCounted number [] d = Unit {0}
AreCounted number (g ∷ gs) d = IsCounted g number d × AreCounted (number + 1) gs d

-- the statements that drive names of the groups, numbered from here, have the shape of a linear group's, where the group is built so
abbrev pub HaveShapes : ℕ → List Group → Design → Type 0
HaveShapes number [] d = Unit {0}
HaveShapes number (g ∷ gs) d = (has_linear_shape (kind_of g) ≡ true → HasLinearShapes d number) × HaveShapes (number + 1) gs d

-- The module passes every check, from any content it runs over any cycles, cut and uncut, its output has the least width for the range
-- of the chain's values, and it shows the chain, by its outputs in every cycle; its output register has each value at its tick. Where no group rounds, its output has the
-- least width that holds the chain's values, and its output register is never cut. Its linear registers are those of the plan, none of
-- them ever cut after a reset and each of the least width. Each cascade has its integrators' and combs' registers alone, all of the
-- least width for its output. Its groups cost what they cost as stages, with at most one adder between two
-- registers, and their statements have the shapes of their forms. Each always block sets its register to 0 under `rst`, and else gives it
-- its next value under `ce`, with no other condition; so a reset sets all registers to 0, and without `ce` they stay. Its ports that carry
-- numbers are signed, as wide as a sample and as the output register, which `out_data` shows. Its names are those of ports, of the output
-- register, of control and of the plan's groups, each register's that of its kind; control has one value at each tick in all runs, and
-- the outputs cost no adder.
pub record IsModuleOf (elements : List Element) (width ticks latency period : ℕ) (design : Design) : Type 0 where
  pub passes : Passes design
  pub runs : HasRuns design
  pub one_uncut : HasOneUncutRun design
  pub output : IsLeastWidth (output_range width ticks elements).lo (output_range width ticks elements).hi ((shapes_of design).width (ports_of design).out_data)
  pub shows : ShowsChain elements width ticks latency period design
  pub outputs : ShowsOutputs elements width ticks latency period design
  pub keeps : KeepsOutput elements width ticks latency period design
  pub least_output : ArePlainGroups (groups elements) → IsLeastOutput elements width ((shapes_of design).width (ports_of design).out_data)
  pub uncut : ArePlainGroups (groups elements) → KeepsWhole elements width ticks latency period design
  pub registers : HasLinearRegisters elements width ticks design
  pub never_cut : AreNeverCut elements width ticks design
  pub least : AreLeastRegisters elements width ticks design
  pub cascades : HoldsOfEachCascade (in_module design) width ticks elements
  pub costs : AreCounted 1 (groups elements) design
  pub shapes : HaveShapes 1 (groups elements) design
  pub blocks : HasHeldBlocks design
  pub reset : HasReset design
  pub ports : HasPorts width design
  pub names : HasNames (length (groups elements)) design
  pub control : HasControl design
  pub plain_outputs : HasPlainOutputs design

-- the bytes read as one module, which is that of the chain
pub record IsTextOf (elements : List Element) (width ticks latency period : ℕ) (bytes : List ℕ) : Type 0 where
  pub design : Design
  pub reads : Reads bytes design
  pub only : (other : Design) → Reads bytes other → other ≡ design
  pub is_module : IsModuleOf elements width ticks latency period design
