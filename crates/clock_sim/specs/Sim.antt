-- A simulator as its callers see it, and what its fields keep.
use Rattle.std.specs.Prelude.{◌≡◌, ℕ, suc, ◌<◌, ◌≤◌, ◌^◌, Bool, true, false, if◌then◌else◌, IsTrue, List, [], ◌∷◌, length}
use Rattle.verilog_tree.specs.declared.tree.Signal.{Signal}
use Rattle.verilog_tree.specs.declared.tree.Kind.{Kind}
use Rattle.verilog_tree.specs.declared.tree.Kind.TheVariants.{Input, Output, Wire, Reg}
use Rattle.verilog_tree.specs.Circuit.{Input as Start, with_inputs}
use Rattle.verilog_tree.specs.declared.tree.Module.{Module}
use Rattle.verilog_tree.specs.Tree.{Design}
use Rattle.verilog_tree.specs.Meaning.{Shapes, FitNames}
use Rattle.verilog_tree.specs.Names.{shapes_of}
use Rattle.verilog_tree.specs.Checks.{Passes}
use Rattle.verilog_tree.specs.Cycle.{circuit_of, IsDrivenOnce}
use Rattle.verilog_tree.specs.Shown.{Cycle, ports_of}
use Rattle.verilog_tree.specs.View.{design_view}
use Rattle.verilog_text.specs.Grammar.{limits}
use Rattle.verilog_text.specs.Shortest.{IsWritable}
use Rattle.wire_levels.specs.Levels.{AreByLevel}
use Rattle.clock_sim.specs.declared.sim.PortNames.{PortNames}
use Rattle.clock_sim.specs.declared.shape_table.ShapeTable.{ShapeTable}
use Rattle.clock_sim.specs.declared.registers.Blocks.{Blocks}
use Rattle.clock_sim.specs.declared.step.Compiled.{Compiled}
use Rattle.clock_sim.specs.Blocks.{AreBlocks}
use Rattle.clock_sim.specs.Steps.{Compiles}
use Rattle.clock_sim.specs.Simulated.{table_shapes, values_of, AssignsFit, blocks_fit}
use Rattle.clock_sim.specs.Tables.{TellsShapes}

-- a module and the values of its names, by their numbers
pub record Simulation : Type 0 where
  pub design : Module
  pub values : List ℕ

-- a module that can be simulated: it is formed as the grammar forms modules, and passes the checks
pub record IsSound (d : Design) : Type 0 where
  pub formed : IsWritable limits d
  pub passes : Passes d

abbrev pub is_register : Kind → Bool
is_register Reg = true
is_register Input = false
is_register Output = false
is_register Wire = false

-- how many registers there are
abbrev pub register_count : List Signal → ℕ
register_count [] = 0
register_count (s ∷ signals) = if is_register s.kind then suc (register_count signals) else register_count signals

-- the patterns of the registers in the order of their declarations
abbrev pub contents : List Signal → List ℕ → List Start
contents [] patterns = []
contents (s ∷ signals) [] = []
contents (s ∷ signals) (x ∷ patterns) = if is_register s.kind then record { name = s.name; value = x } ∷ contents signals patterns else contents signals (x ∷ patterns)

abbrev pub AllFit : Shapes → List Start → Type 0
AllFit shapes [] = Unit {0}
AllFit shapes (i ∷ inputs) = (i.value < 2 ^ shapes.width i.name) × AllFit shapes inputs

-- one pattern for each register, which fits it
pub record AreInitial (shapes : Shapes) (signals : List Signal) (patterns : List ℕ) : Type 0 where
  pub count : length patterns ≡ register_count signals
  pub fit : AllFit shapes (contents signals patterns)

-- the registers have these patterns, and all other names are 0
pub record HoldInitial (signals : List Signal) (patterns values : List ℕ) : Type 0 where
  pub same : values_of values ≡ with_inputs (contents signals patterns) (λ n. 0)

-- the inputs of a cycle
abbrev pub cycle_of : Bool → Bool → ℕ → Cycle
cycle_of rst ce in_data = record { rst = rst; ce = ce; in_data = in_data }

-- a port has 1 to 127 bits
pub record IsDataWidth (width : ℕ) : Type 0 where
  pub least : 1 ≤ width
  pub most : width ≤ 127

-- the ports of a module: those that are set are among its first `count` names, and have at least one bit
pub record ArePorts (d : Design) (count : ℕ) (ports : PortNames) : Type 0 where
  pub rst : ports.rst ≡ (ports_of d).rst
  pub ce : ports.ce ≡ (ports_of d).ce
  pub in_data : ports.in_data ≡ (ports_of d).in_data
  pub out_valid : ports.out_valid ≡ (ports_of d).out_valid
  pub out_data : ports.out_data ≡ (ports_of d).out_data
  pub rst_inside : ports.rst < count
  pub ce_inside : ports.ce < count
  pub in_data_inside : ports.in_data < count
  pub rst_width : 1 ≤ (shapes_of d).width ports.rst
  pub ce_width : 1 ≤ (shapes_of d).width ports.ce
  pub in_data_width : IsDataWidth ((shapes_of d).width ports.in_data)
  pub out_data_width : IsDataWidth ((shapes_of d).width ports.out_data)

pub record IsSimulation (m : Module) (ports : PortNames) (table : ShapeTable) (order : List ℕ) (steps : List Compiled) (flat : Blocks) (values staged : List ℕ) : Type 0 where
  pub driven : IsDrivenOnce (design_view m)
  pub tells : TellsShapes (table_shapes table.widths.items table.signs.items) (shapes_of (design_view m))
  pub compiled : Compiles (shapes_of (design_view m)) m.assigns.items steps
  pub assigns : AssignsFit (design_view m) (length values)
  pub blocks : IsTrue (blocks_fit (shapes_of (design_view m)) (length values) (design_view m).blocks)
  pub registers : AreBlocks (shapes_of (design_view m)) (length values) m.blocks.items flat
  pub inputs : ArePorts (design_view m) (length values) ports
  pub evaluation : AreByLevel (design_view m) order
  pub names : FitNames (shapes_of (design_view m)) (values_of values)
  pub sizes : length staged ≡ length values
