-- The registers of a module: their always blocks, what a reset does, and what a cycle without a clock enable leaves.
use Rattle.std.specs.Prelude.{◌≡◌, ℕ, true, false, Some, slice_get}
use Rattle.verilog_tree.specs.declared.tree.Kind.TheVariants.{Reg}
use Rattle.verilog_tree.specs.Circuit.{IsSettling, with_inputs, next}
use Rattle.verilog_tree.specs.Cycle.{circuit_of}
use Rattle.verilog_tree.specs.Meaning.{Values}
use Rattle.verilog_tree.specs.Names.{shapes_of, kind_of}
use Rattle.verilog_tree.specs.Shown.{Cycle, Ports, ports_of, inputs_of}
use Rattle.verilog_tree.specs.Tree.{Tree, Name, Based, Action, When, Either, Give, Design}

-- `if (rst) REGISTER <= 0; else if (ce) REGISTER <= VALUE;`
abbrev pub held_block : Ports → ℕ → ℕ → Tree → Action
held_block ports register width value = Either (Name ports.rst) (Give register (Based width true 0)) (When (Name ports.ce) (Give register value))

-- the block is of this form, and its 0 is as wide as its register
pub record IsHeldBlock (d : Design) (block : Action) : Type 0 where
  pub register : ℕ
  pub value : Tree
  pub is_register : kind_of d register ≡ Some Reg
  pub is_it : block ≡ held_block (ports_of d) register ((shapes_of d).width register) value

-- each always block is of this form
pub record HasHeldBlocks (d : Design) : Type 0 where
  pub each : (k : ℕ) (block : Action) → slice_get d.blocks k ≡ Some block → IsHeldBlock d block

-- whatever the registers hold, a cycle with `rst` 1 sets each of them to 0, and one with `rst` 0 and `ce` 0 changes none
pub record HasReset (d : Design) : Type 0 where
  pub sets : (content now : Values) (c : Cycle) → IsSettling (circuit_of d) (with_inputs (inputs_of (ports_of d) c) content) now → c.rst ≡ true
      → (register : ℕ) → kind_of d register ≡ Some Reg → next (circuit_of d) now register ≡ 0
  pub rests : (content now : Values) (c : Cycle) → IsSettling (circuit_of d) (with_inputs (inputs_of (ports_of d) c) content) now → c.rst ≡ false → c.ce ≡ false
      → (register : ℕ) → kind_of d register ≡ Some Reg → next (circuit_of d) now register ≡ content register
