-- The signs and widths of the ports that carry numbers, and the output register.
use Rattle.std.specs.Prelude.{◌≡◌, ℕ, ◌+◌, true, List, length, Some, slice_get, codes}
use Rattle.verilog_tree.specs.declared.tree.Kind.TheVariants.{Reg}
use Rattle.verilog_tree.specs.Meaning.{Values}
use Rattle.verilog_tree.specs.Names.{shapes_of, kind_of, number_of}
use Rattle.verilog_tree.specs.Shown.{Cycle, ports_of}
use Rattle.verilog_tree.specs.Tree.{Design}
use Rattle.module_names.specs.Control.{IsRunAfterReset}

-- the name `out_q`
abbrev pub output_name : Design → ℕ
output_name d = number_of d (codes "out_q")

-- `in_data` is signed and has this width, `out_data` is signed and has that of `out_q`, and `out_q` is a register; in each cycle after a
-- reset `out_data` has the bits of `out_q`
pub record HasPorts (width : ℕ) (d : Design) : Type 0 where
  pub in_signed : (shapes_of d).signed (ports_of d).in_data ≡ true
  pub in_width : (shapes_of d).width (ports_of d).in_data ≡ width
  pub out_signed : (shapes_of d).signed (ports_of d).out_data ≡ true
  pub out_width : (shapes_of d).width (ports_of d).out_data ≡ (shapes_of d).width (output_name d)
  pub register : kind_of d (output_name d) ≡ Some Reg
  pub same : (content : Values) (before after : List Cycle) (reset : Cycle) (settled : List Values) → IsRunAfterReset d content before after reset settled
      → (j : ℕ) (now : Values) → slice_get settled (length before + 1 + j) ≡ Some now → now (ports_of d).out_data ≡ now (output_name d)
