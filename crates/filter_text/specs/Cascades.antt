-- The registers of a plan's cascades in its module. Hogenauer 1981.
use Rattle.std.specs.Prelude.{◌≡◌, ℕ, ◌<◌, true, List, Some}
use Rattle.mr_values.specs.Sequence.{Sequence}
use Rattle.net_graph.specs.declared.name.NameKind.TheVariants.{Register}
use Rattle.net_graph.specs.Name.{written_name}
use Rattle.pipeline_balance.specs.Numbered.{name_of}
use Rattle.stage_law.specs.Alike.{IsOutputWidth}
use Rattle.stage_law.specs.Streams.{Streams}
use Rattle.verilog_tree.specs.declared.tree.Kind.TheVariants.{Reg}
use Rattle.verilog_tree.specs.Names.{shapes_of, number_of, text_of, kind_of, is_in_group}
use Rattle.verilog_tree.specs.Tree.{Design}
use Rattle.chain_build.specs.Alike.{OfCascade}

-- how the register of this group and number is named
abbrev pub register_text : ℕ → ℕ → List ℕ
register_text group number = written_name (name_of group Register number)

-- the module has a register of this name and width
pub record HasRegister (d : Design) (text : List ℕ) (width : ℕ) : Type 0 where
  pub named : text_of d (number_of d text) ≡ text
  pub is_register : kind_of d (number_of d text) ≡ Some Reg
  pub wide : (shapes_of d).width (number_of d text) ≡ width

-- the name is that of one of so many registers of the group
pub record IsOneOf (group count : ℕ) (text : List ℕ) : Type 0 where
  pub number : ℕ
  pub below : number < count
  pub is : text ≡ register_text group number

-- Of the group of this number the module has exactly so many registers, numbered from 0, all of the least width that holds each value that
-- is made of these streams.
pub record HasAlike (d : Design) (streams : Streams) (made : Sequence → Sequence) (group count : ℕ) : Type 0 where
  pub width : ℕ
  pub least : IsOutputWidth streams made width
  pub each : (number : ℕ) → number < count → HasRegister d (register_text group number) width
  pub only : (name : ℕ) → kind_of d name ≡ Some Reg → is_in_group group (text_of d name) ≡ true → IsOneOf group count (text_of d name)

-- so the module has the registers of a cascade
abbrev pub in_module : Design → OfCascade
in_module d streams made group count = HasAlike d streams made group count
