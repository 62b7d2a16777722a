-- Why a text is refused.
use Rattle.std.specs.Prelude.{List, ℕ}
use Rattle.verilog_tree.specs.Checks.{Face, filter_face, FailsAs}
use Rattle.verilog_tree.specs.Tree.{Design}
use Rattle.verilog_tree.specs.declared.fault.ModuleFault.{ModuleFault}
use Rattle.verilog_tree.specs.declared.fault.ModuleFault.TheVariants as check
use Rattle.verilog_text.specs.Reading.{Reads}
use Rattle.verilog_read.specs.declared.fault.ReadFault.{ReadFault}
use Rattle.verilog_read.specs.declared.fault.ReadFault.TheVariants as fault
use Rattle.verilog_read.specs.Answer.{IsStop}

-- the text reads as a module of which this is the first check that fails, with the ports of a face
pub record FailsCheckAs (face : Face) (bytes : List ℕ) (why : ModuleFault) : Type 0 where
  pub design : Design
  pub reads : Reads bytes design
  pub fails : FailsAs face design why

-- with the ports of a filter
abbrev pub FailsCheck : List ℕ → ModuleFault → Type 0
FailsCheck bytes why = FailsCheckAs filter_face bytes why

-- a failed check as a refusal of the text
abbrev pub refusal_of : ModuleFault → ReadFault
refusal_of (check.Redeclared name) = fault.Module (check.Redeclared name)
refusal_of (check.Undeclared name) = fault.Module (check.Undeclared name)
refusal_of (check.PortShape name) = fault.Module (check.PortShape name)
refusal_of (check.WrongKind name) = fault.Module (check.WrongKind name)
refusal_of (check.WidthOver name) = fault.Module (check.WidthOver name)
refusal_of (check.BadSelect name) = fault.Module (check.BadSelect name)
refusal_of (check.ManyDrivers name) = fault.Module (check.ManyDrivers name)
refusal_of (check.NoDriver name) = fault.Module (check.NoDriver name)
refusal_of (check.CombLoop name) = fault.Module (check.CombLoop name)
refusal_of check.Memory = fault.Memory

-- the first place at which no text of the grammar goes on so, or the first check that the text's module fails, with the ports of a face
abbrev pub IsTextRefusalAs : Face → List ℕ → ReadFault → Type 0
IsTextRefusalAs face bytes (fault.Lexical place) = IsStop bytes (fault.Lexical place)
IsTextRefusalAs face bytes (fault.Syntax place) = IsStop bytes (fault.Syntax place)
IsTextRefusalAs face bytes (fault.OutsideSubset place) = IsStop bytes (fault.OutsideSubset place)
IsTextRefusalAs face bytes (fault.TooDeep place) = IsStop bytes (fault.TooDeep place)
IsTextRefusalAs face bytes (fault.Module why) = FailsCheckAs face bytes why
IsTextRefusalAs face bytes fault.Memory = Unit {0}

-- with the ports of a filter
abbrev pub IsTextRefusal : List ℕ → ReadFault → Type 0
IsTextRefusal bytes why = IsTextRefusalAs filter_face bytes why
