-- The line that a failed check of a module is printed as: its variant's name, and the name of the signal.
use Rattle.std.specs.Prelude.{ℕ, List, ◌++◌, codes}
use Rattle.verilog_tree.specs.declared.fault.ModuleFault.{ModuleFault}
use Rattle.verilog_tree.specs.declared.fault.ModuleFault.TheVariants.{Redeclared, Undeclared, PortShape, WrongKind, WidthOver, BadSelect, ManyDrivers, NoDriver, CombLoop, Memory}

abbrev pub module_fault_text : ModuleFault → List ℕ
module_fault_text (Redeclared name) = codes "Redeclared name=" ++ name
module_fault_text (Undeclared name) = codes "Undeclared name=" ++ name
module_fault_text (PortShape name) = codes "PortShape name=" ++ name
module_fault_text (WrongKind name) = codes "WrongKind name=" ++ name
module_fault_text (WidthOver name) = codes "WidthOver name=" ++ name
module_fault_text (BadSelect name) = codes "BadSelect name=" ++ name
module_fault_text (ManyDrivers name) = codes "ManyDrivers name=" ++ name
module_fault_text (NoDriver name) = codes "NoDriver name=" ++ name
module_fault_text (CombLoop name) = codes "CombLoop name=" ++ name
module_fault_text Memory = codes "Memory"
