-- The line that a refusal of a text is printed as: its variant's name and the place, or the line of the check that its module fails.
use Rattle.std.specs.Prelude.{ℕ, List, ◌++◌, codes, decimal}
use Rattle.verilog_tree.specs.FaultLines.{module_fault_text}
use Rattle.verilog_read.specs.declared.fault.ReadFault.{ReadFault}
use Rattle.verilog_read.specs.declared.fault.ReadFault.TheVariants.{Lexical, Syntax, OutsideSubset, TooDeep, Module, Memory}

abbrev pub read_fault_text : ReadFault → List ℕ
read_fault_text (Lexical place) = codes "Lexical place=" ++ decimal place
read_fault_text (Syntax place) = codes "Syntax place=" ++ decimal place
read_fault_text (OutsideSubset place) = codes "OutsideSubset place=" ++ decimal place
read_fault_text (TooDeep place) = codes "TooDeep place=" ++ decimal place
read_fault_text (Module fault) = module_fault_text fault
read_fault_text Memory = codes "Memory"
