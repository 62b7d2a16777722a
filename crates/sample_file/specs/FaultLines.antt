-- The line that a fault of a line is printed as: its variant's name, and for each field a space, its name, `=` and its value.
use Rattle.std.specs.Prelude.{ℕ, List, ◌++◌, codes, decimal}
use Rattle.sample_file.specs.declared.fault.LineFault.{LineFault}
use Rattle.sample_file.specs.declared.fault.LineFault.TheVariants.{NotNumber, OutOfRange, Fields, LongLine, TooManyLines}

abbrev pub line_fault_text : LineFault → List ℕ
line_fault_text (NotNumber number) = codes "NotNumber line=" ++ decimal number
line_fault_text (OutOfRange number) = codes "OutOfRange line=" ++ decimal number
line_fault_text (Fields number count) = codes "Fields line=" ++ decimal number ++ codes " count=" ++ decimal count
line_fault_text (LongLine number) = codes "LongLine line=" ++ decimal number
line_fault_text TooManyLines = codes "TooManyLines"
