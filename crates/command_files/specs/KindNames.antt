-- The name that a file with a greatest length is printed as.
use Rattle.std.specs.Prelude.{ℕ, List, ◌++◌, codes, decimal}
use Rattle.command_files.specs.declared.fault.FileKind.{FileKind}
use Rattle.command_files.specs.declared.fault.FileKind.TheVariants.{Plan, Taps, Text}

abbrev pub kind_text : FileKind → List ℕ
kind_text Plan = codes "Plan"
kind_text (Taps element) = codes "Taps(" ++ decimal element ++ codes ")"
kind_text Text = codes "Text"
