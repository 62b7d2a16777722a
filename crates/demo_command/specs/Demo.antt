-- What `demo` writes, and what its answers mean.
use Rattle.std.specs.Prelude.{◌≡◌, ℕ, List, Result}
use Rattle.mr_values.specs.Host.{HostState}
use Rattle.command_files.specs.declared.fault.CommandFault.{CommandFault}
use Rattle.command_files.specs.declared.fault.WriteFault.{WriteFault}
use Rattle.command_files.specs.Conversions.{result_of_writing}
use Rattle.command_files.specs.WholeFiles.{WriteAnswer}
use Rattle.demo_plan.specs.Tallied.{line_drawn}

-- Each answer of `demo`: it is that of writing OUT with the line that the number draws. Where all is well OUT holds that line, and else a part
-- of it at most; no other file has changed.
abbrev pub DemoEnds : ℕ → List ℕ → Result (Unit {0}) CommandFault → HostState → HostState → Type 0
DemoEnds number out result old new = (written : Result (Unit {0}) WriteFault) × ((result ≡ result_of_writing written) × WriteAnswer out (line_drawn number) written old.files new.files)
