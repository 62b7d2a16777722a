use Rattle.std.proofs.Common.{◌-◌, length}
use Rattle.command_files.proofs.FileSteps.{ReadSoFar}
use Rattle.command_files.proofs.files.read_file.Given as goal

abbrev pub invariant-loop-count : goal.invariant-loop-count
invariant-loop-count g l = ReadSoFar l.name l.bytes.items l.limit (g.H.Host.state l.fn.host) (g.H.Host.state l.host)

abbrev pub decreases-loop-count : goal.decreases-loop-count
decreases-loop-count g l = l.limit - length l.bytes.items
