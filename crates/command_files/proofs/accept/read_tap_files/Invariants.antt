use Rattle.command_files.proofs.ReadSteps.{TapsSoFar}
use Rattle.command_files.proofs.accept.read_tap_files.Given as goal

abbrev pub invariant-loop-index : goal.invariant-loop-index
invariant-loop-index g l = TapsSoFar l.fn.text l.index l.text (g.H.Host.state l.fn.host) (g.H.Host.state l.host)
