use Rattle.std.proofs.Common.{◌≡◌, length}
use Rattle.net_graph.specs.Grow.{Extends}
use Rattle.pipeline_balance.specs.Phase.{IsPhases}
use Rattle.pipeline_balance.proofs.phase.phase_bits.Given as goal

abbrev pub invariant-loop-phase : goal.invariant-loop-phase
invariant-loop-phase l =
    (length l.bits.items ≡ l.phase) × Extends l.initial.net.cells l.net.cells × IsPhases l.fn.net l.net l.fn.period l.fn.first l.fn.count l.bits.items
