use Rattle.std.proofs.Common.{◌≡◌, ◌≤◌, ◌+◌, drop}
use Rattle.clock_sim.specs.Sim.{register_count}
use Rattle.sim_stream.proofs.start.register_count.Given as goal

abbrev pub invariant-loop-signal : goal.invariant-loop-signal
invariant-loop-signal l = record {
  counted : l.count + register_count (drop l.signal-index l.design.signals.items) ≡ register_count l.design.signals.items;
  room : l.count ≤ l.signal-index;
}
