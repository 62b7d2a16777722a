use Rattle.std.proofs.Common.{◌≡◌, length, drop}
use Rattle.clock_sim.specs.declared.registers.Register.{Register}
use Rattle.clock_sim.specs.Simulated.{values_of}
use Rattle.clock_sim.proofs.FlatBlocks.{EachGiven}
use Rattle.clock_sim.proofs.registers.reset_all.Given as goal

abbrev pub invariant-loop-register : goal.invariant-loop-register
invariant-loop-register l = record {
  count : length l.values ≡ length l.initial.values;
  given : EachGiven (λ (r : Register). r.initial) l.each (drop l.register-index l.each) (values_of l.initial.values) (values_of l.values);
}
