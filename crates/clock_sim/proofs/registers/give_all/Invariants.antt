use Rattle.std.proofs.Common.{◌≡◌, length, drop}
use Rattle.clock_sim.specs.Simulated.{values_of}
use Rattle.clock_sim.specs.Blocks.{taken}
use Rattle.clock_sim.proofs.FlatBlocks.{EachGiven}
use Rattle.clock_sim.proofs.registers.give_all.Given as goal

abbrev pub invariant-loop-place : goal.invariant-loop-place
invariant-loop-place l = record {
  count : length l.values ≡ length l.initial.values;
  given : EachGiven (taken (values_of l.initial.values)) l.each (drop l.place l.each) (values_of l.initial.values) (values_of l.values);
}
