use Rattle.std.proofs.Common.{◌≡◌, ◌<◌, ℕ, Some, length, slice_get, slice_index}
use Rattle.clock_sim.specs.declared.registers.Register.{Register}
use Rattle.clock_sim.specs.Simulated.{values_of}
use Rattle.clock_sim.specs.Blocks.{taken}
use Rattle.clock_sim.proofs.registers.take_all.Given as goal

abbrev pub invariant-loop-place : goal.invariant-loop-place
invariant-loop-place l = record {
  count : length l.pending ≡ length l.initial.pending;
  taken : (k : ℕ) (r : Register) → k < l.place → slice_get l.each k ≡ Some r → slice_index l.pending k ≡ taken (values_of l.values) r;
}
