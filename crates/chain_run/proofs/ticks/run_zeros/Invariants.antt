use Rattle.std.proofs.Common.{◌≡◌, ◌≤◌, ◌-◌, ℕ, Ok, length}
use Rattle.verilog_tree.specs.View.{design_view}
use Rattle.clock_sim.specs.Simulated.{values_of}
use Rattle.chain_run.specs.Ends.{ZerosEnd}
use Rattle.chain_run.proofs.ticks.run_zeros.Given as goal

abbrev pub invariant-ticks : goal.invariant-ticks
invariant-ticks l = record {
  design : l.sim.design ≡ l.initial.sim.design;
  ends : ZerosEnd (design_view l.initial.sim.design) (values_of l.initial.sim.values) l.tick l.initial.out.items (Ok l.ticks) (values_of l.sim.values) l.out.items;
  least : l.tick ≤ l.ticks;
  most : l.tick ≤ l.until → l.ticks ≤ l.until;
  past : l.until ≤ l.tick → l.ticks ≡ l.tick;
  none : l.ticks ≡ l.tick → l.out.items ≡ l.initial.out.items;
  short : (limit : ℕ) → 65042 ≤ limit → length l.initial.out.items ≤ limit → length l.out.items ≤ limit;
}

abbrev pub decreases-ticks : goal.decreases-ticks
decreases-ticks l = l.until - l.ticks
