use Rattle.std.proofs.Common.{ℕ, List, ap, subst, sym, ◌∙◌}
use Rattle.verilog_tree.specs.Cycle.{circuit_of}
use Rattle.verilog_tree.specs.Circuit.{given_by}
use Rattle.verilog_tree.specs.View.{design_view}
use Rattle.settle_order.specs.Placing.{opened_of}
use Rattle.clock_sim.specs.Simulated.{values_of, Marked}
use Rattle.clock_sim.specs.Sim.{Simulation}
use Rattle.clock_sim.proofs.sim.Sim.mark_given.Goals as goal

pub returns : goal.returns
returns c =
    let marked = subst (λ (xs : List ℕ). Marked (given_by (circuit_of (design_view c.self.inside.design.now)).processes (values_of xs)) (opened_of c.args.marks.now) (opened_of c.mark_blocks.new.marks))
    c.as_slice.ensures.value c.mark_blocks.ensures in
    subst (λ (s : Simulation). Marked (given_by (circuit_of (design_view s.design)).processes (values_of s.values)) (opened_of c.args.marks.now) (opened_of c.mark_blocks.new.marks)) c.self.view_is marked
