use Rattle.std.proofs.Common.{subst}
use Rattle.verilog_tree.specs.Checks.{Passes}
use Rattle.verilog_tree.specs.View.{design_view}
use Rattle.sample_file.specs.Reading.{rows_from}
use Rattle.clock_sim.specs.Simulated.{values_of}
use Rattle.sim_stream.specs.Given.{cycles_for}
use Rattle.order_stream.specs.Stream.{Midst}
use Rattle.order_stream.proofs.stream.OrderStreamRowStream.gives_some.Goals as goal

pub returns : goal.returns
returns c = λ bytes.
    let s = c.args.self.now in
    let d = design_view s.design in
    let passes = subst (λ (m : Midst). Passes (design_view m.design)) c.self.view_is c.self.invariant.passes in
    let cycles = cycles_for d (rows_from s.place bytes) in
    let one = c.law_of_one_text.ensures d passes (values_of s.values) s.cycle s.tick s.number cycles in
    (one.0, cycles.fault, one.1)
