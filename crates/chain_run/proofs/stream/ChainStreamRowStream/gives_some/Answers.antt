use Rattle.std.proofs.Common.{refl, subst}
use Rattle.verilog_tree.specs.Checks.{Passes}
use Rattle.verilog_tree.specs.View.{design_view}
use Rattle.module_laws.proofs.Passing.{closed}
use Rattle.sample_file.specs.Reading.{rows_from}
use Rattle.sample_file.specs.Ranges.{samples_of}
use Rattle.clock_sim.specs.Simulated.{values_of}
use Rattle.chain_run.specs.Stream.{Midst}
use Rattle.chain_run.specs.Ticks.{ticks_from}
use Rattle.chain_run.proofs.stream.ChainStreamRowStream.gives_some.Goals as goal

pub returns : goal.returns
returns c = λ bytes.
    let m = c.args.self.now in
    let xs = samples_of m.timing.width (rows_from m.place bytes) in
    let run =
    c.law_of_runs.ensures (design_view m.design) (closed (design_view m.design) (subst (λ (n : Midst). Passes (design_view n.design)) c.self.view_is c.self.invariant.passes)) (values_of m.values) (ticks_from m.timing m.samples m.tick xs.items xs.fault) in (
      _,
      xs.fault,
      record { lines = record { settled = run.0; run = run.1; shown = refl }; refused = refl },
    )
