use Rattle.std.proofs.Common.{◌∙◌, Ok, Err, Option, None, [], ap, subst}
use Rattle.std.proofs.lemmas.Result.{err_from_is_err_and}
use Rattle.verilog_tree.specs.View.{design_view}
use Rattle.sample_file.specs.declared.row.Row.{Row}
use Rattle.sample_file.specs.Reading.{row_then, no_rows}
use Rattle.row_stream.specs.Giving.{Closes}
use Rattle.clock_sim.specs.Simulated.{values_of}
use Rattle.order_stream.specs.Stream.{Midst, GivesFrom}
use Rattle.order_stream.proofs.RowSteps.{end-run, end-faults}
use Rattle.order_stream.proofs.stream.OrderStreamRowStream.finish.Goals as goal

pub returns-in_err-run_cycle-in-Some-clause-ends : goal.returns-in_err-run_cycle-in-Some-clause-ends
returns-in_err-run_cycle-in-Some-clause-ends c =
    let p = err_from_is_err_and c.from_residual-in_err-run_cycle-in-Some.result c.from_residual-in_err-run_cycle-in-Some.ensures.1 in
    let sim = c.self.inside.sim in
    let fault = c.in_err-run_cycle-in-Some.field-0.0 in
    rw (p.1, p.2)
    (subst (λ (m : Midst). Closes (GivesFrom m) (GivesFrom c.args.self.now) c.args.out.now.items (Err fault) c.run_cycle.new.out.items) c.self.view_is
    (end-faults (design_view sim.design) (values_of sim.values) c.self.inside.cycle c.self.inside.tick sim.number c.self.inside.lines fault c.in-Some.row (values_of c.run_cycle.new.sim.values) c.run_cycle.new.sim.number
    (GivesFrom c.args.self.now) c.args.out.now.items c.run_cycle.new.out.items (c.in_ok-close.ensures.rows ∙ ap (λ (found : Option Row). row_then (Ok found) no_rows) c.in-Some.is) c.in_err-run_cycle-in-Some.ensures.ends))

pub returns-in_ok-run_cycle-in-Some-clause-ends : goal.returns-in_ok-run_cycle-in-Some-clause-ends
returns-in_ok-run_cycle-in-Some-clause-ends c =
    let sim = c.self.inside.sim in
    let ends = c.in_ok-run_cycle-in-Some.ensures.ends in (
      ends.0,
      ends.1,
      subst (λ (m : Midst). GivesFrom m [] ends.0 None) c.self.view_is
          (end-run (design_view sim.design) (values_of sim.values) c.self.inside.cycle c.self.inside.tick sim.number c.self.inside.lines c.in-Some.row (values_of c.run_cycle.new.sim.values)
          c.in_ok-run_cycle-in-Some.field-0 c.run_cycle.new.sim.number ends.0 (c.in_ok-close.ensures.rows ∙ ap (λ (found : Option Row). row_then (Ok found) no_rows) c.in-Some.is) ends.2),
    )
