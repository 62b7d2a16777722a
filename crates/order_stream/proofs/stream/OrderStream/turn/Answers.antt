use Rattle.std.proofs.Common.{◌∙◌, Ok, Err, Option, [], ◌++◌, ◌+◌, drop, ap, sym, subst, append-nil}
use Rattle.std.proofs.lemmas.Result.{err_from_is_err_and}
use Rattle.verilog_tree.specs.declared.tree.Module.{Module}
use Rattle.verilog_tree.specs.View.{design_view}
use Rattle.sample_file.specs.declared.row.Row.{Row}
use Rattle.sample_file.specs.Reading.{row_then, rows_from}
use Rattle.row_stream.specs.Giving.{GoesOn, Takes}
use Rattle.row_stream.specs.declared.fault.StreamFault.TheVariants.{Line}
use Rattle.clock_sim.specs.Simulated.{values_of}
use Rattle.order_stream.specs.Stream.{Midst, GivesFrom}
use Rattle.order_stream.proofs.RowSteps.{no-row, line-refused, row-run, row-faults}
use Rattle.order_stream.proofs.stream.OrderStream.turn.Goals as goal

pub returns-in_err-self-inside-in-Some-clause-ends : goal.returns-in_err-self-inside-in-Some-clause-ends
returns-in_err-self-inside-in-Some-clause-ends c =
    let p = err_from_is_err_and c.from_residual-in_err-self-inside-in-Some.result c.from_residual-in_err-self-inside-in-Some.ensures.1 in
    let left = drop c.in_ok-step.step.taken c.args.piece.now in
    let sim = c.self.inside.sim in
    let fault = c.in_err-self-inside-in-Some.field-0.0 in
    rw (p.1, p.2)
    (subst (λ (m : Midst). Takes (GivesFrom m) (GivesFrom c.args.self.now) c.args.piece.now c.args.out.now.items (Err fault) c.run_cycle.new.out.items) c.self.view_is
    (row-faults (design_view sim.design) (values_of sim.values) c.self.inside.cycle c.self.inside.tick sim.number c.self.inside.lines c.take.new.self c.args.piece.now left c.in-Some.row
    (λ rest. c.in_ok-step.ensures.rows rest ∙ ap (λ (found : Option Row). row_then (Ok found) (rows_from c.take.new.self (left ++ rest))) c.in-Some.is)
    fault (values_of c.run_cycle.new.sim.values) c.run_cycle.new.sim.number (GivesFrom c.args.self.now) c.args.out.now.items c.run_cycle.new.out.items c.in_err-self-inside-in-Some.ensures.ends))

pub returns-in-None-clause-ends : goal.returns-in-None-clause-ends
returns-in-None-clause-ends c =
    let left = drop c.in_ok-step.step.taken c.args.piece.now in
    let sim = c.self.inside.sim in
    let new : Midst = record { design = sim.design; values = sim.values; number = sim.number; place = c.take.new.self; cycle = c.self.inside.cycle; tick = c.self.inside.tick } in (
      [],
      sym (append-nil c.args.out.now.items),
      subst (λ (m : Midst). GoesOn (GivesFrom m) (GivesFrom new) c.args.piece.now left []) c.self.view_is
          (no-row (design_view sim.design) (values_of sim.values) c.self.inside.cycle c.self.inside.tick sim.number c.self.inside.lines c.take.new.self c.args.piece.now left
          (λ rest. c.in_ok-step.ensures.rows rest ∙ ap (λ (found : Option Row). row_then (Ok found) (rows_from c.take.new.self (left ++ rest))) c.in-None.is)),
    )

pub returns-in_ok-self-inside-in-Some-clause-ends : goal.returns-in_ok-self-inside-in-Some-clause-ends
returns-in_ok-self-inside-in-Some-clause-ends c =
    let left = drop c.in_ok-step.step.taken c.args.piece.now in
    let sim = c.self.inside.sim in
    let ends = c.in_ok-self-inside-in-Some.ensures.ends in
    let after = c.run_cycle.new.sim in
    let ticks = c.in_ok-self-inside-in-Some.field-0 in
    let run = row-run (design_view sim.design) (values_of sim.values) c.self.inside.cycle c.self.inside.tick sim.number c.self.inside.lines c.take.new.self c.args.piece.now left c.in-Some.row
    (λ rest. c.in_ok-step.ensures.rows rest ∙ ap (λ (found : Option Row). row_then (Ok found) (rows_from c.take.new.self (left ++ rest))) c.in-Some.is)
    (values_of after.values) ticks after.number ends.0 ends.2 in (
      ends.0,
      ends.1,
      subst (λ (x : Module). GoesOn (GivesFrom c.args.self.now) (GivesFrom (record { design = x; values = after.values; number = after.number; place = c.take.new.self; cycle = c.self.inside.cycle + 1; tick = ticks })) c.args.piece.now left ends.0) (sym c.run_cycle.ensures.design)
          (subst (λ (m : Midst). GoesOn (GivesFrom m) (GivesFrom (record { design = sim.design; values = after.values; number = after.number; place = c.take.new.self; cycle = c.self.inside.cycle + 1; tick = ticks })) c.args.piece.now left ends.0) c.self.view_is run),
    )

pub returns-in_err-step-clause-ends : goal.returns-in_err-step-clause-ends
returns-in_err-step-clause-ends c =
    let p = err_from_is_err_and c.from_residual.result c.from_residual.ensures.1 in
    let sim = c.self.inside.sim in
    rw (p.1, p.2)
    (subst (λ (m : Midst). Takes (GivesFrom m) (GivesFrom c.args.self.now) c.args.piece.now c.args.out.now.items (Err (Line c.in_err-step.field-0.0)) c.args.out.now.items) c.self.view_is
    (line-refused (design_view sim.design) (values_of sim.values) c.self.inside.cycle c.self.inside.tick sim.number c.self.inside.lines c.args.piece.now
    c.in_err-step.field-0.0 c.in_err-step.ensures.fault (GivesFrom c.args.self.now) c.args.out.now.items))
