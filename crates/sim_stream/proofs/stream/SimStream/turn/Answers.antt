use Rattle.std.proofs.Common.{◌∙◌, Ok, Option, [], ◌++◌, drop, ap, sym, append-nil}
use Rattle.std.proofs.lemmas.Result.{err_from_is_err_and}
use Rattle.sample_file.specs.declared.row.Row.{Row}
use Rattle.sample_file.specs.Reading.{row_then, rows_from}
use Rattle.sim_stream.specs.Stream.{GivesFrom}
use Rattle.sim_stream.proofs.StreamSteps.{no-row, line-refused, row-run, row-faults}
use Rattle.sim_stream.proofs.stream.SimStream.turn.Goals as goal

pub returns-in_err-self-inside-in-Some-clause-ends : goal.returns-in_err-self-inside-in-Some-clause-ends
returns-in_err-self-inside-in-Some-clause-ends c =
    let p = err_from_is_err_and c.from_residual-in_err-self-inside-in-Some.result c.from_residual-in_err-self-inside-in-Some.ensures.1 in
    let left = drop c.in_ok-step.step.taken c.args.piece.now in
    rw (p.1, p.2)
    (row-faults c.args.self.now c.self.inside.sim.design c.self.inside.sim.values c.self.inside.cycle c.self.inside.tick c.self.inside.lines c.take.new.self c.args.piece.now left c.self.view_is c.in-Some.row
    (λ rest. c.in_ok-step.ensures.rows rest ∙ ap (λ (found : Option Row). row_then (Ok found) (rows_from c.take.new.self (left ++ rest))) c.in-Some.is)
    c.in_err-self-inside-in-Some.field-0.0 c.run_cycle.new.sim.values (GivesFrom c.args.self.now) c.args.out.now.items c.run_cycle.new.out.items c.in_err-self-inside-in-Some.ensures.ends)

pub returns-in-None-clause-ends : goal.returns-in-None-clause-ends
returns-in-None-clause-ends c =
    let left = drop c.in_ok-step.step.taken c.args.piece.now in (
      [],
      sym (append-nil c.args.out.now.items),
      no-row c.args.self.now c.self.inside.sim.design c.self.inside.sim.values c.self.inside.cycle c.self.inside.tick c.self.inside.lines c.take.new.self c.args.piece.now left c.self.view_is
          (λ rest. c.in_ok-step.ensures.rows rest ∙ ap (λ (found : Option Row). row_then (Ok found) (rows_from c.take.new.self (left ++ rest))) c.in-None.is),
    )

pub returns-in_ok-self-inside-in-Some-clause-ends : goal.returns-in_ok-self-inside-in-Some-clause-ends
returns-in_ok-self-inside-in-Some-clause-ends c =
    let left = drop c.in_ok-step.step.taken c.args.piece.now in
    let ends = c.in_ok-self-inside-in-Some.ensures.ends in (
      ends.0,
      ends.1,
      row-run c.args.self.now c.self.inside.sim.design c.self.inside.sim.values c.self.inside.cycle c.self.inside.tick c.self.inside.lines c.take.new.self c.args.piece.now left c.self.view_is c.in-Some.row
          (λ rest. c.in_ok-step.ensures.rows rest ∙ ap (λ (found : Option Row). row_then (Ok found) (rows_from c.take.new.self (left ++ rest))) c.in-Some.is)
          c.run_cycle.new.sim.values c.in_ok-self-inside-in-Some.field-0 ends.0 c.run_cycle.new.sim.design c.run_cycle.ensures.design ends.2,
    )

pub returns-in_err-step-clause-ends : goal.returns-in_err-step-clause-ends
returns-in_err-step-clause-ends c =
    let p = err_from_is_err_and c.from_residual.result c.from_residual.ensures.1 in
    rw (p.1, p.2)
    (line-refused c.args.self.now c.self.inside.sim.design c.self.inside.sim.values c.self.inside.cycle c.self.inside.tick c.self.inside.lines c.self.inside.lines c.args.piece.now [] c.self.view_is
    c.in_err-step.field-0.0 c.in_err-step.ensures.fault (GivesFrom c.args.self.now) c.args.out.now.items)
