use Rattle.std.proofs.Common.{◌∙◌, ◌*◌, ◌≤◌, Ok, Option, [], ◌++◌, drop, sym, ap, subst, append-nil}
use Rattle.std.proofs.lemmas.Result.{err_from_is_err_and}
use Rattle.sample_file.specs.declared.row.Row.{Row}
use Rattle.sample_file.specs.Reading.{row_then, rows_from}
use Rattle.chain_run.specs.Stream.{Midst, next_tick}
use Rattle.chain_run.proofs.StreamSteps.{no-row, line-refused, row-run, row-faults}
use Rattle.chain_run.proofs.stream.ChainStream.take_row.Goals as goal

pub returns-in_err-step-clause-ends : goal.returns-in_err-step-clause-ends
returns-in_err-step-clause-ends c =
    let s = c.self.inside in
    let due : s.samples * s.timing.ticks ≤ s.tick = subst (λ (m : Midst). next_tick m ≤ m.tick) (sym c.self.view_is) c.requires.due in
    let p = err_from_is_err_and c.from_residual.result c.from_residual.ensures.1 in
    rw (p.1, p.2)
    ([], sym (append-nil c.args.out.now.items), line-refused c.args.self.now s.sim.design s.sim.values s.timing s.lines s.samples s.tick c.self.view_is due c.args.piece.now [] c.take.new.self c.in_err-step.field-0.0 c.in_err-step.ensures.fault)

pub returns-in_err-run_sample-in-Some-clause-ends : goal.returns-in_err-run_sample-in-Some-clause-ends
returns-in_err-run_sample-in-Some-clause-ends c =
    let s = c.self.inside in
    let due : s.samples * s.timing.ticks ≤ s.tick = subst (λ (m : Midst). next_tick m ≤ m.tick) (sym c.self.view_is) c.requires.due in
    let left = drop c.in_ok-step.step.taken c.args.piece.now in
    let p = err_from_is_err_and c.from_residual-in_err-run_sample-in-Some.result c.from_residual-in_err-run_sample-in-Some.ensures.1 in
    rw (p.1, p.2)
    (row-faults c.args.self.now s.sim.design s.sim.values s.timing s.lines s.samples s.tick c.self.view_is due c.args.piece.now left c.take.new.self c.in-Some.row
    (λ rest. c.in_ok-step.ensures.rows rest ∙ ap (λ (found : Option Row). row_then (Ok found) (rows_from c.take.new.self (left ++ rest))) c.in-Some.is)
    c.in_err-run_sample-in-Some.field-0.0 c.run_sample.new.sim.values c.args.out.now.items c.run_sample.new.out.items c.args.self.now c.in_err-run_sample-in-Some.ensures.ends)

pub returns-in-None-clause-ends : goal.returns-in-None-clause-ends
returns-in-None-clause-ends c =
    let s = c.self.inside in
    let due : s.samples * s.timing.ticks ≤ s.tick = subst (λ (m : Midst). next_tick m ≤ m.tick) (sym c.self.view_is) c.requires.due in
    let left = drop c.in_ok-step.step.taken c.args.piece.now in (
      [],
      sym (append-nil c.args.out.now.items),
      no-row c.args.self.now s.sim.design s.sim.values s.timing s.lines s.samples s.tick c.self.view_is due c.args.piece.now left c.take.new.self
          (λ rest. c.in_ok-step.ensures.rows rest ∙ ap (λ (found : Option Row). row_then (Ok found) (rows_from c.take.new.self (left ++ rest))) c.in-None.is),
    )

pub returns-in_ok-run_sample-in-Some-clause-ends : goal.returns-in_ok-run_sample-in-Some-clause-ends
returns-in_ok-run_sample-in-Some-clause-ends c =
    let s = c.self.inside in
    let due : s.samples * s.timing.ticks ≤ s.tick = subst (λ (m : Midst). next_tick m ≤ m.tick) (sym c.self.view_is) c.requires.due in
    let left = drop c.in_ok-step.step.taken c.args.piece.now in
    let ends = c.in_ok-run_sample-in-Some.ensures.ends in (
      ends.0,
      ends.1,
      row-run c.args.self.now s.sim.design s.sim.values s.timing s.lines s.samples s.tick c.self.view_is due c.args.piece.now left c.take.new.self c.in-Some.row
          (λ rest. c.in_ok-step.ensures.rows rest ∙ ap (λ (found : Option Row). row_then (Ok found) (rows_from c.take.new.self (left ++ rest))) c.in-Some.is)
          c.run_sample.new.sim.design c.run_sample.new.sim.values ends.0 c.run_sample.ensures.design ends.2,
    )
