use Rattle.std.proofs.Common.{◌∙◌, Ok, Option, [], ap, sym, append-nil}
use Rattle.std.proofs.lemmas.Result.{err_from_is_err_and}
use Rattle.sample_file.specs.declared.row.Row.{Row}
use Rattle.sample_file.specs.Reading.{Place, row_then, no_rows, rows_from}
use Rattle.sim_stream.specs.Stream.{GivesFrom}
use Rattle.sim_stream.proofs.StreamSteps.{end-none, end-run, end-faults}
use Rattle.sim_stream.proofs.stream.SimStreamRowStream.finish.Goals as goal

pub returns-in-None-clause-ends : goal.returns-in-None-clause-ends
returns-in-None-clause-ends c = (
  [],
  sym (append-nil c.args.out.now.items),
  end-none c.args.self.now c.self.inside.sim.design c.self.inside.sim.values c.self.inside.lines c.self.inside.cycle c.self.inside.tick c.self.view_is
      (ap (λ (p : Place). rows_from p []) (sym c.replace-lines.ensures.value) ∙ c.in_ok-finish.ensures ∙ ap (λ (found : Option Row). row_then (Ok found) no_rows) c.in-None.is),
)

pub returns-in_err-run_cycle-in-Some-clause-ends : goal.returns-in_err-run_cycle-in-Some-clause-ends
returns-in_err-run_cycle-in-Some-clause-ends c =
    let p = err_from_is_err_and c.from_residual-in_err-run_cycle-in-Some.result c.from_residual-in_err-run_cycle-in-Some.ensures.1 in
    rw (p.1, p.2)
    (end-faults c.args.self.now c.self.inside.sim.design c.self.inside.sim.values c.self.inside.lines c.self.inside.cycle c.self.inside.tick c.self.view_is c.in_err-run_cycle-in-Some.field-0.0 c.in-Some.row
    c.run_cycle.new.sim.values (GivesFrom c.args.self.now) c.args.out.now.items c.run_cycle.new.out.items (ap (λ (p : Place). rows_from p []) (sym c.replace-lines.ensures.value) ∙ c.in_ok-finish.ensures ∙ ap (λ (found : Option Row). row_then (Ok found) no_rows) c.in-Some.is) c.in_err-run_cycle-in-Some.ensures.ends)

pub returns-in_ok-run_cycle-in-Some-clause-ends : goal.returns-in_ok-run_cycle-in-Some-clause-ends
returns-in_ok-run_cycle-in-Some-clause-ends c =
    let ends = c.in_ok-run_cycle-in-Some.ensures.ends in (
      ends.0,
      ends.1,
      end-run c.args.self.now c.self.inside.sim.design c.self.inside.sim.values c.self.inside.lines c.self.inside.cycle c.self.inside.tick c.self.view_is c.in-Some.row c.run_cycle.new.sim.values
          c.in_ok-run_cycle-in-Some.field-0 ends.0 (ap (λ (p : Place). rows_from p []) (sym c.replace-lines.ensures.value) ∙ c.in_ok-finish.ensures ∙ ap (λ (found : Option Row). row_then (Ok found) no_rows) c.in-Some.is) ends.2,
    )
