use Rattle.std.proofs.Common.{Err, arith}
use Rattle.std.proofs.lemmas.Result.{err_from_is_err_and}
use Rattle.chain_run.specs.Stream.{GivesFrom, ticks_left}
use Rattle.chain_run.proofs.CallSteps.{less-left}
use Rattle.chain_run.proofs.GivingSteps.{closes-behind, at-end}
use Rattle.chain_run.proofs.StreamSteps.{closes-fault}
use Rattle.chain_run.proofs.stream.ChainStreamRowStream.finish.Goals as goal

pub returns-in_err-run_due-clause-short : goal.returns-in_err-run_due-clause-short
returns-in_err-run_due-clause-short c = omega (arith, c.run_due.ensures.short 65042 (omega arith) (omega (arith, c.requires.room)))

pub returns-then-not-branch-clause-ends : goal.returns-then-not-branch-clause-ends
returns-then-not-branch-clause-ends c =
    let ends = c.in_ok-run_due.ensures.ends in (ends.0, ends.1, at-end (GivesFrom c.args.self.now) (GivesFrom c.run_due.new.self) ends.0 ends.2.gives)

pub returns-then-not-branch-clause-short : goal.returns-then-not-branch-clause-short
returns-then-not-branch-clause-short c = omega (arith, c.run_due.ensures.short 65042 (omega arith) (omega (arith, c.requires.room)))

pub returns-in_err-close_row-clause-ends : goal.returns-in_err-close_row-clause-ends
returns-in_err-close_row-clause-ends c =
    let ends = c.in_ok-run_due.ensures.ends in
    let fault = c.in_err-close_row.field-0.0 in
    let p = err_from_is_err_and c.from_residual-in_err-close_row.result c.from_residual-in_err-close_row.ensures.1 in
    rw (p.1, p.2)
    (closes-behind (GivesFrom c.args.self.now) (GivesFrom c.run_due.new.self) (GivesFrom c.close_row.new.self) c.args.out.now.items c.run_due.new.out.items c.close_row.new.out.items ends.0 (Err fault) ends.1
    (at-end (GivesFrom c.args.self.now) (GivesFrom c.run_due.new.self) ends.0 ends.2.gives)
    (closes-fault c.run_due.new.self c.close_row.new.self fault c.run_due.new.out.items c.close_row.new.out.items c.in_err-close_row.ensures.ends))

pub returns-in_err-close_row-clause-short : goal.returns-in_err-close_row-clause-short
returns-in_err-close_row-clause-short c = omega (arith, c.close_row.ensures.short, c.run_due.ensures.short 65042 (omega arith) (omega (arith, c.requires.room)))

pub returns-clause-ends : goal.returns-clause-ends
returns-clause-ends c =
    let ends = c.in_ok-run_due.ensures.ends in
    let row = c.in_ok-close_row.ensures.ends in
    closes-behind (GivesFrom c.args.self.now) (GivesFrom c.run_due.new.self) (GivesFrom c.run_end.new.self) c.args.out.now.items c.run_due.new.out.items c.run_end.new.out.items ends.0 c.run_end.result ends.1
    (at-end (GivesFrom c.args.self.now) (GivesFrom c.run_due.new.self) ends.0 ends.2.gives)
    (closes-behind (GivesFrom c.run_due.new.self) (GivesFrom c.close_row.new.self) (GivesFrom c.run_end.new.self) c.run_due.new.out.items c.close_row.new.out.items c.run_end.new.out.items row.0 c.run_end.result row.1 row.2 c.run_end.ensures.ends)

pub returns-clause-short : goal.returns-clause-short
returns-clause-short c =
    let due = c.run_due.ensures.short 65042 (omega arith) (omega (arith, c.requires.room)) in
    omega (arith, c.run_end.ensures.short 65084 (omega arith) (omega (arith, c.close_row.ensures.short, due)))

pub returns-clause-less : goal.returns-clause-less
returns-clause-less c =
    less-left c.run_end.result c.args.out.now.items c.run_due.new.out.items c.close_row.new.out.items c.run_end.new.out.items (ticks_left c.args.self.now) (ticks_left c.run_due.new.self) (ticks_left c.close_row.new.self)
    (ticks_left c.run_end.new.self) c.requires.room c.run_due.ensures.left c.in_ok-run_due.ensures.idle c.in_ok-close_row.ensures.left c.in_ok-close_row.ensures.none c.run_end.ensures.left c.run_end.ensures.none c.run_end.ensures.full
