use Rattle.std.proofs.Common.{◌≡◌, ap, arith}
use Rattle.chain_run.specs.Stream.{Midst, GivesFrom, bytes_before}
use Rattle.chain_run.proofs.CallSteps.{some-not-none}
use Rattle.chain_run.proofs.GivingSteps.{takes-none, takes-behind}
use Rattle.chain_run.proofs.stream.ChainStream.turn.Goals as goal

pub returns-in_err-run_due-clause-short : goal.returns-in_err-run_due-clause-short
returns-in_err-run_due-clause-short c = omega (arith, c.run_due.ensures.short 65042 (omega arith) (omega (arith, c.requires.room)))

pub returns-then-not-branch-clause-ends : goal.returns-then-not-branch-clause-ends
returns-then-not-branch-clause-ends c =
    let ends = c.in_ok-run_due.ensures.ends in
    takes-none (GivesFrom c.args.self.now) (GivesFrom c.run_due.new.self) c.args.piece.now c.args.out.now.items c.run_due.new.out.items ends.0 ends.1 ends.2.gives

pub returns-then-not-branch-clause-same : goal.returns-then-not-branch-clause-same
returns-then-not-branch-clause-same c = λ none. ap (λ (m : Midst). bytes_before m) c.run_due.ensures.stays

pub returns-then-not-branch-clause-short : goal.returns-then-not-branch-clause-short
returns-then-not-branch-clause-short c = omega (arith, c.run_due.ensures.short 65042 (omega arith) (omega (arith, c.requires.room)))

pub returns-clause-ends : goal.returns-clause-ends
returns-clause-ends c =
    let ends = c.in_ok-run_due.ensures.ends in
    takes-behind (GivesFrom c.args.self.now) (GivesFrom c.run_due.new.self) (GivesFrom c.take_row.new.self) c.args.piece.now c.args.out.now.items c.run_due.new.out.items c.take_row.new.out.items ends.0 c.take_row.result ends.1 ends.2.gives
    c.take_row.ensures.ends

pub returns-clause-same : goal.returns-clause-same
returns-clause-same c = some-not-none c.take_row.result (bytes_before c.take_row.new.self ≡ bytes_before c.args.self.now) (c.take_row.ensures.some c.requires.some)

pub returns-clause-short : goal.returns-clause-short
returns-clause-short c = omega (arith, c.take_row.ensures.short, c.run_due.ensures.short 65042 (omega arith) (omega (arith, c.requires.room)))
