use Rattle.std.proofs.Common.{◌^◌, Ok, Err, List, ℕ, subst, arith}
use Rattle.std.proofs.lemmas.Result.{err_from_is_err_and}
use Rattle.row_stream.specs.Giving.{Takes}
use Rattle.chain_run.specs.Stream.{GivesFrom, bytes_before}
use Rattle.row_stream.proofs.TurnSteps.{bound-kept, same-kept}
use Rattle.chain_run.proofs.GivingSteps.{takes-more, takes-fault}
use Rattle.chain_run.proofs.stream.ChainStreamRowStream.advance.Goals as goal

pub returns-in_err-taken-clause-ends : goal.returns-in_err-taken-clause-ends
returns-in_err-taken-clause-ends c =
    let p = err_from_is_err_and c.from_residual.result c.from_residual.ensures.1 in
    let ends = subst (λ (left : List ℕ). Takes (GivesFrom c.rows.self) (GivesFrom c.turn.new.self) left c.rows.out.items (Err c.in_err-taken.field-0.0) c.turn.new.out.items) c.split_at.ensures.back c.in_err-taken.ensures.ends in
    rw (p.1, p.2)
    (takes-fault (GivesFrom c.args.self.now) (GivesFrom c.rows.self) (GivesFrom c.turn.new.self) (GivesFrom c.turn.new.self) c.args.piece.now c.rows.taken c.in_err-taken.field-0.0 c.args.out.now.items c.rows.out.items c.turn.new.out.items
    c.rows.invariant.ends ends)

pub rows-preserved : goal.rows-preserved
rows-preserved c =
    let ends = subst (λ (left : List ℕ). Takes (GivesFrom c.rows.self) (GivesFrom c.turn.new.self) left c.rows.out.items (Ok c.in_ok-taken.field-0) c.turn.new.out.items) c.split_at.ensures.back c.in_ok-taken.ensures.ends in
    record {
      ends = takes-more (GivesFrom c.args.self.now) (GivesFrom c.rows.self) (GivesFrom c.turn.new.self) c.args.piece.now c.rows.taken c.in_ok-taken.field-0 c.args.out.now.items c.rows.out.items c.turn.new.out.items c.rows.invariant.ends ends;
      within = omega (arith, c.in_ok-taken.ensures.within, c.split_at.ensures.back_len);
      bytes = omega (arith, c.rows.invariant.bytes, c.in_ok-taken.ensures.bytes);
      bound = bound-kept (2 ^ 45) c.rows.taken c.in_ok-taken.field-0 (bytes_before c.rows.self) (bytes_before c.turn.new.self) c.rows.invariant.bound c.in_ok-taken.ensures.bound c.in_ok-taken.ensures.same;
      same = same-kept c.rows.taken c.in_ok-taken.field-0 (bytes_before c.args.self.now) (bytes_before c.rows.self) (bytes_before c.turn.new.self) c.rows.invariant.same c.in_ok-taken.ensures.same;
      some = omega (arith, c.rows.invariant.some, c.in_ok-taken.ensures.some);
      none = λ e. absurd (omega (arith, e, c.rows.invariant.some, c.in_ok-taken.ensures.some));
      unchanged = λ e. absurd (omega (arith, e, c.rows.invariant.some, c.in_ok-taken.ensures.some));
      short = c.turn.ensures.short;
    }
