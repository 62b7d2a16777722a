use Rattle.std.proofs.Common.{Ok, Err, List, ℕ, subst, arith}
use Rattle.std.proofs.lemmas.Result.{err_from_is_err_and}
use Rattle.row_stream.specs.Giving.{Takes}
use Rattle.order_stream.specs.Stream.{GivesFrom}
use Rattle.sim_stream.proofs.StreamSteps.{advanced, advanced-fault}
use Rattle.order_stream.proofs.stream.OrderStreamRowStream.advance.Goals as goal

pub returns-in_err-taken-clause-ends : goal.returns-in_err-taken-clause-ends
returns-in_err-taken-clause-ends c =
    let p = err_from_is_err_and c.from_residual.result c.from_residual.ensures.1 in
    let ends = subst (λ (left : List ℕ). Takes (GivesFrom c.rows.self) (GivesFrom c.turn.new.self) left c.rows.out.items (Err c.in_err-taken.field-0.0) c.turn.new.out.items) c.split_at.ensures.back c.in_err-taken.ensures.ends in
    rw (p.1, p.2)
    (advanced-fault (GivesFrom c.args.self.now) (GivesFrom c.rows.self) (GivesFrom c.turn.new.self) (GivesFrom c.turn.new.self) c.args.piece.now c.rows.taken c.in_err-taken.field-0.0 c.args.out.now.items c.rows.out.items c.turn.new.out.items c.rows.invariant.ends ends)

pub rows-preserved : goal.rows-preserved
rows-preserved c =
    let ends = subst (λ (left : List ℕ). Takes (GivesFrom c.rows.self) (GivesFrom c.turn.new.self) left c.rows.out.items (Ok c.in_ok-taken.field-0) c.turn.new.out.items) c.split_at.ensures.back c.in_ok-taken.ensures.ends in
    record {
      ends = advanced (GivesFrom c.args.self.now) (GivesFrom c.rows.self) (GivesFrom c.turn.new.self) c.args.piece.now c.rows.taken c.in_ok-taken.field-0 c.args.out.now.items c.rows.out.items c.turn.new.out.items c.rows.invariant.ends ends;
      bytes = omega (arith, c.rows.invariant.bytes, c.in_ok-taken.ensures.bytes);
      bound = λ h. c.in_ok-taken.ensures.bound;
      within = omega (arith, c.in_ok-taken.ensures.within, c.split_at.ensures.back_len);
      same = λ zero. absurd (omega (arith, zero, c.in_ok-taken.ensures.some (omega (arith, c.split_at.ensures.back_len, c.rows-test.true))));
      none = λ zero. absurd (omega (arith, zero, c.in_ok-taken.ensures.some (omega (arith, c.split_at.ensures.back_len, c.rows-test.true))));
      short = λ h. omega (arith, c.turn.ensures.short, c.rows.out.ok.0, c.len.ensures, c.if-len-le-FULL.true);
    }
