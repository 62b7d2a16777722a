use Rattle.std.proofs.Common.{◌≡◌, ℕ, ◌<◌, ◌≤◌, List, length, get_or, ap, arith, below_more, ℤ}
use Rattle.impulse_phase.specs.Reading.{silent, rows_of}
use Rattle.width_extreme.proofs.prefix.longest.Goals as goal

pub loop-class-preserved : goal.loop-class-preserved
loop-class-preserved c =
    let class = c.loop-class.class in
    let inside : class < length (rows_of c.args.table.now) = omega (arith, c.loop-class-test.true, c.classes-class-end.ensures) in
    let row : length c.phase.result.now ≡ length (get_or (rows_of c.args.table.now) class silent).weights = ap (λ (ws : List ℤ). length ws) c.phase.ensures in (
      below_more (λ (k : ℕ). length (get_or (rows_of c.args.table.now) k silent).weights ≤ c.max-longest.result) class
          (λ k below. let before = c.loop-class.invariant.0 k below in omega (arith, before, c.max-longest.ensures)) (omega (arith, row, c.max-longest.ensures)),
      λ most each. let own = each class inside in let before = c.loop-class.invariant.1 most each in omega (arith, own, before, row, c.max-longest.ensures),
    )
