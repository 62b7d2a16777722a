use Rattle.std.proofs.Common.{◌≡◌, ℕ, ◌*◌, ◌/◌, ◌<◌, length, map, ap, ◌∙◌, subst, arith}
use Rattle.std.proofs.Math.Nat.{div-le_self}
use Rattle.std.proofs.lemmas.List.{length-map}
use Rattle.mr_values.specs.Sequence.{down}
use Rattle.impulse_phase.specs.Response.{through_down, cycle_down}
use Rattle.plan_check.specs.Costs.{gcd}
use Rattle.impulse_phase.specs.Reading.{as_response, rows_of, responses_of, cycle_of}
use Rattle.impulse_phase.proofs.Prefix.{down-turns, common-positive}
use Rattle.impulse_phase.proofs.Tables.{AreRows, passes, count_of}
use Rattle.impulse_phase.proofs.table.Response.through_down.Goals as goal

pub invariant_of-result : goal.invariant_of-result
invariant_of-result c =
    let table = c.args.self.now in
    let factor = c.args.factor in
    let classes = c.len-classes.result in
    let rows = c.loop-index.rows in
    let many : classes ≡ length (rows_of table) = omega (arith, c.len-classes.ensures, count_of table, table.rows.ok.0) in
    let some : 0 < classes = omega (arith, c.len-classes.ensures, table.some) in
    let parts = ap (λ (n : ℕ). classes / n) c.gcd-common.ensures.value in
    let turns : factor / c.gcd-common.result * table.step ≡ factor / gcd (length (rows_of table)) factor * table.step =
    ap (λ (n : ℕ). factor / n * table.step) (c.gcd-common.ensures.value ∙ ap (λ (n : ℕ). gcd n factor) many) in
    let made : rows.len ≡ classes / gcd classes factor =
    omega (arith, c.loop-index-test.false, c.loop-index.auto.index-end, c.loop-index.invariant.count_is, length-map rows.items as_response, rows.ok.0, parts) in
    record {
      some = omega (arith, made, common-positive classes factor some);
      few = omega (arith, made, div-le_self classes (gcd classes factor), c.len-classes.ensures, table.few);
      soon = omega (arith, turns, c.requires.soon);
    }

pub returns : goal.returns
returns c =
    let table = c.args.self.now in
    let factor = c.args.factor in
    let classes = c.len-classes.result in
    let many : classes ≡ length (rows_of table) = omega (arith, c.len-classes.ensures, count_of table, table.rows.ok.0) in
    let parts : classes / c.gcd-common.result ≡ length (rows_of table) / gcd (length (rows_of table)) factor =
    ap (λ (n : ℕ). classes / n) c.gcd-common.ensures.value ∙ ap (λ (n : ℕ). n / gcd n factor) many in
    let turns : factor / c.gcd-common.result * table.step ≡ factor / gcd (length (rows_of table)) factor * table.step =
    ap (λ (n : ℕ). factor / n * table.step) (c.gcd-common.ensures.value ∙ ap (λ (n : ℕ). gcd n factor) many) in
    let end : c.loop-index.index ≡ length (rows_of table) / gcd (length (rows_of table)) factor = omega (arith, c.loop-index-test.false, c.loop-index.auto.index-end, parts) in
    passes (through_down factor) (cycle_down factor) table _ (λ x. down factor (c.requires.table.transform x))
    (down-turns factor c.requires.table.transform (responses_of table) (cycle_of table) c.requires.some c.requires.table.law)
    (subst (λ (n : ℕ). AreRows (through_down factor (responses_of table)) n (map as_response c.loop-index.rows.items)) end c.loop-index.invariant) turns
