use Rattle.std.proofs.Common.{◌≡◌, ℕ, ◌*◌, length, map, ap, subst, refl, arith}
use Rattle.mr_values.specs.Sequence.{up}
use Rattle.impulse_phase.specs.Response.{through_up, cycle_up}
use Rattle.impulse_phase.specs.Reading.{as_response, rows_of, responses_of}
use Rattle.impulse_phase.proofs.Steps.{up-keeps}
use Rattle.impulse_phase.proofs.Tables.{AreRows, passes, count_of}
use Rattle.impulse_phase.proofs.table.Response.through_up.Goals as goal

pub returns : goal.returns
returns c =
    let table = c.args.self.now in
    let factor = c.args.factor in
    let many : c.len.result ≡ length (rows_of table) = omega (arith, c.len.ensures, count_of table, table.rows.ok.0) in
    let end : c.loop-index.index ≡ length (rows_of table) * factor = omega (arith, c.loop-index-test.false, c.loop-index.auto.index-end, ap (λ (n : ℕ). n * factor) many) in
    passes (through_up factor) (cycle_up factor) table _ (λ x. up factor (c.requires.table.transform x))
    (up-keeps factor c.requires.table.transform (responses_of table) (length (rows_of table)) table.step c.requires.some c.requires.table.law)
    (subst (λ (n : ℕ). AreRows (through_up factor (responses_of table)) n (map as_response c.loop-index.rows.items)) end c.loop-index.invariant) refl
