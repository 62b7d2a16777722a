use Rattle.std.proofs.Common.{◌<◌, ◌+◌, ◌∙◌, ◌++◌, ℤ, List, length, map, inl, inr, ap, sym, arith}
use Rattle.csv.specs.Records.{fields_of}
use Rattle.plan_reader.specs.TapFields.{rows_taps, row_taps}
use Rattle.plan_reader.proofs.TapSteps.{row-at, rows-length, row-read, row-refused}
use Rattle.plan_reader.proofs.tap_rows.taps_of.Goals as goal

pub loop-index-preserved : goal.loop-index-preserved
loop-index-preserved c =
    let rows = map fields_of c.args.rows.now in
    let within : c.loop-index.index < length rows = omega (arith, rows-length c.args.rows.now, c.loop-index-test.true) in
    let at = row-at c.args.rows.now c.loop-index.index c.index-rows-index.result c.loop-index-test.true ∙ ap fields_of (sym c.index-rows-index.is) in
    row-read c.loop-index.taps.items c.extend_from_slice.new.self.items c.in-Ok.more.items c.loop-index.index rows (fields_of c.index-rows-index.result) (rows_taps 1 rows) within
    (ap (row_taps (c.loop-index.index + 1)) at ∙ c.in-Ok.ensures) (c.in_ok-extend_from_slice-in-Ok.ensures.items ∙ ap (λ (xs : List ℤ). c.loop-index.taps.items ++ xs) c.deref.ensures.value) c.loop-index.invariant

pub returns-in-Err : goal.returns-in-Err
returns-in-Err c =
    let rows = map fields_of c.args.rows.now in
    let within : c.loop-index.index < length rows = omega (arith, rows-length c.args.rows.now, c.loop-index-test.true) in
    let at = row-at c.args.rows.now c.loop-index.index c.index-rows-index.result c.loop-index-test.true ∙ ap fields_of (sym c.index-rows-index.is) in
    elim c.in-Err.ensures [
      | inl none ↦ inl none
      | inr is ↦ inr (row-refused c.loop-index.taps.items c.loop-index.index rows (fields_of c.index-rows-index.result) c.in-Err.fault (rows_taps 1 rows) within (ap (row_taps (c.loop-index.index + 1)) at ∙ is) c.loop-index.invariant)
    ]
