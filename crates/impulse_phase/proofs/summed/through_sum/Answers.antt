use Rattle.std.proofs.Common.{◌≡◌, ℕ, ◌+◌, ◌<◌, List, ℤ, pos, ◌-ℤ◌, length, map, subst, refl, sym, ◌∙◌, ap, arith}
use Rattle.std.proofs.lemmas.Int.{ints}
use Rattle.mr_values.specs.Sequence.{filter, ones}
use Rattle.running_sums.specs.Rows.{full, summed_row}
use Rattle.impulse_phase.specs.declared.table.Row.{Row}
use Rattle.impulse_phase.specs.Response.{Responses, through_filter, Cycle}
use Rattle.impulse_phase.specs.Reading.{as_response, rows_of, responses_of}
use Rattle.impulse_phase.proofs.Steps.{filter-keeps}
use Rattle.impulse_phase.proofs.Tables.{AreRows, no_rows, rows_more, passes, count_of}
use Rattle.impulse_phase.proofs.MovingRows.{full_table, full_within, rows_within, sum_here, last_sums, weights_of, weights_here, cover_room, cover_next, sum_room, sum_next}
use Rattle.impulse_phase.proofs.summed.through_sum.Goals as goal

pub first_row-requires-clause-table : goal.first_row-requires-clause-table
first_row-requires-clause-table c = full_table c.args.table.now c.in_ok-full.full c.requires.table c.in_ok-full.ensures

pub first_row-requires-clause-room : goal.first_row-requires-clause-room
first_row-requires-clause-room c = (1, full_within c.args.table.now c.in_ok-full.full c.in_ok-full.ensures, omega (arith, c.requires.short))

pub first_row-requires-2-clause-room : goal.first_row-requires-2-clause-room
first_row-requires-2-clause-room c = (c.requires.room.0, rows_within c.args.table.now c.requires.room.0 c.requires.room.1, c.requires.room.2)

pub loop-index-init : goal.loop-index-init
loop-index-init c =
    let table = c.args.table.now in
    let width = c.args.width in
    let f = through_filter (ones width) (responses_of table) in
    let some : 0 < length (rows_of table) = c.requires.table.law.has_class in
    let row = sum_here table width 0 c.index.result.now c.in_ok-first_row.field-0.items some c.index.ensures c.in_ok-first_row.ensures in
    let none : AreRows f 0 (map as_response c.new-rows.result.items) = subst (λ (rows : List Row). AreRows f 0 (map as_response rows)) (sym c.new-rows.ensures.items) (no_rows f) in
    record {
      rows = subst (λ (rows : List Row). AreRows f 1 (map as_response rows)) (sym c.in_ok-push.ensures.items) (rows_more f 0 c.new-rows.result.items _ none row);
      cover = c.in_ok-cover.ensures ∙ ap (λ (g : Responses). (summed_row width g (pos 0)).weights) c.in_ok-full.ensures.told;
      later = omega arith;
    }

pub moved_cover-requires : goal.moved_cover-requires
moved_cover-requires c =
    let table = c.args.table.now in
    let turn = c.turn_at-turn.result in
    let told = c.turn_at-turn.ensures in
    let old = c.index-in-loop-index.result.now in
    let new = c.index-in-loop-index-2.result.now in
    let below : c.loop-index.index < length (rows_of table) = omega (arith, c.loop-index-test.true, c.loop-index.auto.index-end, c.len-index-end.ensures, count_of table, table.rows.ok.0) in
    let less : c.len.result ≡ length old.weights.items = omega (arith, c.len.ensures, old.weights.ok.0) in
    let more : c.len-in-loop-index.result ≡ length new.weights.items = omega (arith, c.len-in-loop-index.ensures, new.weights.ok.0) in
    cover_room table c.args.width c.loop-index.index turn.ahead turn.class turn.back c.deref.result.now c.len.result c.len-in-loop-index.result c.requires.table c.requires.some c.requires.short told
    (c.deref.ensures.value ∙ c.loop-index.invariant.cover) (less ∙ ap length (weights_of table turn.class old told.below c.index-in-loop-index.ensures))
    (more ∙ ap length (weights_here table c.loop-index.index new below c.index-in-loop-index-2.ensures))

pub moved_row-requires : goal.moved_row-requires
moved_row-requires c =
    let table = c.args.table.now in
    let turn = c.turn_at-turn.result in
    let told = c.turn_at-turn.ensures in
    let old = c.index-in-loop-index.result.now in
    let new = c.index-in-loop-index-2.result.now in
    let below : c.loop-index.index < length (rows_of table) = omega (arith, c.loop-index-test.true, c.loop-index.auto.index-end, c.len-index-end.ensures, count_of table, table.rows.ok.0) in
    record {
      room = sum_room table c.args.width c.loop-index.index turn.ahead turn.class turn.back c.requires.room.0 c.deref-in-loop-index.result.now c.deref-in-loop-index-2.result.now c.deref-in-loop-index-3.result.now
          c.requires.table c.requires.some (rows_within table c.requires.room.0 c.requires.room.1) c.requires.room.2 told
          (c.deref-in-loop-index.ensures.value ∙ last_sums table c.args.width c.loop-index.index c.loop-index.rows.items c.index-in-loop-index-3.result.now c.loop-index.invariant.later c.loop-index.invariant.rows c.index-in-loop-index-3.ensures)
          (c.deref-in-loop-index-2.ensures.value ∙ weights_of table turn.class old told.below c.index-in-loop-index.ensures)
          (c.deref-in-loop-index-3.ensures.value ∙ weights_here table c.loop-index.index new below c.index-in-loop-index-2.ensures);
    }

pub loop-index-preserved : goal.loop-index-preserved
loop-index-preserved c =
    let table = c.args.table.now in
    let width = c.args.width in
    let index = c.loop-index.index in
    let f = through_filter (ones width) (responses_of table) in
    let turn = c.turn_at-turn.result in
    let told = c.turn_at-turn.ensures in
    let old = c.index-in-loop-index.result.now in
    let new = c.index-in-loop-index-2.result.now in
    let below : index < length (rows_of table) = omega (arith, c.loop-index-test.true, c.loop-index.auto.index-end, c.len-index-end.ensures, count_of table, table.rows.ok.0) in
    let less : c.len.result ≡ length old.weights.items = omega (arith, c.len.ensures, old.weights.ok.0) in
    let more : c.len-in-loop-index.result ≡ length new.weights.items = omega (arith, c.len-in-loop-index.ensures, new.weights.ok.0) in
    let cover = cover_next table width index turn.ahead turn.class turn.back c.deref.result.now c.len.result c.len-in-loop-index.result c.in_ok-cover-2.cover.items c.requires.table c.requires.some told
    (c.deref.ensures.value ∙ c.loop-index.invariant.cover) (less ∙ ap length (weights_of table turn.class old told.below c.index-in-loop-index.ensures))
    (more ∙ ap length (weights_here table index new below c.index-in-loop-index-2.ensures)) c.in_ok-cover-2.ensures in
    let long : c.len-in-loop-index-2.result ≡ length c.in_ok-cover-2.cover.items = omega (arith, c.len-in-loop-index-2.ensures, c.in_ok-cover-2.cover.ok.0) in
    let weights = sum_next table width index turn.ahead turn.class turn.back c.deref-in-loop-index.result.now c.deref-in-loop-index-2.result.now c.deref-in-loop-index-3.result.now c.in_ok-cover-2.cover.items
    c.in_ok-weights.weights.items c.len-in-loop-index-2.result c.requires.table told
    (c.deref-in-loop-index.ensures.value ∙ last_sums table width index c.loop-index.rows.items c.index-in-loop-index-3.result.now c.loop-index.invariant.later c.loop-index.invariant.rows c.index-in-loop-index-3.ensures)
    (c.deref-in-loop-index-2.ensures.value ∙ weights_of table turn.class old told.below c.index-in-loop-index.ensures)
    (c.deref-in-loop-index-3.ensures.value ∙ weights_here table index new below c.index-in-loop-index-2.ensures) cover long c.in_ok-weights.ensures in
    let row = sum_here table width index c.index-in-loop-index-4.result.now c.in_ok-weights.weights.items below c.index-in-loop-index-4.ensures weights in
    let here : pos index ≡ pos (index + 1) -ℤ pos 1 = omega (arith, ints) in
    record {
      rows = subst (λ (rows : List Row). AreRows f (index + 1) (map as_response rows)) (sym c.in_ok-push-2.ensures.items) (rows_more f index c.loop-index.rows.items _ c.loop-index.invariant.rows row);
      cover = cover ∙ ap (λ (z : ℤ). (summed_row width (full (responses_of table)) z).weights) here;
      later = omega arith;
    }

pub returns : goal.returns
returns c =
    let table = c.args.table.now in
    let taps = ones c.args.width in
    let end : c.loop-index.index ≡ length (rows_of table) = omega (arith, c.loop-index-test.false, c.loop-index.auto.index-end, c.len-index-end.ensures, count_of table, table.rows.ok.0) in
    passes (through_filter taps) (λ (cycle : Cycle). cycle) table _ (λ x. filter taps (c.requires.table.transform x))
    (filter-keeps taps c.requires.table.transform (responses_of table) (length (rows_of table)) table.step c.requires.table.law)
    (subst (λ (n : ℕ). AreRows (through_filter taps (responses_of table)) n (map as_response c.loop-index.rows.items)) end c.loop-index.invariant.rows) refl
