use Rattle.std.proofs.Common.{◌*◌, ◌^◌, sym, subst}
use Rattle.mr_values.specs.Sequence.{ones, filter_times}
use Rattle.impulse_phase.specs.Gain.{HasGain}
use Rattle.impulse_phase.specs.Response.{Responses, through_filters, Cycle}
use Rattle.impulse_phase.specs.Reading.{responses_of, cycle_of}
use Rattle.impulse_phase.proofs.Gain.{filters-gain}
use Rattle.impulse_phase.proofs.Steps.{filters-keep}
use Rattle.impulse_phase.proofs.Tables.{table_after, sums_room}
use Rattle.impulse_phase.proofs.table.Response.through_sums.Goals as goal

pub through_sum-requires-clause-table : goal.through_sum-requires-clause-table
through_sum-requires-clause-table c =
    let stage = c.loop-stage.stage in
    let taps = ones c.args.width in
    let h = c.requires.table in
    table_after (through_filters stage taps) (λ (cycle : Cycle). cycle) c.args.self c.loop-stage.response (λ x. filter_times stage taps (h.transform x))
    (filters-keep stage taps h.transform (responses_of c.args.self) (cycle_of c.args.self).classes (cycle_of c.args.self).step h.law) c.loop-stage.invariant

pub through_sum-requires-clause-room : goal.through_sum-requires-clause-room
through_sum-requires-clause-room c =
    let stage = c.loop-stage.stage in
    let width = c.args.width in
    let gain = c.requires.room.0 in
    let most = width ^ stage * gain in
    let has : HasGain (responses_of c.loop-stage.response) most =
    subst (λ (f : Responses). HasGain f most) (sym c.loop-stage.invariant.told) (filters-gain stage width (responses_of c.args.self) gain c.requires.room.1) in
    (most, has, sums_room width c.args.stages stage gain c.requires.some c.loop-stage-test.true c.requires.room.2)
