use Rattle.clock_sim.proofs.Tables.{table_next}
use Rattle.clock_sim.proofs.shape_table.table_of.Goals as goal

pub loop-turn-preserved : goal.loop-turn-preserved
loop-turn-preserved c =
    table_next _ c.args.count c.loop-turn.widths.items c.loop-turn.signs.items c.args.design.now.signals.items c.as_slice-signals.result.now c.loop-turn.turn
    c.requires.numbered c.as_slice-signals.ensures.value c.loop-turn-test.true c.loop-turn.invariant
