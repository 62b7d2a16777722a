use Rattle.filter_text.proofs.ByNumber.{written_turn, all_written}
use Rattle.filter_text.proofs.extremes.by_number.Goals as goal

pub loop-one-preserved : goal.loop-one-preserved
loop-one-preserved c =
    written_turn c.args.told.now c.args.names c.loop-one.one-index c.loop-one.extremes.items _ c.requires c.loop-one-test.true c.loop-one.invariant

pub returns : goal.returns
returns c = all_written c.args.told.now c.args.names c.loop-one.one-index c.loop-one.extremes.items c.loop-one-test.false c.loop-one.invariant
