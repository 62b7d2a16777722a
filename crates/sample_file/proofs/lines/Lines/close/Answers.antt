use Rattle.std.proofs.Common.{[], length-take, take, arith}
use Rattle.sample_file.proofs.CloseSteps.{rows-closed}
use Rattle.sample_file.proofs.lines.Lines.close.Goals as goal

pub returns-in-None-2-clause-rows : goal.returns-in-None-2-clause-rows
returns-in-None-2-clause-rows c =
    rows-closed c.args.self.now c.put.new.self c.self.inside.fields c.self.inside.ended (take c.self.inside.held c.self.inside.room.items) c.self.inside.fault c.put.result c.self.view_is c.self.invariant.one
    (omega (arith, length-take c.self.inside.held c.self.inside.room.items, c.self.invariant.size, c.self.invariant.within, c.if-self-eq0.false))
    (c.put.ensures.rows []) c.put.ensures.none c.put.ensures.empty
