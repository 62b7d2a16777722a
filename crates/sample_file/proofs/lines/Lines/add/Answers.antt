use Rattle.std.proofs.Common.{◌+◌, length-set, set, length-take, take, ap, arith}
use Rattle.std.proofs.lemmas.Bool.{ne_eqb}
use Rattle.sample_file.proofs.LineSteps.{rows-ended, rows-full, on-ok, bytes-ended, bytes-more}
use Rattle.sample_file.proofs.lines.Lines.add.Goals as goal

pub returns-then-byte-eq10-clause-rows : goal.returns-then-byte-eq10-clause-rows
returns-then-byte-eq10-clause-rows c = λ rest.
    rows-ended c.args.self.now c.self.inside.fields c.self.inside.ended (take c.self.inside.held c.self.inside.room.items) (take c.self.inside.held c.deref.result.now) c.self.inside.fault c.args.byte c.line_row-answer.result rest
    c.self.view_is c.requires c.if-byte-eq10.true c.self.invariant.one (ap (take c.self.inside.held) c.deref.ensures.value) c.line_row-answer.ensures

pub returns-then-self-ge-ROOM-clause-rows : goal.returns-then-self-ge-ROOM-clause-rows
returns-then-self-ge-ROOM-clause-rows c = λ rest.
    rows-full c.args.self.now c.self.inside.fields c.self.inside.ended (take c.self.inside.held c.self.inside.room.items) c.self.inside.fault c.args.byte rest c.self.view_is c.requires (ne_eqb c.args.byte 10 c.if-byte-eq10.false)
    c.self.invariant.one (omega (arith, length-take c.self.inside.held c.self.inside.room.items, c.self.invariant.size, c.if-self-ge-ROOM.true)) c.if-self-ge-LINES.false

pub returns-then-byte-eq10-clause-bytes : goal.returns-then-byte-eq10-clause-bytes
returns-then-byte-eq10-clause-bytes c =
    on-ok c.line_row-answer.result _
    (bytes-ended c.args.self.now c.self.inside.fields c.self.inside.ended (take c.self.inside.held c.self.inside.room.items) c.self.inside.fault c.self.view_is
    (omega (arith, length-take c.self.inside.held c.self.inside.room.items, c.self.invariant.within)))

pub returns-clause-bytes : goal.returns-clause-bytes
returns-clause-bytes c =
    bytes-more c.args.self.now c.self.inside.fields c.self.inside.ended (take c.self.inside.held c.self.inside.room.items) (take (c.self.inside.held + 1) (set c.self.inside.room.items c.self.inside.held c.args.byte))
    c.self.inside.fault c.self.view_is
    (omega (
      arith,
      length-take c.self.inside.held c.self.inside.room.items,
      length-take (c.self.inside.held + 1) (set c.self.inside.room.items c.self.inside.held c.args.byte),
      length-set c.self.inside.room.items c.self.inside.held c.args.byte,
      c.self.invariant.size,
      c.if-self-ge-ROOM.false,
    ))
