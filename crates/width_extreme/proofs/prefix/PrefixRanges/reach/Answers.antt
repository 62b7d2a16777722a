use Rattle.std.proofs.Common.{rules}
use Rattle.std.proofs.lemmas.Int.{to_z-of_z}
use mir.Syntax.{w128}
use mir.Val.{SFits}
use Rattle.width_extreme.proofs.FarEnds.{far-end}
use Rattle.width_extreme.proofs.prefix.PrefixRanges.reach.Goals as goal

pub returns-clause-end : goal.returns-clause-end
returns-clause-end c =
    let s = c.args.self.now in
    let found = c.furthest-furthest in
    let fits : SFits w128 found.result.value = search rules in
    simp to_z-of_z (far-end s.table s.width s.longest c.args.sum.now c.args.class c.args.high found.result.finer c.index_past.result found.result.value s.lawful s.long c.requires.class
    (record { below = found.ensures.finer; is = found.ensures.value; each = found.ensures.furthest }) c.index_past.ensures.past)
