use Rattle.std.proofs.Common.{arith}
use Rattle.width_extreme.proofs.Indices.{classes-room}
use Rattle.width_extreme.proofs.prefix.PrefixRanges.extreme.Goals as goal

pub returns-clause-near : goal.returns-clause-near
returns-clause-near c = omega (arith, c.reach-reached.ensures.near, classes-room c.args.self.now.table)
