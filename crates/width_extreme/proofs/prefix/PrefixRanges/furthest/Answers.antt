use Rattle.std.proofs.Common.{◌+◌, ◌*◌, ℕ, ℤ}
use Rattle.stage_law.specs.Weights.{weights_of}
use Rattle.impulse_phase.specs.Reading.{responses_of}
use Rattle.width_extreme.specs.Furthest.{end_at}
use Rattle.width_extreme.proofs.FarEnds.{first-furthest, more-furthest}
use Rattle.width_extreme.proofs.prefix.PrefixRanges.furthest.Goals as goal

pub loop-finer-init : goal.loop-finer-init
loop-finer-init c =
    let s = c.args.self.now in
    let f : ℕ → ℤ = λ i. end_at c.args.high s.width (weights_of c.args.sum.now) (responses_of s.table) (c.args.class.residue + i * c.args.class.modulus) in
    first-furthest c.args.high f c.finer_end-best.result.finer c.finer_end-best.result.value c.finer_end-best.ensures.finer c.finer_end-best.ensures.value

pub loop-finer-preserved : goal.loop-finer-preserved
loop-finer-preserved c =
    let s = c.args.self.now in
    let f : ℕ → ℤ = λ i. end_at c.args.high s.width (weights_of c.args.sum.now) (responses_of s.table) (c.args.class.residue + i * c.args.class.modulus) in
    let best = c.loop-finer.best in
    let next = c.finer_end-next.result in
    more-furthest c.args.high f c.loop-finer.finer best.finer next.finer c.further-best.result.finer best.value next.value c.further-best.result.value c.loop-finer.invariant
    c.finer_end-next.ensures.finer c.finer_end-next.ensures.value c.further-best.ensures.chosen c.further-best.ensures.best c.further-best.ensures.next
