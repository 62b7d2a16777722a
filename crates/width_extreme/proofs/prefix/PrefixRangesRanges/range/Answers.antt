use Rattle.std.proofs.Common.{◌≡◌, ◌∙◌, ◌+◌, ◌-◌, ◌*◌, ◌/◌, ◌%◌, ◌≤◌, ℕ, length, ap, arith}
use Rattle.stage_law.specs.Weights.{weights_of}
use Rattle.plan_check.specs.Costs.{gcd}
use Rattle.impulse_phase.specs.Reading.{rows_of}
use Rattle.impulse_phase.proofs.Prefix.{common-positive}
use Rattle.width_extreme.proofs.Finer.{covers-first, covers-more, covers-all}
use Rattle.width_extreme.proofs.Lawful.{rows-some}
use Rattle.width_extreme.proofs.prefix.PrefixRangesRanges.range.Goals as goal

pub loop-finer-init : goal.loop-finer-init
loop-finer-init c =
    let s = c.args.self.now in
    let sum = c.args.sum.now in
    let index = c.from-residue.result % c.classes-classes.result in
    let is : index ≡ c.args.class.residue % length (rows_of s.table) = ap (λ (n : ℕ). n % c.classes-classes.result) c.from-residue.ensures ∙ ap (λ (n : ℕ). c.args.class.residue % n) c.classes-classes.ensures in
    covers-first s.table s.width (weights_of sum) c.args.class index c.ends-range.result.lo c.ends-range.result.hi s.lawful is
    c.ends-range.ensures.low
    c.ends-range.ensures.high

pub loop-finer-preserved : goal.loop-finer-preserved
loop-finer-preserved c =
    let s = c.args.self.now in
    let sum = c.args.sum.now in
    let finer = c.loop-finer.finer in
    let k = c.from-residue.result + finer * c.from-modulus.result in
    let index = k % c.classes-classes.result in
    let at : k ≡ c.args.class.residue + finer * c.args.class.modulus = ap (λ (n : ℕ). n + finer * c.from-modulus.result) c.from-residue.ensures ∙ ap (λ (n : ℕ). c.args.class.residue + finer * n) c.from-modulus.ensures in
    let is : index ≡ (c.args.class.residue + finer * c.args.class.modulus) % length (rows_of s.table) =
    ap (λ (n : ℕ). n % c.classes-classes.result) at ∙ ap (λ (n : ℕ). (c.args.class.residue + finer * c.args.class.modulus) % n) c.classes-classes.ensures in
    covers-more s.table s.width (weights_of sum) c.args.class finer index c.loop-finer.range.lo c.loop-finer.range.hi c.wider-range.result.lo c.wider-range.result.hi c.ends.result.lo c.ends.result.hi
    s.lawful (omega (arith, c.loop-finer.auto.finer)) is c.loop-finer.invariant
    c.ends.ensures.low
    c.ends.ensures.high
    c.wider-range.ensures.low c.wider-range.ensures.high

pub returns : goal.returns
returns c =
    let s = c.args.self.now in
    let classes = c.classes-classes.result in
    let many : classes / c.gcd.result ≡ length (rows_of s.table) / gcd (length (rows_of s.table)) c.args.class.modulus =
    ap (λ (n : ℕ). classes / n) c.gcd.ensures.value
    ∙ ap (λ (n : ℕ). classes / gcd classes n) c.from-modulus.ensures
    ∙ ap (λ (n : ℕ). n / gcd n c.args.class.modulus) c.classes-classes.ensures in
    let one : 1 ≤ classes / c.gcd.result = omega (arith, many, common-positive (length (rows_of s.table)) c.args.class.modulus (rows-some s.table)) in
    covers-all s.table s.width (weights_of c.args.sum.now) c.args.class (classes / c.gcd.result) (c.loop-finer.finer - 1) c.loop-finer.range s.lawful c.requires.class many
    (omega (arith, one, c.loop-finer-test.false, c.loop-finer.auto.finer, c.loop-finer.auto.finer-end)) c.loop-finer.invariant
