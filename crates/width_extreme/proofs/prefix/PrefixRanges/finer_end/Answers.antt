use Rattle.std.proofs.Common.{rules, ◌≡◌, ◌∙◌, ◌+◌, ◌*◌, ◌%◌, ℕ, Bool, length, sym, ap}
use Rattle.std.proofs.lemmas.Int.{to_z-of_z}
use mir.Syntax.{w128}
use mir.Val.{SFits}
use Rattle.stage_law.specs.Weights.{weights_of}
use Rattle.impulse_phase.specs.Reading.{rows_of, responses_of}
use Rattle.width_extreme.specs.Furthest.{end_at}
use Rattle.width_extreme.proofs.Finer.{low-here, high-here}
use Rattle.width_extreme.proofs.prefix.PrefixRanges.finer_end.Goals as goal

pub returns-then-high-clause-value : goal.returns-then-high-clause-value
returns-then-high-clause-value c =
    let s = c.args.self.now in
    let sum = c.args.sum.now in
    let k = c.args.class.residue + c.args.finer * c.args.class.modulus in
    let index = c.first_of.result % c.classes.result in
    let is : index ≡ k % length (rows_of s.table) = ap (λ (n : ℕ). n % c.classes.result) c.first_of.ensures ∙ ap (λ (n : ℕ). k % n) c.classes.ensures in
    let fits : SFits w128 c.ends-range.result.hi = search rules in
    let here = c.ends-range.ensures.high in
    to_z-of_z w128 c.ends-range.result.hi fits ∙ high-here s.table s.width (weights_of sum) s.lawful k index c.ends-range.result.hi is here
    ∙ ap (λ (b : Bool). end_at b s.width (weights_of sum) (responses_of s.table) k) (sym c.if-high.true)

pub returns-else-high-clause-value : goal.returns-else-high-clause-value
returns-else-high-clause-value c =
    let s = c.args.self.now in
    let sum = c.args.sum.now in
    let k = c.args.class.residue + c.args.finer * c.args.class.modulus in
    let index = c.first_of.result % c.classes.result in
    let is : index ≡ k % length (rows_of s.table) = ap (λ (n : ℕ). n % c.classes.result) c.first_of.ensures ∙ ap (λ (n : ℕ). k % n) c.classes.ensures in
    let fits : SFits w128 c.ends-range.result.lo = search rules in
    let here = c.ends-range.ensures.low in
    to_z-of_z w128 c.ends-range.result.lo fits ∙ low-here s.table s.width (weights_of sum) s.lawful k index c.ends-range.result.lo is here
    ∙ ap (λ (b : Bool). end_at b s.width (weights_of sum) (responses_of s.table) k) (sym c.if-high.false)
