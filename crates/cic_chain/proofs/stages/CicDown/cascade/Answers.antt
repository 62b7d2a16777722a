use Rattle.std.proofs.Common.{◌≡◌, ◌∙◌, ◌*◌, arith, ap, subst, List, ℤ}
use Rattle.stage_law.specs.Range.{IsRange}
use Rattle.stage_law.specs.Streams.{magnitudes}
use Rattle.stage_law.specs.Weights.{weights_of}
use Rattle.stage_law.specs.declared.ranges.Class.{Class}
use Rattle.running_sums.specs.Weights.{cic_weights}
use Rattle.cic_chain.proofs.RealisesLemmas.{Realises-down, room_for}
use Rattle.cic_chain.proofs.RegisterLemmas.{HasAlike-piece, down_width}
use Rattle.cic_chain.proofs.stages.CicDown.cascade.Goals as goal

pub range-range-requires-clause-room : goal.range-range-requires-clause-room
range-range-requires-clause-room g c =
    let form = weights_of c.in_ok-sum.sum in
    let is : form ≡ cic_weights g.row.N (c.args.self.now.factor * g.row.D) = c.in_ok-sum.ensures ∙ c.as_slice.ensures.value ∙ c.in_ok-weights.ensures in
    room_for (g.R.Ranges.streams c.args.ranges.now) g.row.N (c.args.self.now.factor * g.row.D) form c.requires.room (let e = ap magnitudes is in omega (arith, e))

pub returns-clause-stream : goal.returns-clause-stream
returns-clause-stream g c =
    let factor = c.args.self.now.factor in
    let is : weights_of c.in_ok-sum.sum ≡ cic_weights g.row.N (factor * g.row.D) = c.in_ok-sum.ensures ∙ c.as_slice.ensures.value ∙ c.in_ok-weights.ensures in
    let kept : Class = record { modulus = factor; residue = 0 } in
    let range = subst (λ (form : List ℤ). IsRange (g.R.Ranges.streams c.args.ranges.now) form kept c.range-range.result) is c.range-range.ensures in
    record {
      realises = λ emitted same. Realises-down (g.R.Ranges.streams c.args.ranges.now) factor g.row.N g.row.D emitted same (g.met.R.Ranges.causal c.args.ranges.now) c.args.self.now.some c.requires.group c.requires.within range c.width_of-width.ensures c.in_ok-stream.ensures.ok
          (HasAlike-piece c.requires.unused c.in_ok-stream.ensures.ok.piece (down_width (g.R.Ranges.streams c.args.ranges.now) factor g.row.N g.row.D c.range-range.result c.width_of-width.result c.args.self.now.factor_low range c.width_of-width.ensures));
    }
