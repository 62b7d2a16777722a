use Rattle.std.proofs.Common.{◌≡◌, ◌*◌, arith, ap, ◌∙◌, subst, List, ℤ}
use Rattle.stage_law.specs.Streams.{magnitudes}
use Rattle.cic_chain.specs.Phases.{IsPhaseRange}
use Rattle.running_sums.specs.Weights.{cic_weights}
use Rattle.cic_chain.proofs.RealisesLemmas.{Realises-up, room_for}
use Rattle.cic_chain.proofs.RegisterLemmas.{HasAlike-piece, up_width}
use Rattle.cic_chain.proofs.stages.CicUp.cascade.Goals as goal

pub phase_range-requires-clause-room : goal.phase_range-requires-clause-room
phase_range-requires-clause-room g c =
    let form = c.as_slice.result.now in
    let is : form ≡ cic_weights g.row.N (c.args.self.now.factor * g.row.D) = c.as_slice.ensures.value ∙ c.in_ok-weights.ensures in
    room_for (g.R.Ranges.streams c.args.ranges.now) g.row.N (c.args.self.now.factor * g.row.D) form c.requires.room (let e = ap magnitudes is in omega (arith, e))

pub returns-clause-stream : goal.returns-clause-stream
returns-clause-stream g c =
    let factor = c.args.self.now.factor in
    let is : c.as_slice.result.now ≡ cic_weights g.row.N (factor * g.row.D) = c.as_slice.ensures.value ∙ c.in_ok-weights.ensures in
    let range = subst (λ (form : List ℤ). IsPhaseRange (g.R.Ranges.streams c.args.ranges.now) form factor factor c.in_ok-range.range) is c.in_ok-range.ensures in
    record {
      realises = λ emitted same. Realises-up (g.R.Ranges.streams c.args.ranges.now) factor g.row.N g.row.D emitted same (g.met.R.Ranges.causal c.args.ranges.now) c.args.self.now.some c.args.self.now.factor_low c.requires.group c.requires.within range c.width_of-width.ensures c.in_ok-stream.ensures.ok
          (HasAlike-piece c.requires.unused c.in_ok-stream.ensures.ok.piece (up_width (g.R.Ranges.streams c.args.ranges.now) factor g.row.N g.row.D c.in_ok-range.range c.width_of-width.result c.args.self.now.factor_low range c.width_of-width.ensures));
    }
