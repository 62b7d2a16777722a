use Rattle.std.proofs.Common.{◌≡◌, ℕ, suc, ◌+◌, subst, arith}
use Rattle.fir_pieces.specs.Form.{form_of}
use Rattle.fir_pieces.specs.Held.{IsHeld}
use Rattle.fir_pieces.proofs.WidthsLemmas.{AreSmall-segment, AddsHeld-none, AddsHeld-push}
use Rattle.fir_pieces.proofs.widths.push_level.Goals as goal

pub loop-j-init : goal.loop-j-init
loop-j-init g c = AddsHeld-none _ _

pub held_terms-requires : goal.held_terms-requires
held_terms-requires g c = AreSmall-segment (g.R.Ranges.streams c.args.ranges.now) c.args.readings.now c.args.terms.now (suc c.args.level) c.loop-j.j c.segment_of-part.result.now c.segment_of-part.ensures c.requires.fits

pub loop-j-preserved : goal.loop-j-preserved
loop-j-preserved g c =
    let streams = g.R.Ranges.streams c.args.ranges.now in
    let form = form_of c.args.readings.now c.segment_of-part.result.now in
    let same = c.from.ensures in
    let lag : c.args.beat.lag + c.from.result + 1 ≡ c.args.beat.lag + suc c.args.level = omega (arith, same) in
    let own = subst (λ (n : ℕ). IsHeld streams form c.args.beat.class n c.in_ok-own.own) lag c.in_ok-own.ensures in
    AddsHeld-push streams c.args.beat.class c.args.beat.lag c.args.readings.now c.args.terms.now c.args.level c.loop-j.j c.args.held.now.items c.loop-j.held.items c.in_ok-own.own c.push.new.self.items c.segment_of-part.result.now c.segment_of-part.ensures c.loop-j.invariant own c.in_ok-push.ensures.items
