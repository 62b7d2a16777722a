use Rattle.std.proofs.Common.{◌≡◌, ◌+◌, ℕ, suc, List, ℤ, subst, arith}
use Rattle.stage_law.specs.Weights.{weights_of}
use Rattle.stage_law.specs.declared.ranges.Class.{Class}
use Rattle.fir_pieces.specs.Listed.{every, unit_form, window_sums}
use Rattle.fir_pieces.specs.Held.{AreHeld, IsHeld}
use Rattle.fir_pieces.proofs.UnitLemmas.{unit_form_small}
use Rattle.fir_pieces.proofs.WidthsLemmas.{AreHeld-none, AreHeld-form}
use Rattle.fir_pieces.proofs.peaks.window_held.Goals as goal

pub loop-age-init : goal.loop-age-init
loop-age-init g c = rw c.new-held.ensures.items (AreHeld-none _)

pub held_of-requires : goal.held_of-requires
held_of-requires g c =
    let form : weights_of c.in_ok-value.value ≡ unit_form c.loop-age.age = subst (λ (n : ℕ). weights_of c.in_ok-value.value ≡ unit_form n) c.from.ensures c.in_ok-value.ensures in
    (c.requires.0, c.requires.1, unit_form_small c.loop-age.age c.requires.0 (weights_of c.in_ok-value.value) form c.requires.2)

pub loop-age-preserved : goal.loop-age-preserved
loop-age-preserved g c =
    let streams = g.R.Ranges.streams c.args.ranges.now in
    let age = c.loop-age.age in
    let next : suc age ≡ age + 1 = omega arith in
    let form : weights_of c.in_ok-value.value ≡ unit_form age = subst (λ (n : ℕ). weights_of c.in_ok-value.value ≡ unit_form n) c.from.ensures c.in_ok-value.ensures in
    let same = c.every_beat.ensures.class in
    let lag = c.every_beat.ensures.lag in
    let own = subst (λ (n : ℕ). IsHeld streams (unit_form age) every n c.held_of.result) lag (subst (λ (k : Class). IsHeld streams (unit_form age) k c.every_beat.result.lag c.held_of.result) same (subst (λ (f : List ℤ). IsHeld streams f c.every_beat.result.class c.every_beat.result.lag c.held_of.result) form c.held_of.ensures)) in
    subst (λ (n : ℕ). AreHeld streams (window_sums n) c.push.new.self.items) next
    (AreHeld-form streams (window_sums age) c.loop-age.held.items c.push.new.self.items (unit_form age) every 1 c.held_of.result c.loop-age.invariant own c.in_ok-push.ensures.items)
