use Rattle.std.proofs.Common.{◌≡◌, ◌∙◌, ◌+◌, ◌++◌, ◌∷◌, [], ℕ, suc, List, map, take, get_or, sym, ap, subst, arith}
use Rattle.std.proofs.Math.Seq.{take-suc}
use Rattle.std.proofs.lemmas.List.{map-append}
use Rattle.stage_law.specs.Registers.{HeldSum}
use Rattle.fir_pieces.specs.declared.reading.Reading.TheVariants.{One}
use Rattle.fir_pieces.specs.Form.{reading_form}
use Rattle.fir_pieces.specs.Held.{AreHeld}
use Rattle.fir_pieces.specs.Listed.{class_reading_sum}
use Rattle.fir_pieces.proofs.WidthsLemmas.{AreHeld-none, AreHeld-form}
use Rattle.fir_pieces.proofs.widths.readings_held.Goals as goal

pub loop-reading-init : goal.loop-reading-init
loop-reading-init g c = rw c.new-held.ensures.items (AreHeld-none _)

pub loop-reading-preserved : goal.loop-reading-preserved
loop-reading-preserved g c =
    let streams = g.R.Ranges.streams c.args.ranges.now in
    let readings = c.args.readings.now in
    let index = c.loop-reading.reading-index in
    let sum = class_reading_sum c.args.beat.class c.args.beat.lag in
    let r = get_or readings index (One 0) in
    let next : index + 1 ≡ suc index = omega arith in
    let more : take (index + 1) readings ≡ take index readings ++ r ∷ [] = ap (λ (n : ℕ). take n readings) next ∙ take-suc readings index (One 0) c.loop-reading-test.true in
    subst (λ (ss : List HeldSum). AreHeld streams ss c.push.new.self.items) (sym (ap (map sum) more ∙ map-append sum (take index readings) (r ∷ [])))
    (AreHeld-form streams (map sum (take index readings)) c.loop-reading.held.items c.push.new.self.items (reading_form r) c.args.beat.class c.args.beat.lag _ c.loop-reading.invariant c.in_ok-held_reading.ensures c.in_ok-push.ensures.items)
