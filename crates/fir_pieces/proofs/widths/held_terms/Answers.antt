use Rattle.std.proofs.Common.{◌≡◌, ◌∙◌, ap, subst, List, ℤ}
use Rattle.stage_law.specs.Weights.{weights_of}
use Rattle.fir_pieces.specs.Form.{weights_by, form_of}
use Rattle.fir_pieces.specs.Held.{IsHeld}
use Rattle.fir_pieces.specs.Reading.{spread}
use Rattle.fir_pieces.proofs.FormLemmas.{form_small}
use Rattle.fir_pieces.proofs.ReadingLemmas.{short_spread}
use Rattle.fir_pieces.proofs.widths.held_terms.Goals as goal

pub spread-requires : goal.spread-requires
spread-requires g c = c.requires.places

pub sum_of-requires-clause-short : goal.sum_of-requires-clause-short
sum_of-requires-clause-short g c =
    let are : c.as_slice.result.now ≡ spread c.args.readings.now c.args.terms.now = c.as_slice.ensures.value ∙ c.in_ok-values.ensures in
    rw are (short_spread c.args.readings.now c.args.terms.now c.requires.short)

pub sum_of-requires-clause-small : goal.sum_of-requires-clause-small
sum_of-requires-clause-small g c =
    let are : c.as_slice.result.now ≡ spread c.args.readings.now c.args.terms.now = c.as_slice.ensures.value ∙ c.in_ok-values.ensures in
    rw are c.requires.small

pub held_of-requires : goal.held_of-requires
held_of-requires g c =
    let are : c.as_slice.result.now ≡ spread c.args.readings.now c.args.terms.now = c.as_slice.ensures.value ∙ c.in_ok-values.ensures in
    (c.requires.most, c.requires.within, form_small c.all_minus.result c.requires.most c.as_slice.result.now (weights_of c.in_ok-sum.sum) c.in_ok-sum.ensures (rw are c.requires.room))

pub returns : goal.returns
returns g c =
    let are : c.as_slice.result.now ≡ spread c.args.readings.now c.args.terms.now = c.as_slice.ensures.value ∙ c.in_ok-values.ensures in
    let form : weights_by c.all_minus.result c.as_slice.result.now ≡ form_of c.args.readings.now c.args.terms.now = ap (weights_by c.all_minus.result) are ∙ ap (λ b. weights_by b (spread c.args.readings.now c.args.terms.now)) c.all_minus.ensures in
    subst (λ (f : List ℤ). IsHeld (g.R.Ranges.streams c.args.ranges.now) f c.args.beat.class c.args.beat.lag c.held_of.result) (c.in_ok-sum.ensures ∙ form) c.held_of.ensures
