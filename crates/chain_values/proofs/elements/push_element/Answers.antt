use Rattle.std.proofs.Common.{◌∷◌, [], ◌∙◌, ap, refl, rules, FitsSigned}
use Rattle.std.specs.Int.{w64}
use Rattle.std.proofs.lemmas.Int.{to_z-of_z}
use Rattle.std.proofs.lemmas.Slice.{pushed}
use Rattle.mr_values.specs.Value.{size}
use Rattle.chain_values.specs.declared.stage.Stage.TheVariants.{Group, Rounded, Clipped}
use Rattle.chain_values.proofs.StartSteps.{size_from, makes_up, makes_down, makes_filter, makes_round, makes_clip}
use Rattle.chain_values.proofs.elements.push_element.Goals as goal

pub returns-in_ok-push-in-Up : goal.returns-in_ok-push-in-Up
returns-in_ok-push-in-Up c =
    let fits : FitsSigned w64 c.in-Up.factor = search rules in
    let group = c.in_ok-group-in-Up.group in (
      Group group ∷ [],
      (
        pushed (Group group ∷ []) refl c.in_ok-push-in-Up.was c.push.ensures.items,
        rw c.in-Up.is (makes_up c.in-Up.factor c.size.result group (c.size.ensures ∙ ap size (to_z-of_z w64 _ fits)) c.in_ok-group-in-Up.ensures),
      ),
    )

pub returns-in_ok-push-in-Down : goal.returns-in_ok-push-in-Down
returns-in_ok-push-in-Down c =
    let fits : FitsSigned w64 c.in-Down.factor = search rules in
    let limits = rw c.in-Down.is at c.requires in
    let group = c.in_ok-group-in-Down.group in (
      Group group ∷ [],
      (
        pushed (Group group ∷ []) refl c.in_ok-push-in-Down.was c.push-in-Down.ensures.items,
        rw c.in-Down.is (makes_down c.in-Down.factor c.size-in-Down.result group (c.size-in-Down.ensures ∙ ap size (to_z-of_z w64 _ fits)) (size_from 4096 c.in-Down.factor limits).0 c.in_ok-group-in-Down.ensures),
      ),
    )

pub returns-in_ok-push-in-Filter : goal.returns-in_ok-push-in-Filter
returns-in_ok-push-in-Filter c =
    let group = c.in_ok-group-in-Filter.group in (
      Group group ∷ [],
      (
        pushed (Group group ∷ []) refl c.in_ok-push-in-Filter.was c.push-in-Filter.ensures.items,
        rw c.in-Filter.is (makes_filter c.in-Filter.taps c.in-Filter.form group (rw c.as_slice.ensures at c.in_ok-group-in-Filter.ensures)),
      ),
    )

pub returns-in_ok-push-in-Round : goal.returns-in_ok-push-in-Round
returns-in_ok-push-in-Round c =
    let fits : FitsSigned w64 c.in-Round.shift = search rules in
    let limits = rw c.in-Round.is at c.requires in
    let rounding = c.new-rounding.result in (
      Rounded rounding ∷ [],
      (
        pushed (Rounded rounding ∷ []) refl c.in_ok-push-in-Round.was c.push-in-Round.ensures.items,
        rw c.in-Round.is (makes_round c.in-Round.shift c.in-Round.mode rounding (size_from 64 c.in-Round.shift limits).0 c.new-rounding.ensures.mode (c.new-rounding.ensures.shift ∙ (c.size-in-Round.ensures ∙ ap size (to_z-of_z w64 _ fits)))),
      ),
    )

pub returns-in_ok-push-in-Clip : goal.returns-in_ok-push-in-Clip
returns-in_ok-push-in-Clip c =
    let fits : FitsSigned w64 c.in-Clip.bits = search rules in
    let clipping = c.new-clipping.result in (
      Clipped clipping ∷ [],
      (
        pushed (Clipped clipping ∷ []) refl c.in_ok-push-in-Clip.was c.push-in-Clip.ensures.items,
        rw c.in-Clip.is (makes_clip c.in-Clip.bits clipping (c.new-clipping.ensures ∙ (c.size-in-Clip.ensures ∙ ap size (to_z-of_z w64 _ fits)))),
      ),
    )
