use Rattle.std.proofs.Common.{◌∙◌, ap, rules, FitsSigned}
use Rattle.std.specs.Int.{w64}
use Rattle.std.proofs.lemmas.Int.{to_z-of_z}
use Rattle.mr_values.specs.Value.{size}
use Rattle.plan_check.proofs.GroupSplit.{split-cic_down, split-cic_up, split-round, split-clip}
use Rattle.plan_check.proofs.group.split_group.Goals as goal

pub returns-in-CicDown : goal.returns-in-CicDown
returns-in-CicDown c =
    let f : FitsSigned w64 c.in-CicDown.factor = search rules in
    let s : FitsSigned w64 c.in-CicDown.stages = search rules in
    let d : FitsSigned w64 c.in-CicDown.delay = search rules in
    split-cic_down _ _ _ _ _ _ _ _ _ c.in_ok-first.ensures.cases.0 c.in-CicDown.is
    (c.whole.ensures ∙ ap size (to_z-of_z w64 _ f))
    (c.whole-in-CicDown.ensures ∙ ap size (to_z-of_z w64 _ s))
    (c.whole-in-CicDown-2.ensures ∙ ap size (to_z-of_z w64 _ d)) c.requires

pub returns-in-CicUp : goal.returns-in-CicUp
returns-in-CicUp c =
    let f : FitsSigned w64 c.in-CicUp.factor = search rules in
    let s : FitsSigned w64 c.in-CicUp.stages = search rules in
    let d : FitsSigned w64 c.in-CicUp.delay = search rules in
    split-cic_up _ _ _ _ _ _ _ _ _ c.in_ok-first.ensures.cases.0 c.in-CicUp.is
    (c.whole-in-CicUp.ensures ∙ ap size (to_z-of_z w64 _ f))
    (c.whole-in-CicUp-2.ensures ∙ ap size (to_z-of_z w64 _ s))
    (c.whole-in-CicUp-3.ensures ∙ ap size (to_z-of_z w64 _ d)) c.requires

pub returns-in-Clip : goal.returns-in-Clip
returns-in-Clip c =
    let b : FitsSigned w64 c.in-Clip.bits = search rules in
    split-clip _ _ _ _ _ c.in_ok-first.ensures.cases.0 c.in-Clip.is (c.whole-in-Clip.ensures ∙ ap size (to_z-of_z w64 _ b)) c.requires

pub returns-in-Round : goal.returns-in-Round
returns-in-Round c =
    let s : FitsSigned w64 c.in-Round.shift = search rules in
    split-round _ _ _ _ _ _ c.in_ok-first.ensures.cases.0 c.in-Round.is (c.whole-in-Round.ensures ∙ ap size (to_z-of_z w64 _ s)) c.requires
