use Rattle.std.proofs.Common.{◌≡◌, ◌∙◌, ◌||◌, ap, refl, rules, tests, List, [], ◌∷◌}
use Rattle.std.specs.List.{list_any}
use Rattle.std.proofs.lemmas.Iterator.{YieldsList-from_slice}
use Rattle.std.proofs.lemmas.Iterator.Search.{any_from_yields_List}
use Rattle.mr_values.specs.declared.plan.Element.{Element}
use Rattle.mr_values.specs.Value.{clips, has_clip}
use Rattle.plan_check.proofs.amounts.has_clip.Goals as goal

any_clip : (es : List Element) → list_any clips es ≡ has_clip es
any_clip [] = refl
any_clip (e ∷ es) = ap (λ b. clips e || b) (any_clip es)

pub returns : goal.returns
returns c =
    let es = c.args.elements.now in
    any_from_yields_List clips _ _ _ c.any.ensures.ran (YieldsList-from_slice es cc) (λ x b q k. search (rules, tests)) ∙ any_clip es
