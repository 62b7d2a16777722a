use Rattle.std.proofs.Common.{List, [], ◌∷◌, ◌++◌, ℤ, pos, sym, ◌∙◌, subst, ap}
use Rattle.running_sums.specs.Sums.{AreWithin}
use Rattle.running_sums.proofs.RangeLemmas.{one_within, ones_room}
use Rattle.running_sums.proofs.sums.cic_weights.Goals as goal

pub moving_sums-requires-clause-room : goal.moving_sums-requires-clause-room
moving_sums-requires-clause-room c =
    let is = c.in_ok-push.ensures.items ∙ ap (λ (xs : List ℤ). xs ++ pos 1 ∷ []) c.new-one.ensures.items in
    (1, subst (AreWithin 1) (sym is) one_within, ones_room c.args.stages c.args.width c.requires.few c.requires.most)
