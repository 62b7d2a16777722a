-- Turns need no later version of plan files.
use Rattle.std.proofs.Common.{List, [], ◌∷◌, ◌++◌, sym, subst}
use Rattle.mr_values.specs.declared.plan.Element.{Element}
use Rattle.mr_values.specs.Value.{AreFirst}
use Rattle.noble_rewrite.specs.declared.turn.Applied.{Applied}
use Rattle.noble_rewrite.specs.Turns.{IsTurn, LeadsTo}
use Rattle.noble_rewrite.proofs.Exchanges.{exchange-keeps}

first-append : (es gs : List Element) → AreFirst (es ++ gs) → AreFirst es × AreFirst gs
first-append [] gs h = (tt, h)
first-append (e ∷ es) gs h = let parts = first-append es gs h.1 in ((h.0, parts.0), parts.1)

first-join : (es gs : List Element) → AreFirst es → AreFirst gs → AreFirst (es ++ gs)
first-join [] gs h k = k
first-join (e ∷ es) gs h k = (h.0, first-join es gs h.1 k)

turn-first : (old new : List Element) (applied : Applied) → IsTurn old new applied → AreFirst old → AreFirst new
turn-first old new applied turn h =
    let parts = first-append turn.before (turn.first ∷ turn.second ∷ turn.after) (subst (λ (xs : List Element). AreFirst xs) turn.old_is h) in
    let kept = exchange-keeps turn.first turn.second turn.becomes turn.applies in
    subst (λ (xs : List Element). AreFirst xs) (sym turn.new_is) (first-join turn.before (turn.becomes.first ∷ turn.becomes.second ∷ turn.after) parts.0 (kept.first_version, (kept.second_version, parts.1.1.1)))

pub leads-first : (old : List Element) (turns : List Applied) (new : List Element) → LeadsTo old turns new → AreFirst old → AreFirst new
leads-first old [] new leads h = subst (λ (xs : List Element). AreFirst xs) (sym leads) h
leads-first old (t ∷ turns) new leads h = leads-first leads.0 turns new leads.2 (turn-first old leads.0 t leads.1 h)
