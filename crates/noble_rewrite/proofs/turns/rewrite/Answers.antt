use Rattle.std.proofs.Common.{◌∙◌, List, ap, subst, sym}
use Rattle.mr_values.specs.declared.plan.Element.{Element}
use Rattle.mr_values.specs.Value.{chain, AreFirst}
use Rattle.noble_rewrite.specs.declared.turn.Applied.{Applied}
use Rattle.noble_rewrite.specs.Turns.{IsTurn, LeadsTo}
use Rattle.noble_rewrite.proofs.TurnSteps.{turn-falls, turn-few, leads-push, leads-value}
use Rattle.noble_rewrite.proofs.FirstTurns.{leads-first}
use Rattle.noble_rewrite.proofs.turns.rewrite.Goals as goal

pub turns-smaller : goal.turns-smaller
turns-smaller c = turn-falls c.turns.elements.items c.turn.new.elements.items c.in-Some.rule (rw c.in-Some.is at c.in_ok-rule.ensures)

pub turns-preserved : goal.turns-preserved
turns-preserved c =
    let turn : IsTurn c.turns.elements.items c.turn.new.elements.items c.in-Some.rule = rw c.in-Some.is at c.in_ok-rule.ensures in
    let leads = leads-push c.args.elements.now c.turns.applied.items c.turns.elements.items c.turn.new.elements.items c.in-Some.rule c.turns.invariant.so_far turn in
    record {
      so_far = subst (λ (turns : List Applied). LeadsTo c.args.elements.now turns c.turn.new.elements.items) (sym c.in_ok-push.ensures.items) leads;
      few = turn-few c.turns.elements.items c.turn.new.elements.items c.in-Some.rule _ turn c.turns.invariant.few;
    }

pub returns-clause-first : goal.returns-clause-first
returns-clause-first c = λ first.
    let ended = rw c.in_default.is at c.in_ok-rule.ensures in
    subst (λ (elements : List Element). AreFirst elements) (sym (c.from_vec.ensures ∙ ended.1)) (leads-first c.args.elements.now c.turns.applied.items c.turns.elements.items c.turns.invariant.so_far first)

pub returns-clause-value : goal.returns-clause-value
returns-clause-value c = λ factors x.
    let ended = rw c.in_default.is at c.in_ok-rule.ensures in
    ap (λ (elements : List Element). chain elements x) (c.from_vec.ensures ∙ ended.1)
    ∙ leads-value c.args.elements.now c.turns.applied.items c.turns.elements.items c.turns.invariant.so_far factors x
