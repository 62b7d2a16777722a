use Rattle.std.proofs.Common.{◌<◌, ◌^◌, List, length, sym, subst}
use Rattle.mr_values.specs.declared.plan.Element.{Element}
use Rattle.plan_commands.proofs.NobleSteps.{are_few, rewriting_text, still_versioned}
use Rattle.plan_commands.proofs.noble_command.rewritten_text.Goals as goal

pub rewrite-requires : goal.rewrite-requires
rewrite-requires c = subst (λ (elements : List Element). length elements < 2 ^ 32) (sym c.as_slice.ensures) (are_few c.args.plan c.requires.accepted)

pub plan_text-requires : goal.plan_text-requires
plan_text-requires c = still_versioned c.args.version c.args.plan.elements c.as_slice.result.now c.in_ok-rewritten.rewritten.elements c.as_slice.ensures c.in_ok-rewritten.ensures.first c.requires.versioned

pub returns : goal.returns
returns c =
    let rewritten = c.in_ok-rewritten.rewritten in
    rewriting_text c.args.version c.args.plan c.as_slice.result.now rewritten.elements rewritten.applied.items c.plan_text.result c.requires.accepted c.as_slice.ensures c.plan_text.ensures
    c.in_ok-rewritten.ensures.turns c.in_ok-rewritten.ensures.ended c.in_ok-rewritten.ensures.value
