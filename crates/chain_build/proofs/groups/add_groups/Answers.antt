use Rattle.std.proofs.Common.{◌≡◌, inr, sym, ◌∙◌, ap, refl, subst, List, [], ◌∷◌, ◌++◌, get_or, arith, inl, ◌+◌}
use Rattle.plan_check.specs.declared.facts.GroupFacts.{GroupFacts}
use Rattle.mr_values.specs.declared.plan.Element.{Element}
use Rattle.mr_values.specs.Timing.{groups, input}
use Rattle.mr_values.specs.Value.{size}
use Rattle.chain_build.specs.declared.groups.GroupCost.{GroupCost}
use Rattle.chain_build.specs.Built.{has_rounding}
use Rattle.net_graph.specs.Cells.{NetView}
use Rattle.chain_build.proofs.AlikeSoFar.{cascades_next, cascades_end}
use Rattle.chain_build.proofs.GroupsSoFar.{has_group, grouped_end}
use Rattle.chain_build.proofs.CostsSoFar.{CostsSoFar, CostsSoFar-first, CostsSoFar-next, CostsSoFar-end, shapes-end}
use Rattle.chain_build.proofs.RegistersSoFar.{RegistersSoFar, RegistersSoFar-start}
use Rattle.chain_build.proofs.PeaksSoFar.{PeaksSoFar-start, peaks_next, peaks_end}
use Rattle.chain_build.proofs.StepAt.{registers_next, registers_end}
use Rattle.chain_build.proofs.Roundings.{rounded-more}
use Rattle.chain_build.proofs.SoFar.{SoFar-plan, SoFar-next, SoFar-all, SoFar-end, SoFar-none, no_facts, so_at, so_none, so_all, is_built_head, can_add}
use Rattle.chain_build.proofs.Taking.{can_take, holds_before}
use Rattle.chain_build.proofs.groups.add_groups.Goals as goal

pub loop-fact-init : goal.loop-fact-init
loop-fact-init c = (
  (
    [],
    SoFar-plan c.args.plan.now c.args.facts.now c.args.net.now c.set_group.new.self c.args.from c.as_slice-rest.result.now c.as_slice-rest.ensures c.requires.within c.requires.nameless c.requires.offset c.requires.period c.requires.accepted c.requires.are_facts c.requires.built c.set_group.ensures,
    refl,
    subst (λ (es : List Element). RegistersSoFar (size c.args.plan.now.width) (size c.args.plan.now.ticks) c.args.plan.now.elements c.set_group.new.self.cells c.args.from [] (groups es) (input (size c.args.plan.now.width) (size c.args.plan.now.ticks)) 1) (sym c.as_slice-rest.ensures)
        (RegistersSoFar-start (size c.args.plan.now.width) (size c.args.plan.now.ticks) c.args.plan.now.elements c.set_group.new.self.cells c.args.from),
    PeaksSoFar-start (size c.args.plan.now.width) (size c.args.plan.now.ticks) c.args.plan.now.elements c.set_group.new.self.cells (groups c.as_slice-rest.result.now) c.args.peaks.now.items (ap groups c.as_slice-rest.ensures) c.requires.none,
    tt,
  ),
  CostsSoFar-first (groups c.args.plan.now.elements) (groups c.as_slice-rest.result.now) c.args.net.now c.set_group.new.self c.new-costs.result.items (ap groups c.as_slice-rest.ensures) c.set_group.ensures c.new-costs.ensures.items c.requires.bound c.requires.ungrouped c.requires.nameless,
  record { own = inr refl },
)

pub unreachable-requires : goal.unreachable-requires
unreachable-requires c = so_none c.args.facts.now.groups.items c.loop-fact.fact-index c.loop-fact.invariant.0.1 (omega (arith, c.deref-fact-items.ensures.len)) c.in_default.ensures

pub add_next-requires-clause-can : goal.add_next-requires-clause-can
add_next-requires-clause-can c = can_add (so_at c.args.facts.now.groups.items c.loop-fact.fact-index c.loop-fact.invariant.0.1 _ no_facts (omega (arith, c.deref-fact-items.ensures.len)) (ap (λ (xs : List GroupFacts). get_or xs c.loop-fact.fact-index no_facts) c.deref-fact-items.ensures.value)) c.in-Some.ensures c.set_group-in-loop-fact.new.self c.set_group-in-loop-fact.ensures

pub add_next-requires-clause-can_take : goal.add_next-requires-clause-can_take
add_next-requires-clause-can_take c = can_take c.requires.accepted (so_at c.args.facts.now.groups.items c.loop-fact.fact-index c.loop-fact.invariant.0.1 _ no_facts (omega (arith, c.deref-fact-items.ensures.len)) (ap (λ (xs : List GroupFacts). get_or xs c.loop-fact.fact-index no_facts) c.deref-fact-items.ensures.value)) c.in-Some.ensures c.loop-fact.rounded c.loop-fact.invariant.0.2

pub loop-fact-preserved : goal.loop-fact-preserved
loop-fact-preserved c =
    let so = (so_at c.args.facts.now.groups.items c.loop-fact.fact-index c.loop-fact.invariant.0.1 _ no_facts (omega (arith, c.deref-fact-items.ensures.len)) (ap (λ (xs : List GroupFacts). get_or xs c.loop-fact.fact-index no_facts) c.deref-fact-items.ensures.value)) in (
      (
        c.loop-fact.invariant.0.0 ++ _ ∷ [],
        SoFar-next so c.in-Some.ensures c.set_group-in-loop-fact.new.self c.in_ok-added.added _ (holds_before c.requires.accepted so c.in-Some.ensures c.loop-fact.rounded) c.set_group-in-loop-fact.ensures c.in_ok-added.ensures.ok,
        rounded-more c.loop-fact.invariant.0.0 _ c.loop-fact.rounded _ c.loop-fact.invariant.0.2 c.is_rounding-rounded.ensures,
        registers_next c.requires.accepted so c.in-Some.ensures c.loop-fact.rounded c.loop-fact.invariant.0.2 c.loop-fact.invariant.0.3 c.set_group-in-loop-fact.new.self c.in_ok-added.added c.set_group-in-loop-fact.ensures c.in_ok-added.ensures.ok,
        peaks_next c.requires.accepted so c.in-Some.ensures c.loop-fact.rounded c.loop-fact.invariant.0.2 c.set_group-in-loop-fact.ensures c.in_ok-added.ensures.ok c.in_ok-added.ensures.peaks c.loop-fact.invariant.0.4,
        cascades_next c.requires.accepted so c.in-Some.ensures c.loop-fact.rounded c.loop-fact.invariant.0.2 c.set_group-in-loop-fact.ensures c.in_ok-added.ensures.ok c.loop-fact.invariant.0.5,
      ),
      subst (λ (costs : List GroupCost). CostsSoFar (groups c.args.plan.now.elements) c.add_next.new.net.cells (groups c.in-Some.others.now) costs (c.loop-fact.number + 1)) (sym c.in_ok-push.ensures.items)
          (CostsSoFar-next c.loop-fact.invariant.1 c.in-Some.ensures.parts (λ name data_kind more. c.loop-fact.invariant.0.1.names name data_kind (inl more)) (is_built_head so c.in-Some.ensures) c.set_group-in-loop-fact.new.self _ c.loop-fact.last c.in_ok-added.added c.set_group-in-loop-fact.ensures c.in_ok-added.ensures.ok),
      record {
        own = let own : c.add_next.new.net.group ≡ c.loop-fact.number = c.in_ok-added.ensures.keeps.same_group ∙ ap (λ (n : NetView). n.group) c.set_group-in-loop-fact.ensures in inl (omega (arith, own));
      },
    )

pub returns : goal.returns
returns c =
    let so = so_all c.args.facts.now.groups.items c.loop-fact.fact-index c.loop-fact.invariant.0.1 (omega (arith, c.deref-fact-items.ensures.len)) in
    record {
      ok = SoFar-end so;
      rounded = c.loop-fact.invariant.0.2 ∙ ap has_rounding (sym (SoFar-all so));
      registers = registers_end so c.loop-fact.invariant.0.3;
      costs = CostsSoFar-end c.loop-fact.invariant.1 (SoFar-none so);
      peaks = peaks_end so c.loop-fact.invariant.0.4;
      cascades = cascades_end so c.loop-fact.invariant.0.5;
      shapes = shapes-end c.loop-fact.invariant.1 (SoFar-none so);
      groups = grouped_end c.loop-fact.invariant.1 (SoFar-none so) (λ name data_kind more. so.names name data_kind (inl more)) c.loop-fact.invariant.2 (has_group c.args.plan.now c.requires.accepted);
    }
