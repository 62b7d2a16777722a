use Rattle.std.proofs.Common.{sym, subst, ℤ}
use Rattle.plan_check.specs.Amounts.{gain}
use Rattle.plan_check.specs.Groups.{group_of}
use Rattle.span_ranges.specs.Span.{IsInSpan}
use Rattle.stage_law.specs.Streams.{HasRoom}
use Rattle.chain_build.specs.Added.{IsGroupAdded}
use Rattle.chain_build.specs.Prefixes.{flow_before}
use Rattle.chain_build.proofs.groups.add_spanned.Goals as goal

pub add_group-requires-clause-room : goal.add_group-requires-clause-room
add_group-requires-clause-room c =
    subst (λ (z : ℤ). HasRoom (IsInSpan z c.ranges_before-ranges.result.high) (gain (group_of c.args.part.now.group.now))) (sym c.ranges_before-ranges.ensures.low)
    (subst (λ (z : ℤ). HasRoom (IsInSpan c.args.part.now.fact.now.span_lo z) (gain (group_of c.args.part.now.group.now))) (sym c.ranges_before-ranges.ensures.high) c.requires.room)

pub returns-clause-ok : goal.returns-clause-ok
returns-clause-ok c =
    subst (λ (z : ℤ). IsGroupAdded (group_of c.args.part.now.group.now) (flow_before c.args.from.period c.args.part.now.fact.now) (IsInSpan z c.args.part.now.fact.now.span_hi) c.args.net.now c.add_group.new.net c.args.from c.in_ok-added.added) c.ranges_before-ranges.ensures.low
    (subst (λ (z : ℤ). IsGroupAdded (group_of c.args.part.now.group.now) (flow_before c.args.from.period c.args.part.now.fact.now) (IsInSpan c.ranges_before-ranges.result.low z) c.args.net.now c.add_group.new.net c.args.from c.in_ok-added.added) c.ranges_before-ranges.ensures.high c.in_ok-added.ensures.ok)
