use Rattle.std.proofs.Common.{◌≡◌, ◌+◌, ◌^◌, ◌≤◌, ◌++◌, length}
use Rattle.std.specs.Prelude.{All}
use Rattle.mr_values.specs.Value.{IsWithinLimits}
use Rattle.mr_values.specs.Timing.{groups, after_all, input, last_stream}
use Rattle.plan_check.specs.Groups.{first_failing}
use Rattle.plan_check.specs.Costs.{cost_test, tally_after}
use Rattle.plan_check.specs.Views.{as_stream, as_tally, IsModest}
use Rattle.plan_check.specs.Accepted.{costs_test, group_facts}
use Rattle.plan_check.proofs.Narrow.{IsNarrow, RatesFit}
use Rattle.plan_check.proofs.accept.check_costs.Given as goal

abbrev pub invariant-walk : goal.invariant-walk
invariant-walk l = record {
  so_far : first_failing (cost_test l.ticks) (tally_after l.ticks) l.first (as_tally l.tally) (groups l.rest) ≡ costs_test l.width l.ticks (groups l.elements);
  all : after_all (groups l.rest) (as_stream l.tally.flow l.tally.offset) ≡ last_stream l.width l.ticks l.elements;
  facts : l.groups.items ++ group_facts l.first (as_stream l.tally.flow l.tally.offset) (groups l.rest) ≡ group_facts 1 (input l.width l.ticks) (groups l.elements);
  limits : All IsWithinLimits l.rest;
  count : l.first + length l.rest ≡ 1 + length l.elements;
  low : 1 ≤ l.first;
  rates : RatesFit l.tally.flow.period (groups l.rest);
  narrow : IsNarrow (groups l.rest) l.tally.flow.low l.tally.flow.high;
  terms : l.tally.terms ≤ 16384;
  offset : l.tally.offset ≤ 2 ^ 31;
  modest : IsModest l.tally.spread;
}

abbrev pub decreases-walk : goal.decreases-walk
decreases-walk l = length l.rest
