use Rattle.std.proofs.Common.{◌≡◌, drop, false, List}
use Rattle.mr_values.specs.Value.{size}
use Rattle.mr_values.specs.Timing.{Group, groups, after_all, input}
use Rattle.chain_build.proofs.SoFar.{SoFar}
use Rattle.chain_build.specs.Alike.{HoldsOfCascades, in_net}
use Rattle.chain_build.specs.Built.{has_rounding}
use Rattle.chain_build.proofs.RegistersSoFar.{RegistersSoFar}
use Rattle.chain_build.proofs.PeaksSoFar.{PeaksSoFar}
use Rattle.chain_build.proofs.CostsSoFar.{CostsSoFar}
use Rattle.chain_build.proofs.GroupsSoFar.{IsLastGroup}
use Rattle.chain_build.proofs.groups.add_groups.Given as goal

-- the groups before are added, and those that are left pass the tests
abbrev pub invariant-loop-fact : goal.invariant-loop-fact
invariant-loop-fact l =
    ((front : List Group) × SoFar (size l.plan.width) (size l.plan.ticks) l.plan.elements l.fn.net l.net l.fn.from l.last l.rest (drop l.fact-index l.facts.groups.items) l.number front × (l.rounded ≡ has_rounding front)
    × RegistersSoFar (size l.plan.width) (size l.plan.ticks) l.plan.elements l.net.cells l.fn.from front (groups l.rest) (after_all front (input (size l.plan.width) (size l.plan.ticks))) l.number
    × PeaksSoFar (size l.plan.width) (size l.plan.ticks) l.plan.elements l.net.cells front (groups l.rest) (after_all front (input (size l.plan.width) (size l.plan.ticks))) l.number l.peaks.items
    × HoldsOfCascades (in_net l.net.cells) (size l.plan.width) l.plan.elements 1 0 false (input (size l.plan.width) (size l.plan.ticks)) front)
    × CostsSoFar (groups l.plan.elements) l.net.cells (groups l.rest) l.costs.items l.number
    × IsLastGroup l.net l.number
