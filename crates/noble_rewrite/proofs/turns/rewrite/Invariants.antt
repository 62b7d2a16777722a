use Rattle.std.proofs.Common.{◌<◌, ◌^◌, length}
use Rattle.noble_rewrite.specs.Turns.{LeadsTo}
use Rattle.noble_rewrite.proofs.TurnSteps.{disorder}
use Rattle.noble_rewrite.proofs.turns.rewrite.Given as goal

abbrev pub invariant-turns : goal.invariant-turns
invariant-turns l = record {
  so_far : LeadsTo l.fn.elements l.applied.items l.elements.items;
  few : length l.elements.items < 2 ^ 32;
}

abbrev pub decreases-turns : goal.decreases-turns
decreases-turns l = disorder l.elements.items
