use Rattle.std.proofs.Common.{◌≡◌, ◌≤◌, take}
use Rattle.noble_rewrite.specs.Turns.{IsSettled}
use Rattle.noble_rewrite.proofs.turn.turn.Given as goal

-- no rule applies so far, and nothing was written
abbrev pub invariant-loop-index : goal.invariant-loop-index
invariant-loop-index l = record {
  settled : IsSettled (take l.index l.elements.items);
  same : l.elements ≡ l.initial.elements;
  some : 1 ≤ l.index;
}
