use Rattle.std.proofs.Common.{◌≡◌, length}
use Rattle.pipeline_balance.proofs.WindowLemmas.{WindowSoFar}
use Rattle.pipeline_balance.proofs.windows.window.Given as goal

abbrev pub invariant-loop-i : goal.invariant-loop-i
invariant-loop-i l = (length l.nodes.items ≡ l._i) × WindowSoFar l.fn.net l.net l.fn.from l.gate l.last l.nodes.items
