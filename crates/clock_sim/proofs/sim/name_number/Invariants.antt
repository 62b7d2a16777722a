use Rattle.std.proofs.Common.{◌≡◌, ◌<◌, ℕ, false, get_or, []}
use Rattle.std.specs.Prelude.{bytes_eq}
use Rattle.clock_sim.proofs.sim.name_number.Given as goal

-- none of those before is the name
abbrev pub invariant-loop-place : goal.invariant-loop-place
invariant-loop-place l = (k : ℕ) → k < l.place → bytes_eq l.text (get_or l.design.names.items k []) ≡ false
