-- Calls on a piece, one after another.
use Rattle.std.proofs.Common.{◌≡◌, ℕ, zero, suc, ◌+◌, ◌≤◌, ◌<◌, refl, arith}

-- a bound that holds after each call that takes bytes holds once some were taken
pub bound-kept : (limit taken more old new : ℕ) → (0 < taken → old ≤ limit) → (0 < more → new ≤ limit) → (more ≡ 0 → new ≡ old) → 0 < taken + more → new ≤ limit
bound-kept limit taken zero old new before after same some = let first : old ≤ limit = before (omega arith) in let equal : new ≡ old = same refl in omega arith
bound-kept limit taken (suc more) old new before after same some = after (omega arith)

-- what no call without bytes changes is as at first where none were taken
pub same-kept : (taken more first old new : ℕ) → (taken ≡ 0 → old ≡ first) → (more ≡ 0 → new ≡ old) → taken + more ≡ 0 → new ≡ first
same-kept taken more first old new before after none = let a : old ≡ first = before (omega arith) in let b : new ≡ old = after (omega arith) in omega arith
