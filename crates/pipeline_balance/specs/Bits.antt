-- How many bits number so many things.
use Rattle.std.specs.Prelude.{ℕ, ◌^◌, ◌<◌, ◌≤◌}

-- the least number of bits, at least 1, whose patterns number 0 to `last`
pub record IsBitsFor (last bits : ℕ) : Type 0 where
  pub some : 1 ≤ bits
  pub most : bits ≤ 64
  pub holds : last < 2 ^ bits
  pub least : (fewer : ℕ) → 1 ≤ fewer → last < 2 ^ fewer → bits ≤ fewer
