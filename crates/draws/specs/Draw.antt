-- Drawn numbers: a linear congruential generator over the numbers below 2^64, whose upper 31 bits are drawn.
-- The multiplier and the addend are those of Knuth's MMIX.
use Rattle.std.specs.Prelude.{ℕ, ◌+◌, ◌*◌, ◌/◌, ◌%◌, ◌^◌}

-- the state after a draw
abbrev pub next_state : ℕ → ℕ
next_state state = (6364136223846793005 * state + 1442695040888963407) % 2 ^ 64

-- the number that is drawn
abbrev pub drawn : ℕ → ℕ
drawn state = next_state state / 2 ^ 33
