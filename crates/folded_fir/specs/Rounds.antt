-- The paces behind a window that is copied once for each output, and of what adds up its terms slot by slot.
-- Crochiere and Rabiner, Multirate Digital Signal Processing, 3.3 (phases); Parhi, VLSI Digital Signal Processing Systems, 6 (folding).
use Rattle.std.specs.Prelude.{◌≡◌, ℕ, zero, suc, ◌+◌, ◌-◌, ◌*◌, ◌/◌, ◌%◌, ◌≤◌, min, pos, negsuc}
use Rattle.net_graph.specs.declared.cell.Stream.{Stream}
use Rattle.plan_check.specs.Costs.{gcd}
use Rattle.fir_pieces.specs.Moment.{Moment, Pace}
use Rattle.fir_pieces.specs.Split.{taken_before}

-- `up` outputs for `down` values. Their phases come again after `round` outputs, which take `step` values. Each output has so many slots,
-- a tick each, and the outputs stand `period` ticks apart.
pub record Rounds : Type 0 where
  pub up : ℕ
  pub down : ℕ
  pub round : ℕ
  pub step : ℕ
  pub slots : ℕ
  pub period : ℕ

-- the least round of such outputs, with so many slots each
abbrev pub rounds_of : ℕ → ℕ → ℕ → ℕ → Rounds
rounds_of up down slots period = record { up = up; down = down; round = up / gcd up down; step = down / gcd up down; slots = slots; period = period }

-- with one slot for each output, that of its whole time
abbrev pub whole_outputs : Rounds → Rounds
whole_outputs o = record { up = o.up; down = o.down; round = o.round; step = o.step; slots = 1; period = o.period }

-- the round is whole, and the slots fit between two outputs
pub record AreRounds (from : Stream) (o : Rounds) : Type 0 where
  pub some_up : 1 ≤ o.up
  pub some_down : 1 ≤ o.down
  pub some_round : 1 ≤ o.round
  pub some_slots : 1 ≤ o.slots
  pub fit : o.slots ≤ o.period
  pub whole : o.round * o.down ≡ o.step * o.up
  pub same_time : o.up * o.period ≡ o.down * from.period

-- the index of the last value that an output takes
abbrev pub newest_of : Rounds → ℕ → ℕ
newest_of o n = n * o.down / o.up

-- when so many outputs have begun, so many ticks after the first slot of the last
abbrev pub moment_in : Rounds → ℕ → ℕ → Moment
moment_in o zero since = record { newest = negsuc 0; phase = 0 }
moment_in o (suc n) since = record { newest = pos (newest_of o n); phase = n % o.round * o.slots + min since (o.slots - 1) }

-- For each of a round's outputs its slots, from one tick after `wait` on; the last stands until the next output's first. Phase r of the
-- filter, shown first as output n, stands at the values of index n * down / up modulo `step`, the rest r * period / up later.
abbrev pub fold_pace : Stream → Rounds → ℕ → Pace
fold_pace from o wait = record {
  phases = o.round * o.slots;
  class = λ φ. record { modulus = o.step; residue = newest_of o (φ / o.slots) };
  lag = λ φ. φ / o.slots * o.down % o.up * from.period / o.up + suc wait + φ % o.slots;
  at = λ t. let count = taken_before o.period (from.offset + wait) t in moment_in o count (t - suc (from.offset + wait + (count - 1) * o.period));
}

-- the copies of a window
abbrev pub copy_pace : Stream → Rounds → Pace
copy_pace from o = fold_pace from (whole_outputs o) 1

-- the accumulators behind them, which take the term of a slot at its end
abbrev pub sum_pace : Stream → Rounds → Pace
sum_pace from o = fold_pace from o 2
