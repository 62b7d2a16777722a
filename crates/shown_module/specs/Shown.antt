-- What a module shows after a reset, by the ticks at which it shows something and the values there.
use Rattle.std.specs.Prelude.{◌≡◌, ◌==◌, ℕ, zero, suc, ◌+◌, Bool, true, false, not, List, [], ◌∷◌, ◌++◌, length, map, take, drop, Some, slice_get, ℤ}
use Rattle.mr_values.specs.Width.{signed}
use Rattle.verilog_tree.specs.Meaning.{Values}
use Rattle.verilog_tree.specs.Names.{shapes_of}
use Rattle.verilog_tree.specs.Shown.{Cycle, ports_of, events_of}
use Rattle.verilog_tree.specs.Tree.{Design}
use Rattle.verilog_tree.specs.Uncut.{number_at}
use Rattle.net_module.specs.Steps.{tick_data, ticks_in, pair_of}
use Rattle.module_names.specs.Control.{IsRunAfterReset}

-- `in_data` at the ticks of these cycles, read as signed
abbrev pub numbers_in : ℕ → List Cycle → List ℤ
numbers_in width cycles = map (signed width) (tick_data cycles)

-- For every content of the registers and every list of cycles with a reset, whatever the samples and clock enables: in each cycle after the
-- last reset cycle, with `ce` 0 or 1 and t ticks before it, `out_valid` isn't 0 exactly where t is shown, and there `out_data` is the value
-- at t over the numbers at all ticks since the reset, also at later ones.
pub record ShowsInEach (width : ℕ) (shown : ℕ → Bool) (value : List ℤ → ℕ → ℤ) (d : Design) : Type 0 where
  pub valid : (content : Values) (before after : List Cycle) (reset : Cycle) (settled : List Values) → IsRunAfterReset d content before after reset settled
      → (j : ℕ) (now : Values) → slice_get settled (length before + 1 + j) ≡ Some now → not (now (ports_of d).out_valid == 0) ≡ shown (ticks_in (take j after))
  pub carried : (content : Values) (before after : List Cycle) (reset : Cycle) (settled : List Values) → IsRunAfterReset d content before after reset settled
      → (j : ℕ) (now : Values) → slice_get settled (length before + 1 + j) ≡ Some now → shown (ticks_in (take j after)) ≡ true
      → number_at d now (ports_of d).out_data ≡ value (numbers_in width after) (ticks_in (take j after))

-- one pair where the tick is shown, else none
abbrev pub pair_if : Bool → ℕ × ℤ → List (ℕ × ℤ)
pair_if true pair = pair ∷ []
pair_if false pair = []

-- the shown ones among so many ticks from this one on, each with its value
abbrev pub shown_from : (ℕ → Bool) → (ℕ → ℤ) → ℕ → ℕ → List (ℕ × ℤ)
shown_from shown value tick zero = []
shown_from shown value tick (suc count) = pair_if (shown tick) (tick, value tick) ++ shown_from shown value (suc tick) count

-- in such a run what is shown after the last reset cycle are the shown ones among its ticks, in order, each with its value
pub record ShowsAt (width : ℕ) (shown : ℕ → Bool) (value : List ℤ → ℕ → ℤ) (d : Design) : Type 0 where
  pub shows : (content : Values) (before after : List Cycle) (reset : Cycle) (settled : List Values) → IsRunAfterReset d content before after reset settled
      → map pair_of (events_of (shapes_of d) (ports_of d) after (drop (length before + 1) settled) (length before + 1) 0) ≡ shown_from shown (value (numbers_in width after)) 0 (ticks_in after)
