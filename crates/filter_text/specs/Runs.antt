-- Runs of a module from a reset on, and the samples that they read.
use Rattle.std.specs.Prelude.{◌≡◌, ℕ, true, List, ◌∷◌, ◌++◌, map, ℤ}
use Rattle.mr_values.specs.Sequence.{phase}
use Rattle.mr_values.specs.Width.{signed}
use Rattle.verilog_tree.specs.Meaning.{Values}
use Rattle.verilog_tree.specs.Shown.{Cycle, RunsOver, EachFits}
use Rattle.verilog_tree.specs.Tree.{Design}
use Rattle.net_module.specs.Steps.{HasNoReset, tick_data}

-- the samples of a run with one sample in so many ticks: `in_data` at the ticks 0, ticks, 2 * ticks, .., read as signed
abbrev pub samples_in : ℕ → ℕ → List Cycle → List ℤ
samples_in width ticks cycles = phase ticks 0 (map (signed width) (tick_data cycles))

-- the cycles of a run, of which this is the last reset cycle, and the settled values of each
pub record IsRunFrom (d : Design) (width : ℕ) (content : Values) (before after : List Cycle) (reset : Cycle) (settled : List Values) : Type 0 where
  pub run : RunsOver d content (before ++ reset ∷ after) settled
  pub is_reset : reset.rst ≡ true
  pub last : HasNoReset after
  pub fit : EachFits width after
