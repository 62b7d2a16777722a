-- What a parallel filter between an Up and a Down is, as a stage.
use Rattle.std.specs.Prelude.{ℕ, zero, suc, ◌+◌, ◌<◌, ◌≤◌, ◌≡◌, ◌^◌, List, [], ◌∷◌, ◌++◌, length, ℤ, pos, ◌*◌, ◌%◌}
use Rattle.mr_values.specs.declared.plan.Element.{Element}
use Rattle.mr_values.specs.declared.plan.Element.TheVariants.{Up, Down, Filter}
use Rattle.mr_values.specs.declared.plan.Form.TheVariants.{Parallel}
use Rattle.mr_values.specs.Timing.{ceil_div, ceil_log, terms, greatest}
use Rattle.net_graph.specs.declared.name.NameKind.TheVariants.{Window, Register}
use Rattle.signed_digit.specs.Terms.{terms_of}
use Rattle.stage_law.specs.Facts.{StageFacts}
use Rattle.stage_law.specs.Registers.{HeldSum, StageRegister}
use Rattle.stage_law.specs.Streams.{magnitudes}
use Rattle.stage_law.specs.declared.stage.Kind.TheVariants.{Parallel as ParallelKind}
use Rattle.fir_pieces.specs.Placed.{term_adders}
use Rattle.fir_pieces.specs.Reading.{ages}
use Rattle.fir_pieces.specs.Listed.{window_sums, tree_sums, numbered}
use Rattle.polyphase_fir.specs.Placed.{placed_terms}

-- the adders of the trees of the phases below r
abbrev pub adders_below : ℕ → List ℤ → ℕ → ℕ
adders_below up taps zero = 0
adders_below up taps (suc r) = adders_below up taps r + term_adders (terms_of up r taps)

abbrev pub elements_of : List ℤ → ℕ → ℕ → List Element
elements_of taps up down = Up (pos up) ∷ Filter taps Parallel ∷ Down (pos down) ∷ []

-- the levels of each tree
abbrev pub levels_of : List ℤ → ℕ → ℕ
levels_of taps up = ceil_log (greatest terms up taps)

-- how many values the window holds
abbrev pub depth_of : List ℤ → ℕ → ℕ
depth_of taps up = ceil_div (length taps) up

-- the sums of the trees of the phases below r, over the window's values
abbrev pub phase_sums : ℕ → List ℤ → ℕ → ℕ → List HeldSum
phase_sums up taps levels zero = []
phase_sums up taps levels (suc r) = phase_sums up taps levels r ++ tree_sums (ages (depth_of taps up)) 0 (placed_terms up r taps) levels

-- the window's registers, and those of the trees, phase by phase
abbrev pub registers_of : List ℤ → ℕ → List StageRegister
registers_of taps up = numbered Window 0 (window_sums (depth_of taps up)) ++ numbered Register 0 (phase_sums up taps (levels_of taps up) up)

abbrev pub polyphase_facts : List ℤ → ℕ → ℕ → StageFacts
polyphase_facts taps up down = record {
  kind = ParallelKind;
  elements = elements_of taps up down;
  up = up;
  down = down;
  delay = λ period. 1 + levels_of taps up;
  gain = magnitudes taps;
  adders = adders_below up taps up;
  windows = depth_of taps up;
  tables = 0;
  longest = depth_of taps up + 1;
  alike = 0;
  registers = λ period. registers_of taps up;
}

-- the streams of these periods are taken: the values that are given stand a whole number of ticks apart
pub record TakesPeriod (up down period : ℕ) : Type 0 where
  pub some : 1 ≤ period
  pub most : period < 2 ^ 31
  pub whole : period * down % up ≡ 0
