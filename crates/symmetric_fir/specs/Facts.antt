-- What a filter with mirrored taps before a Down is, as a stage.
use Rattle.std.specs.Prelude.{ℕ, ◌+◌, ◌<◌, ◌≤◌, ◌^◌, List, [], ◌∷◌, ◌++◌, length, take, ℤ, pos}
use Rattle.mr_values.specs.declared.plan.Element.{Element}
use Rattle.mr_values.specs.declared.plan.Element.TheVariants.{Down, Filter}
use Rattle.mr_values.specs.declared.plan.Form.TheVariants.{Symmetric}
use Rattle.mr_values.specs.Timing.{ceil_div, ceil_log, terms}
use Rattle.net_graph.specs.declared.name.NameKind.TheVariants.{Window, PreAdder, Register}
use Rattle.stage_law.specs.Facts.{StageFacts}
use Rattle.stage_law.specs.Registers.{HeldSum, StageRegister}
use Rattle.stage_law.specs.Streams.{magnitudes}
use Rattle.stage_law.specs.declared.stage.Kind.TheVariants.{Symmetric as SymmetricKind}
use Rattle.fir_pieces.specs.Listed.{window_sums, reading_sums, tree_sums, numbered}
use Rattle.fir_pieces.specs.Placed.{term_adders}
use Rattle.symmetric_fir.specs.Pairs.{pair_places, pairs, centres, readings, mirror_terms}

abbrev pub elements_of : List ℤ → ℕ → List Element
elements_of taps down = Filter taps Symmetric ∷ Down (pos down) ∷ []

-- the levels of the tree, over the terms of the first half of the taps, the centre's among them
abbrev pub levels_of : List ℤ → ℕ
levels_of taps = ceil_log (terms (take (ceil_div (length taps) 2) taps))

-- the sums of the centre's register and of the tree
abbrev pub later_sums : ℕ → List ℤ → List HeldSum
later_sums anti taps = reading_sums (centres taps) ++ tree_sums (readings anti taps) 1 (mirror_terms taps) (levels_of taps)

-- the window's registers, those of the pairs, and then the centre's and the tree's
abbrev pub registers_of : ℕ → List ℤ → List StageRegister
registers_of anti taps = numbered Window 0 (window_sums (length taps)) ++ (numbered PreAdder 0 (reading_sums (pairs anti taps)) ++ numbered Register 0 (later_sums anti taps))

-- anti is 0 where each tap is that of the other end, and 1 where it is its negation
abbrev pub mirror_facts : ℕ → List ℤ → ℕ → StageFacts
mirror_facts anti taps down = record {
  kind = SymmetricKind;
  elements = elements_of taps down;
  up = 1;
  down = down;
  delay = λ period. 2 + levels_of taps;
  gain = magnitudes taps;
  adders = length (pair_places taps) + term_adders (mirror_terms taps);
  windows = length taps;
  tables = 0;
  longest = length taps + 1;
  alike = 0;
  registers = λ period. registers_of anti taps;
}

-- the streams of these periods are taken
pub record TakesPeriod (period : ℕ) : Type 0 where
  pub some : 1 ≤ period
  pub most : period < 2 ^ 31
