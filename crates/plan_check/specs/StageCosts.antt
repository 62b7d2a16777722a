-- What a group of a plan costs as a stage: sums and differences, window registers and tables.
-- Crochiere and Rabiner, Multirate Digital Signal Processing, 3.3 (phases); Meyer-Baese, Digital Signal Processing with Field Programmable
-- Gate Arrays, 2.2 and 3.3 (signed digits, distributed arithmetic); Hogenauer 1981 (cascades).
use Rattle.std.specs.Prelude.{ℕ, zero, suc, ◌+◌, ◌-◌, ◌*◌, ◌/◌, Bool, true, false, List, length, take, count_by, unwrap_or, ℤ, pos, negsuc}
use Rattle.mr_values.specs.declared.plan.Form.{Form}
use Rattle.mr_values.specs.declared.plan.Form.TheVariants.{Parallel, Symmetric, HalfBand, Folded, Distributed}
use Rattle.mr_values.specs.declared.plan.Mode.{Mode}
use Rattle.mr_values.specs.declared.plan.Mode.TheVariants.{HalfUp, HalfEven, Floor}
use Rattle.mr_values.specs.Sequence.{phase}
use Rattle.mr_values.specs.Timing.{Group, Fir, DownCic, UpCic, Rounding, Clipping, taps_of, form_of, plus_terms, minus_terms, ceil_div, greatest, accumulators}
use Rattle.mr_values.specs.Value.{size}

pub record StageCost : Type 0 where
  pub adders : ℕ
  pub windows : ℕ
  pub tables : ℕ

-- ---- adders

-- of a tree over so many positive and so many negative leaves: one fewer than leaves, and one more where all are negative
abbrev pub tree_adders : ℕ → ℕ → ℕ
tree_adders zero minus = minus
tree_adders (suc plus) minus = plus + minus

-- of a tree over the terms of these taps
abbrev pub term_adders : List ℤ → ℕ
term_adders taps = tree_adders (plus_terms taps) (minus_terms taps)

-- of a tree for each of the phases below r
abbrev pub phase_adders : ℕ → ℕ → List ℤ → ℕ
phase_adders up zero taps = 0
phase_adders up (suc r) taps = phase_adders up r taps + term_adders (phase up r taps)

abbrev pub is_some_tap : ℤ → Bool
is_some_tap (pos zero) = false
is_some_tap (pos (suc n)) = true
is_some_tap (negsuc n) = true

-- of mirrored taps: one for each pair that isn't 0, and of a tree over the terms of the first half, the centre's among them
abbrev pub mirrored_adders : List ℤ → ℕ
mirrored_adders taps = count_by is_some_tap (take (length taps / 2) taps) + term_adders (take (ceil_div (length taps) 2) taps)

-- of accumulators, in so many slots: one each, and of a tree over them
abbrev pub folded_adders : ℕ → ℕ → List ℤ → ℕ
folded_adders slots up taps = accumulators slots up taps + tree_adders (ceil_div (greatest plus_terms up taps) slots) (ceil_div (greatest minus_terms up taps) slots)

-- ---- a group

abbrev pub form_cost : Form → ℕ → List ℤ → StageCost
form_cost Parallel up taps = record { adders = phase_adders up up taps; windows = ceil_div (length taps) up; tables = 0 }
form_cost Symmetric up taps = record { adders = mirrored_adders taps; windows = length taps; tables = 0 }
form_cost HalfBand up taps = record { adders = mirrored_adders taps; windows = 3 * ((length taps + 1) / 4); tables = 0 }
form_cost (Folded slots) up taps = record { adders = folded_adders (size slots) up taps; windows = ceil_div (length taps) up; tables = 0 }
form_cost (Distributed group) up taps =
    record { adders = 3 * ceil_div (length taps) (size group) - 1; windows = length taps; tables = ceil_div (length taps) (size group) }

abbrev pub mode_cost : Mode → StageCost
mode_cost HalfUp = record { adders = 1; windows = 0; tables = 0 }
mode_cost HalfEven = record { adders = 1; windows = 0; tables = 0 }
mode_cost Floor = record { adders = 0; windows = 0; tables = 0 }

abbrev pub cost : Group → StageCost
cost (Fir up filter down) = form_cost (form_of filter) (unwrap_or up 1) (taps_of filter)
cost (DownCic factor stages delay) = record { adders = 2 * stages; windows = 0; tables = 0 }
cost (UpCic factor stages delay) = record { adders = 2 * stages; windows = 0; tables = 0 }
cost (Rounding shift mode) = mode_cost mode
cost (Clipping bits) = record { adders = 0; windows = 0; tables = 0 }
