-- The sums that the registers of a filter hold, as a list.
use Rattle.std.specs.Prelude.{ℕ, zero, suc, ◌+◌, List, [], ◌∷◌, ◌++◌, length, map, replicate, ℤ, pos}
use Rattle.net_graph.specs.declared.name.NameKind.{NameKind}
use Rattle.signed_digit.specs.declared.term_list.Term.{Term}
use Rattle.pipeline_balance.specs.Tree.{level_count}
use Rattle.stage_law.specs.Registers.{HeldSum, StageRegister}
use Rattle.stage_law.specs.declared.ranges.Class.{Class}
use Rattle.fir_pieces.specs.declared.reading.Reading.{Reading}
use Rattle.fir_pieces.specs.Placed.{term_segment}
use Rattle.fir_pieces.specs.Form.{form_of, reading_form}

-- every index
abbrev pub every : Class
every = record { modulus = 1; residue = 0 }

-- ---- the window

-- the weights of the value that came so many values before
abbrev pub unit_form : ℕ → List ℤ
unit_form age = replicate age (pos 0) ++ pos 1 ∷ []

abbrev pub window_sum : ℕ → HeldSum
window_sum age = record { form = unit_form age; class = every; lag = 1 }

-- newest first
abbrev pub window_sums : ℕ → List HeldSum
window_sums zero = []
window_sums (suc age) = window_sums age ++ window_sum age ∷ []

-- ---- what is read of the window, one tick later

abbrev pub class_reading_sum : Class → ℕ → Reading → HeldSum
class_reading_sum class lag r = record { form = reading_form r; class = class; lag = lag }

abbrev pub reading_sum : Reading → HeldSum
reading_sum r = class_reading_sum every 2 r

abbrev pub reading_sums : List Reading → List HeldSum
reading_sums readings = map reading_sum readings

-- ---- a tree over nodes that show these, so many ticks after each value of a class

-- the sum of the register number j of a level: over the terms under it, one tick later for each level
abbrev pub tree_sum : Class → ℕ → List Reading → List Term → ℕ → ℕ → HeldSum
tree_sum class lag readings terms level j = record { form = form_of readings (term_segment (suc level) j terms); class = class; lag = lag + suc level }

-- of the first registers of a level
abbrev pub level_sums : Class → ℕ → List Reading → List Term → ℕ → ℕ → List HeldSum
level_sums class lag readings terms level zero = []
level_sums class lag readings terms level (suc j) = level_sums class lag readings terms level j ++ tree_sum class lag readings terms level j ∷ []

-- level by level, each from the left
abbrev pub class_tree_sums : Class → ℕ → List Reading → List Term → ℕ → List HeldSum
class_tree_sums class lag readings terms zero = []
class_tree_sums class lag readings terms (suc level) = class_tree_sums class lag readings terms level ++ level_sums class lag readings terms level (level_count (length terms) (suc level))

-- at every value, so many ticks after the window
abbrev pub tree_sums : List Reading → ℕ → List Term → ℕ → List HeldSum
tree_sums readings ticks terms levels = class_tree_sums every (suc ticks) readings terms levels

-- ---- registers

-- registers of one kind with one sum each, numbered on
abbrev pub numbered : NameKind → ℕ → List HeldSum → List StageRegister
numbered kind number [] = []
numbered kind number (s ∷ sums) = record { kind = kind; number = number; sums = s ∷ [] } ∷ numbered kind (suc number) sums
