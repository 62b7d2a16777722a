-- Stages, one after another.
use Rattle.std.specs.Prelude.{◌≡◌, ℕ, List, [], ◌∷◌, ◌++◌, length, take, drop, ℤ, pos, ◌+ℤ◌, ◌-ℤ◌}
use Rattle.mr_values.specs.Sequence.{Sequence}
use Rattle.mr_values.specs.Value.{round, clip}
use Rattle.chain_values.specs.declared.stage.Stage.{Stage}
use Rattle.chain_values.specs.declared.stage.Stage.TheVariants.{Group, Sum, Rounded, Clipped}
use Rattle.chain_values.specs.Streams.{AreFrom, Grows}
use Rattle.chain_values.specs.Phases.{AllFit, IsDue}
use Rattle.chain_values.specs.FirStates.{StandsAt}
use Rattle.chain_values.specs.PairStates.{given_by}
use Rattle.chain_values.specs.SumStates.{SumStands, summed_by}

-- the stage makes y of x, took x up to index j, and gives y from index n on
abbrev pub Follows : Stage → Sequence → Sequence → ℤ → ℤ → Type 0
Follows (Group group) x y j n = (taps : List ℤ) × ((y ≡ given_by taps group x) × StandsAt taps group x j n)
Follows (Sum sum) x y j n = (y ≡ summed_by sum x) × ((n ≡ j +ℤ pos 1) × SumStands sum x j)
Follows (Rounded rounding) x y j n = (y ≡ round rounding.mode rounding.shift x) × (n ≡ j +ℤ pos 1)
Follows (Clipped clipping) x y j n = (y ≡ clip clipping.bits x) × (n ≡ j +ℤ pos 1)

-- so many outputs of the stage belong to so many values
abbrev pub StageDue : Stage → ℤ → ℤ → Type 0
StageDue (Group group) taken given = IsDue (length group.phases.items) group.lowered taken given
StageDue (Sum sum) taken given = given ≡ taken
StageDue (Rounded rounding) taken given = given ≡ taken
StageDue (Clipped clipping) taken given = given ≡ taken

-- so many outputs of all stages belong to so many values
abbrev pub AllDue : List Stage → ℤ → ℤ → Type 0
AllDue [] taken given = given ≡ taken
AllDue (s ∷ ss) taken given = (between : ℤ) × (StageDue s taken between × AllDue ss between given)

-- values were taken, and the outputs that they make due were given
pub record Advances (old : Stage) (values before after : List ℤ) (new : Stage) : Type 0 where
  pub law : (x y : Sequence) (j n : ℤ) → Follows old x y j n → AreFrom x (j +ℤ pos 1) values → AllFit y
      → (m : ℤ) × (Grows y n m before after × Follows new x y (j +ℤ pos (length values)) m)
  pub due : (taken given : ℤ) → StageDue new taken given → StageDue old taken given

-- the stages make z of x, one after another; each value on the way fits
abbrev pub AllFollow : List Stage → Sequence → Sequence → ℤ → ℤ → Type 0
AllFollow [] x z j p = (z ≡ x) × (p ≡ j +ℤ pos 1)
AllFollow (s ∷ ss) x z j p = (y : Sequence) × ((n : ℤ) × (Follows s x y j n × (AllFit y × AllFollow ss y z (n -ℤ pos 1) p)))

-- the same of all stages
pub record AllAdvance (old : List Stage) (values before after : List ℤ) (new : List Stage) : Type 0 where
  pub law : (x z : Sequence) (j p : ℤ) → AllFollow old x z j p → AreFrom x (j +ℤ pos 1) values
      → (q : ℤ) × (Grows z p q before after × AllFollow new x z (j +ℤ pos (length values)) q)
  pub due : (taken given : ℤ) → AllDue new taken given → AllDue old taken given

-- the values went through the first i stages, and became these
pub record Midway (old : List Stage) (i : ℕ) (values current : List ℤ) (stages : List Stage) : Type 0 where
  pub long : length stages ≡ length old
  pub law : (x z : Sequence) (j p : ℤ) → AllFollow old x z j p → AreFrom x (j +ℤ pos 1) values
      → (w : Sequence) × ((a : ℤ) × (AllFollow (drop i stages) w z a p × (AreFrom w (a +ℤ pos 1) current
      × ((rest : List Stage) (q : ℤ) → AllFollow rest w z (a +ℤ pos (length current)) q → AllFollow (take i stages ++ rest) x z (j +ℤ pos (length values)) q))))
  pub due : (taken given : ℤ) → AllDue stages taken given → AllDue old taken given
