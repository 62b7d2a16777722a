-- A chain at its start.
use Rattle.std.specs.Prelude.{◌≡◌, ℕ, suc, ◌*◌, ◌<◌, List, [], ◌∷◌, ◌++◌, length, ℤ, pos, negsuc}
use Rattle.mr_values.specs.declared.plan.Element.{Element}
use Rattle.mr_values.specs.Sequence.{Sequence, samples, up, filter_times, ones}
use Rattle.mr_values.specs.declared.plan.Element.TheVariants.{Up, Down, CicDown, CicUp}
use Rattle.mr_values.specs.Value.{size, apply, chain, val}
use Rattle.chain_values.specs.declared.stage.Stage.{Stage}
use Rattle.chain_values.specs.Streams.{values_from}
use Rattle.chain_values.specs.Phases.{AllFit, IsDue}
use Rattle.chain_values.specs.ChainStates.{AllFollow, AllDue}

-- x is 0 before index 0
pub record Starts (x : Sequence) : Type 0 where
  pub before : (i : ℕ) → x (negsuc i) ≡ pos 0

-- each value within the element fits
abbrev pub FitWithin : Element → Sequence → Type 0
FitWithin (CicDown factor stages delay) x = (k : ℕ) → k < size stages → AllFit (filter_times (suc k) (ones (size factor * size delay)) x)
FitWithin (CicUp factor stages delay) x = AllFit (up (size factor) x) × ((k : ℕ) → k < size stages → AllFit (filter_times (suc k) (ones (size factor * size delay)) (up (size factor) x)))
FitWithin _ x = Unit {0}

-- each value on the way fits
abbrev pub FitAlong : List Element → Sequence → Type 0
FitAlong [] x = Unit {0}
FitAlong (e ∷ es) x = (FitWithin e x × AllFit (apply e x)) × FitAlong es (apply e x)

-- by how much an element raises and lowers the rate
abbrev pub raised_by : Element → ℕ
raised_by (Up factor) = size factor
raised_by (CicUp factor stages delay) = size factor
raised_by _ = 1

abbrev pub lowered_by : Element → ℕ
lowered_by (Down factor) = size factor
lowered_by (CicDown factor stages delay) = size factor
lowered_by _ = 1

-- so many values after all elements belong to so many samples: after each element as many as belong to those before it
abbrev pub ElementsDue : List Element → ℤ → ℤ → Type 0
ElementsDue [] taken given = given ≡ taken
ElementsDue (e ∷ es) taken given = (between : ℤ) × (IsDue (raised_by e) (lowered_by e) taken between × ElementsDue es between given)

-- the stages make what the elements say, and have taken nothing
pub record Begin (elements : List Element) (stages : List Stage) : Type 0 where
  pub law : (x : Sequence) → Starts x → FitAlong elements x → AllFollow stages x (chain elements x) (negsuc 0) (pos 0)
  pub due : (taken given : ℤ) → AllDue stages taken given → ElementsDue elements taken given

-- The samples went through a new chain of these elements: its outputs are the values from index 0 on, exactly those that belong to the samples.
pub record GivesValues (elements : List Element) (xs out : List ℤ) : Type 0 where
  pub law : FitAlong elements (samples xs) → (count : ℕ) × ((out ≡ values_from (val elements xs) (pos 0) count) × ElementsDue elements (pos (length xs)) (pos count))

-- the stages make what the element says, and have taken nothing
pub record Makes (e : Element) (stages : List Stage) : Type 0 where
  pub follows : (x : Sequence) → Starts x → FitWithin e x → AllFit (apply e x) → AllFollow stages x (apply e x) (negsuc 0) (pos 0)
  pub starts : (x : Sequence) → Starts x → Starts (apply e x)
  pub due : (taken given : ℤ) → AllDue stages taken given → IsDue (raised_by e) (lowered_by e) taken given

-- so many sums of this width, one after another, that have taken nothing
pub record SumsMake (width count : ℕ) (stages : List Stage) : Type 0 where
  pub law : (x : Sequence) → Starts x → ((k : ℕ) → k < count → AllFit (filter_times (suc k) (ones width) x)) → AllFollow stages x (filter_times count (ones width) x) (negsuc 0) (pos 0)
  pub due : (taken given : ℤ) → AllDue stages taken given → given ≡ taken

-- stages of this kind were added
abbrev pub Adds : (List Stage → Type 0) → List Stage → List Stage → Type 0
Adds Kind old new = (added : List Stage) × ((new ≡ old ++ added) × Kind added)
