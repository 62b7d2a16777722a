-- The elements that a group takes, and the first group that fails a test.
use Rattle.std.specs.Prelude.{◌≡◌, ℕ, ◌+◌, ◌-◌, ◌≤◌, List, [], ◌∷◌, length, All, Option, None, Some, unwrap_or, ℤ}
use Rattle.std.specs.Option.{option_or, option_map}
use Rattle.mr_values.specs.declared.plan.Element.{Element}
use Rattle.mr_values.specs.declared.plan.Element.TheVariants.{Up, Down, Filter}
use Rattle.mr_values.specs.declared.plan.Form.{Form}
use Rattle.mr_values.specs.Value.{size, AreTaps, IsForm, IsWithinLimits}
use Rattle.mr_values.specs.Timing.{Group, Fir, DownCic, UpCic, Rounding, Clipping, groups, taps_of, form_of}
use Rattle.plan_check.specs.declared.fault.PlanFault.{PlanFault}
use Rattle.plan_check.specs.declared.group.FirFilter.{FirFilter}
use Rattle.plan_check.specs.declared.group.PlanGroup.{PlanGroup}
use Rattle.plan_check.specs.declared.group.PlanGroup.TheVariants as parts

-- ---- a group of the code

abbrev pub filter_of : FirFilter → List ℤ × Form
filter_of filter = (filter.taps.now, filter.form)

abbrev pub group_of : PlanGroup → Group
group_of (parts.Fir up filter down) = Fir up (option_map filter_of filter) down
group_of (parts.CicDown factor stages delay) = DownCic factor stages delay
group_of (parts.CicUp factor stages delay) = UpCic factor stages delay
group_of (parts.Round shift mode) = Rounding shift mode
group_of (parts.Clip bits) = Clipping bits

-- ---- elements

abbrev pub present : {A : Type 0} → Option A → ℕ
present None = 0
present (Some x) = 1

-- how many elements a group takes
abbrev pub size_of : Group → ℕ
size_of (Fir up filter down) = present up + present filter + present down
size_of (DownCic factor stages delay) = 1
size_of (UpCic factor stages delay) = 1
size_of (Rounding shift mode) = 1
size_of (Clipping bits) = 1

-- the numbers of its last element, and of its Filter, CIC, Round or Clip, where its first element has the number `first`
abbrev pub last_of : ℕ → Group → ℕ
last_of first g = first + size_of g - 1

abbrev pub middle_of : ℕ → Group → ℕ
middle_of first (Fir up filter down) = first + present up
middle_of first (DownCic factor stages delay) = first
middle_of first (UpCic factor stages delay) = first
middle_of first (Rounding shift mode) = first
middle_of first (Clipping bits) = first

-- an Up, a Filter and a Down at the head of a list, and what follows them
abbrev pub leading_up : List Element → Option ℕ
leading_up (Up factor ∷ es) = Some (size factor)
leading_up _ = None

abbrev pub past_up : List Element → List Element
past_up (Up factor ∷ es) = es
past_up es = es

abbrev pub leading_filter : List Element → Option (List ℤ × Form)
leading_filter (Filter taps form ∷ es) = Some (taps, form)
leading_filter _ = None

abbrev pub past_filter : List Element → List Element
past_filter (Filter taps form ∷ es) = es
past_filter es = es

abbrev pub leading_down : List Element → Option ℕ
leading_down (Down factor ∷ es) = Some (size factor)
leading_down _ = None

abbrev pub past_down : List Element → List Element
past_down (Down factor ∷ es) = es
past_down es = es

-- the list begins with an element that joins others
abbrev pub BeginsFir : List Element → Type 0
BeginsFir (Up factor ∷ es) = Unit {0}
BeginsFir (Filter taps form ∷ es) = Unit {0}
BeginsFir (Down factor ∷ es) = Unit {0}
BeginsFir _ = ⊥

-- the limits of a group's numbers
abbrev pub IsFactor : ℕ → Type 0
IsFactor n = (1 ≤ n) × (n ≤ 4096)

pub record IsCic (factor stages delay : ℕ) : Type 0 where
  pub factor_low : 1 ≤ factor
  pub factor_high : factor ≤ 4096
  pub stages_low : 1 ≤ stages
  pub stages_high : stages ≤ 8
  pub delay_low : 1 ≤ delay
  pub delay_high : delay ≤ 2

pub record IsFir (up : ℕ) (taps : List ℤ) (form : Form) (down : ℕ) : Type 0 where
  pub up_low : 1 ≤ up
  pub up_high : up ≤ 4096
  pub filter_taps : AreTaps taps
  pub filter_form : IsForm form
  pub down_low : 1 ≤ down
  pub down_high : down ≤ 4096

abbrev pub IsGroup : Group → Type 0
IsGroup (Fir up filter down) = IsFir (unwrap_or up 1) (taps_of filter) (form_of filter) (unwrap_or down 1)
IsGroup (DownCic factor stages delay) = IsCic factor stages delay
IsGroup (UpCic factor stages delay) = IsCic factor stages delay
IsGroup (Rounding shift mode) = (1 ≤ shift) × (shift ≤ 64)
IsGroup (Clipping bits) = (2 ≤ bits) × (bits ≤ 64)

-- the elements are this group and the rest
pub record IsSplit (elements : List Element) (group : Group) (rest : List Element) : Type 0 where
  pub parts : groups elements ≡ group ∷ groups rest
  pub size : length elements ≡ size_of group + length rest
  pub some : 1 ≤ size_of group
  pub within : IsGroup group
  pub limits : All IsWithinLimits rest

-- ---- tests

-- The fault of the first group that fails a test. Each test looks at a group, the number of its first element
-- and a state, which goes from group to group.
abbrev pub first_failing : {S : Type 0} → (ℕ → S → Group → Option PlanFault) → (Group → S → S) → ℕ → S → List Group → Option PlanFault
first_failing test next first s [] = None
first_failing test next first s (g ∷ gs) = option_or (test first s g) (first_failing test next (first + size_of g) (next g s) gs)
